use Rattle.scasp_law_propositional.proofs.PropositionalLemmas.Meeting.{premises-met}
use Rattle.scasp_law_propositional.proofs.propositional.laws.premises_are_met.Goals as goal

pub returns : goal.returns
returns c = premises-met
