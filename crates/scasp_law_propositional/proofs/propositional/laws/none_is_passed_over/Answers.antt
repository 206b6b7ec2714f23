use Rattle.scasp_law_propositional.proofs.PropositionalLemmas.Finishing.{none-passed}
use Rattle.scasp_law_propositional.proofs.propositional.laws.none_is_passed_over.Goals as goal

pub returns : goal.returns
returns c = none-passed
