use Rattle.scasp_unify.proofs.NegationLemmas.{adds-nothing}
use Rattle.scasp_unify.proofs.laws.entailed_constraints_add_nothing.Goals as goal

pub returns : goal.returns
returns c = adds-nothing
