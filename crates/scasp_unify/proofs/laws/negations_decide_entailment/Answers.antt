use Rattle.scasp_unify.proofs.NegationLemmas.{entailed}
use Rattle.scasp_unify.proofs.laws.negations_decide_entailment.Goals as goal

pub returns : goal.returns
returns c = entailed
