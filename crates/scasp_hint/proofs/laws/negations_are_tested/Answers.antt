use Rattle.scasp_hint.proofs.Entailment.{entailed-tested}
use Rattle.scasp_hint.proofs.laws.negations_are_tested.Goals as goal

pub returns : goal.returns
returns c = entailed-tested
