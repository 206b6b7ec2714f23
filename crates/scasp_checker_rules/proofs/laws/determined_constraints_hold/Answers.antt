use Rattle.scasp_checker_rules.proofs.DeterminedLemmas.{determined-truth}
use Rattle.scasp_checker_rules.proofs.laws.determined_constraints_hold.Goals as goal

pub returns : goal.returns
returns c = determined-truth
