use Rattle.scasp_checker_rules.proofs.AcceptedLemmas.{accepted-no_fault}
use Rattle.scasp_checker_rules.proofs.laws.accepted_where_no_fault_is.Goals as goal

pub returns : goal.returns
returns c = accepted-no_fault
