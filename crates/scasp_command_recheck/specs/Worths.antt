-- What it is worth to come to this by a check.
use Rattle.scasp_checker.specs.declared.verdict.verdict.Verdict.TheVariants.{Right, Joins}
use Rattle.scasp_command_check.specs.declared.worth.Worth.{Worth}
use Rattle.scasp_command_check.specs.declared.worth.Worth.TheVariants as worth
use Rattle.scasp_recheck.specs.declared.checked.Checked.{Checked}
use Rattle.scasp_recheck.specs.declared.checked.Checked.TheVariants.{Accepted, Refused}

abbrev pub worth_in : Checked → Worth
worth_in (Accepted Right) = worth.Right
worth_in (Accepted (Joins fault)) = worth.Joins fault
worth_in (Refused refusal) = worth.Refused refusal
