use Rattle.std.proofs.Common.{◌≡◌, drop}
use Rattle.scasp_print_remarks.specs.Remarks.{has_empty}
use Rattle.scasp_print_remarks.proofs.wheres.has_empty.Given as goal

abbrev pub invariant-loop-constraints : goal.invariant-loop-constraints
invariant-loop-constraints l = has_empty (drop l.constraints-index l.lists) ≡ has_empty l.lists
