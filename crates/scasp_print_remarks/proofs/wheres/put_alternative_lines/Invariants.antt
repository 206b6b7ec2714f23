use Rattle.std.proofs.Common.{◌≡◌, ◌++◌, true, drop}
use Rattle.scasp_print_remarks.specs.Remarks.{alternative_lines}
use Rattle.scasp_print_remarks.proofs.wheres.put_alternative_lines.Given as goal

abbrev pub invariant-loop-constraints : goal.invariant-loop-constraints
invariant-loop-constraints l =
    l.out.items ++ alternative_lines l.names l.is_first (drop l.constraints-index l.lists) ≡ l.fn.out.items ++ alternative_lines l.names true l.lists
