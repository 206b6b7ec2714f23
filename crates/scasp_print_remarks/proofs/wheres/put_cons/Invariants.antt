use Rattle.std.proofs.Common.{◌≡◌, ◌++◌, true, drop}
use Rattle.scasp_print_remarks.specs.Remarks.{cons_text}
use Rattle.scasp_print_remarks.proofs.wheres.put_cons.Given as goal

abbrev pub invariant-loop-constraint : goal.invariant-loop-constraint
invariant-loop-constraint l =
    l.out.items ++ cons_text l.names l.is_first (drop l.constraint-index l.constraints) ≡ l.fn.out.items ++ cons_text l.names true l.constraints
