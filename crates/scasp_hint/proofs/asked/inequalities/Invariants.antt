use Rattle.std.proofs.Common.{◌≡◌, ◌++◌, Some, drop}
use Rattle.scasp_num.specs.Arithmetic.{◌>>=◌}
use Rattle.scasp_unify.specs.Solving.{sub_of}
use Rattle.scasp_hint.specs.AskedRows.{given_rows, inequalities, resolved_each}
use Rattle.scasp_hint.proofs.asked.inequalities.Given as goal

abbrev pub invariant-loop-constraint : goal.invariant-loop-constraint
invariant-loop-constraint l =
    (resolved_each (sub_of l.bindings) (inequalities (given_rows (drop l.constraint-index l.constraints))) >>= (λ qs. Some (l.rows ++ qs))) ≡ resolved_each (sub_of l.bindings) (inequalities (given_rows l.constraints))
