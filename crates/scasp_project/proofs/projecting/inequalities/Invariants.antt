use Rattle.std.proofs.Common.{◌≡◌, ◌++◌, drop}
use Rattle.scasp_hint.specs.AskedRows.{given_rows, inequalities}
use Rattle.scasp_project.proofs.projecting.inequalities.Given as goal

abbrev pub invariant-loop-constraint : goal.invariant-loop-constraint
invariant-loop-constraint l = l.rows ++ inequalities (given_rows (drop l.constraint-index l.constraints)) ≡ inequalities (given_rows l.constraints)
