use Rattle.std.proofs.Common.{◌≡◌, ◌++◌, drop, map, filter}
use Rattle.scasp_syntax.specs.declared.con.Con.TheVariants as con
use Rattle.scasp_project.specs.Projection.{is_new, remaining}
use Rattle.scasp_project.proofs.projecting.remaining.Given as goal

abbrev pub invariant-loop-row : goal.invariant-loop-row
invariant-loop-row l = l.left ++ map con.Row (filter (is_new l.constraints) (drop l.row-index l.rows)) ≡ remaining l.keep l.constraints l.rows
