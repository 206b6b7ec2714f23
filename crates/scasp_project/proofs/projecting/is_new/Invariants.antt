use Rattle.std.proofs.Common.{◌≡◌, drop}
use Rattle.scasp_project.specs.Projection.{is_new}
use Rattle.scasp_project.proofs.projecting.is_new.Given as goal

abbrev pub invariant-loop-constraint : goal.invariant-loop-constraint
invariant-loop-constraint l = is_new (drop l.constraint-index l.constraints) l.row ≡ is_new l.constraints l.row
