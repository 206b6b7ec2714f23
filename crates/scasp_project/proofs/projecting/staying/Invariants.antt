use Rattle.std.proofs.Common.{◌≡◌, ◌++◌, drop, filter}
use Rattle.scasp_project.specs.Projection.{stays}
use Rattle.scasp_project.proofs.projecting.staying.Given as goal

abbrev pub invariant-loop-constraint : goal.invariant-loop-constraint
invariant-loop-constraint l = l.left ++ filter (stays l.keep) (drop l.constraint-index l.constraints) ≡ filter (stays l.keep) l.constraints
