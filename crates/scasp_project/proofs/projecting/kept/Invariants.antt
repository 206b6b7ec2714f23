use Rattle.std.proofs.Common.{◌≡◌, ◌++◌, drop}
use Rattle.scasp_project.specs.Projection.{kept}
use Rattle.scasp_project.specs.Inside.CodeReading.{reading}
use Rattle.scasp_project.proofs.projecting.kept.Given as goal

abbrev pub invariant-loop-constraint : goal.invariant-loop-constraint
invariant-loop-constraint l = l.left ++ kept (reading l.resolver l.keep) (drop l.constraint-index l.constraints) ≡ kept (reading l.resolver l.keep) l.constraints
