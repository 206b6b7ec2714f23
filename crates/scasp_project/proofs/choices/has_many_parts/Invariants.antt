use Rattle.std.proofs.Common.{◌≡◌, ◌+◌, ◌≤◌, drop}
use Rattle.std.specs.List.{sum_by}
use Rattle.scasp_project.specs.Choices.{part_count}
use Rattle.scasp_project.specs.Inside.CodeReading.{reading}
use Rattle.scasp_project.proofs.choices.has_many_parts.Given as goal

abbrev pub invariant-loop-constraint : goal.invariant-loop-constraint
invariant-loop-constraint l = (l.count ≤ 6) × (l.count + sum_by (part_count (reading l.resolver l.keep)) (drop l.constraint-index l.constraints) ≡ sum_by (part_count (reading l.resolver l.keep)) l.constraints)
