use Rattle.std.proofs.Common.{◌≡◌, drop}
use Rattle.std.specs.List.{list_any}
use Rattle.scasp_project.specs.Choices.{has_mixed}
use Rattle.scasp_project.specs.Inside.CodeReading.{reading}
use Rattle.scasp_project.proofs.choices.any_mixed.Given as goal

abbrev pub invariant-loop-constraint : goal.invariant-loop-constraint
invariant-loop-constraint l = list_any (has_mixed (reading l.resolver l.keep)) (drop l.constraint-index l.constraints) ≡ list_any (has_mixed (reading l.resolver l.keep)) l.constraints
