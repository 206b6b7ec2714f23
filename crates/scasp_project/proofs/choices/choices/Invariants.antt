use Rattle.std.proofs.Common.{◌≡◌, drop}
use Rattle.scasp_project.specs.Choices.{choices, chosen}
use Rattle.scasp_project.specs.Inside.CodeReading.{reading}
use Rattle.scasp_project.proofs.choices.choices.Given as goal

abbrev pub invariant-loop-constraint : goal.invariant-loop-constraint
invariant-loop-constraint l = chosen (reading l.resolver l.keep) l.lists (drop l.constraint-index l.constraints) ≡ choices (reading l.resolver l.keep) l.constraints
