use Rattle.std.proofs.Common.{◌≡◌, drop, map}
use Rattle.std.specs.List.{list_any}
use Rattle.scasp_unify.specs.Solving.{part_of}
use Rattle.scasp_project.specs.Choices.{is_mixed}
use Rattle.scasp_project.specs.Inside.CodeReading.{reading}
use Rattle.scasp_project.proofs.choices.some_mixed.Given as goal

abbrev pub invariant-loop-part : goal.invariant-loop-part
invariant-loop-part l = list_any (is_mixed (reading l.resolver l.keep)) (map part_of (drop l.part-index l.parts)) ≡ list_any (is_mixed (reading l.resolver l.keep)) (map part_of l.parts)
