use Rattle.std.proofs.Common.{◌≡◌, drop, map}
use Rattle.scasp_unify.specs.Solving.{part_of}
use Rattle.scasp_project.specs.Choices.{speak_of_dropped}
use Rattle.scasp_project.specs.Inside.CodeReading.{reading}
use Rattle.scasp_project.proofs.dropped.speak_of_dropped.Given as goal

abbrev pub invariant-loop-part : goal.invariant-loop-part
invariant-loop-part l = speak_of_dropped (reading l.resolver l.keep) (map part_of (drop l.part-index l.parts)) ≡ speak_of_dropped (reading l.resolver l.keep) (map part_of l.parts)
