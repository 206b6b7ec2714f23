use Rattle.std.proofs.Common.{◌≡◌, drop, map}
use Rattle.std.specs.List.{list_any}
use Rattle.scasp_unify.specs.Solving.{part_of}
use Rattle.scasp_project.specs.Dropped.{is_dropped, part_has}
use Rattle.scasp_project.proofs.dropped.parts_have_dropped.Given as goal

abbrev pub invariant-loop-part : goal.invariant-loop-part
invariant-loop-part l = list_any (part_has (is_dropped l.keep)) (map part_of (drop l.part-index l.parts)) ≡ list_any (part_has (is_dropped l.keep)) (map part_of l.parts)
