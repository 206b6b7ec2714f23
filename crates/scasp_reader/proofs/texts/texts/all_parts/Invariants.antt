use Rattle.std.proofs.Common.{◌≡◌, ◌+◌, ◌<◌, ◌^◌}
use Rattle.scasp_reader.specs.Texts.Texts.{part_count, parts_within, parts}
use Rattle.scasp_reader.proofs.texts.texts.all_parts.Given as goal

abbrev pub invariant-loop-left : goal.invariant-loop-left
invariant-loop-left l = (parts_within l.left l.parts l.reader ≡ parts l.fn.reader) × (part_count l.parts + l.left < 2 ^ 64)

abbrev pub decreases-loop-left : goal.decreases-loop-left
decreases-loop-left l = l.left
