use Rattle.std.proofs.Common.{◌≡◌, drop}
use Rattle.std.specs.List.{list_any}
use Rattle.scasp_search_rules.specs.Successors.Replacing.{tells_unreplaced}
use Rattle.scasp_unify.specs.Solving.{sub_of}
use Rattle.scasp_readings.proofs.lines.lines_overflow.Given as goal

abbrev pub invariant-loop-line : goal.invariant-loop-line
invariant-loop-line l = list_any (tells_unreplaced (sub_of l.bound.now)) (drop l.line-index l.lines) ≡ list_any (tells_unreplaced (sub_of l.bound.now)) l.lines
