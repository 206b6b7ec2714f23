use Rattle.std.proofs.Common.{◌≡◌, map, take}
use Rattle.scasp_search_rules.specs.Successors.Numbering.{line_renamed, placing}
use Rattle.scasp_search_ends.proofs.finished.renaming.lines_renamed.Given as goal

abbrev pub invariant-loop-line : goal.invariant-loop-line
invariant-loop-line l = l.made ≡ map (line_renamed (placing l.by.all.now)) (take l.line-index l.line-items)
