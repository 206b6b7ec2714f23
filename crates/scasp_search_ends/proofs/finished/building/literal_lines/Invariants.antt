use Rattle.std.proofs.Common.{◌≡◌, ◌+◌, ◌++◌, drop}
use Rattle.scasp_search_rules.specs.Successors.Trees.{literal_lines}
use Rattle.scasp_search_ends.proofs.finished.building.literal_lines.Given as goal

abbrev pub invariant-loop-place : goal.invariant-loop-place
invariant-loop-place l = l.made ++ literal_lines (l.place + 1) (drop l.place l.lines) ≡ literal_lines 1 l.lines
