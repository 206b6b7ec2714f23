use Rattle.std.proofs.Common.{◌≡◌, drop}
use Rattle.std.specs.List.{list_any}
use Rattle.scasp_search_rules.specs.Successors.Replacing.{lines_overflow, tells_unreplaced}
use Rattle.scasp_search_rules.specs.Successors.Variables.{meaning}
use Rattle.scasp_search_ends.proofs.ends.replacing.lines_overflow.Given as goal

abbrev pub invariant-loop-line : goal.invariant-loop-line
invariant-loop-line l = list_any (tells_unreplaced (meaning l.state)) (drop l.line-index l.line-items) ≡ lines_overflow l.state
