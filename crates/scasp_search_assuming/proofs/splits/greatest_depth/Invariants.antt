use Rattle.std.proofs.Common.{◌≡◌, drop, map, max}
use Rattle.scasp_search_rules.specs.Successors.Splits.{greatest}
use Rattle.scasp_search_rules.specs.Successors.Variables.{depth_of}
use Rattle.scasp_search_assuming.proofs.splits.greatest_depth.Given as goal

abbrev pub invariant-loop-x : goal.invariant-loop-x
invariant-loop-x g l =
    max l.greatest (greatest (map (depth_of (g.M.Situation.now l.at)) (drop l.x-index l.xs))) ≡ greatest (map (depth_of (g.M.Situation.now l.at)) l.xs)
