use Rattle.std.proofs.Common.{◌≡◌}
use Rattle.std.specs.Vec.Iter.{into_iter_items}
use Rattle.scasp_search_rules.specs.Successors.Pairs.{from_first, in_front}
use Rattle.scasp_search_rules.specs.Successors.Variables.{meaning}
use Rattle.scasp_search_assuming.proofs.pairs.from_first.Given as goal

abbrev pub invariant-loop-pair : goal.invariant-loop-pair
invariant-loop-pair g l =
    in_front l.found (into_iter_items l.pair-iterator) (from_first (meaning (g.M.Situation.now l.at)) (into_iter_items l.pair-iterator))
    ≡ from_first (meaning (g.M.Situation.now l.at)) l.fn.pairs
