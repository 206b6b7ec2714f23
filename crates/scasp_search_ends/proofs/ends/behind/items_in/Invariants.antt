use Rattle.std.proofs.Common.{◌≡◌, ◌++◌, map, length}
use Rattle.scasp_lines_places.specs.Places.Chains.{chained}
use Rattle.scasp_search_ends.proofs.ends.behind.items_in.Given as goal

abbrev pub invariant-loop-item : goal.invariant-loop-item
invariant-loop-item g l = map (λ b. b.now) l.all.items ++ chained l.rest ≡ chained l.chain

abbrev pub decreases-loop-item : goal.decreases-loop-item
decreases-loop-item g l = length (chained l.rest)
