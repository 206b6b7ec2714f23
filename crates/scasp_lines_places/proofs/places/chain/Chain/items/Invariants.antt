use Rattle.std.proofs.Common.{◌≡◌, ◌++◌, map, length}
use Rattle.scasp_lines_places.specs.Places.Chains.{behind, chained}
use Rattle.scasp_lines_places.proofs.places.chain.Chain.items.Given as goal

abbrev pub invariant-loop-item : goal.invariant-loop-item
invariant-loop-item g l = map behind l.all.items ++ chained l.rest ≡ chained l.self

abbrev pub decreases-loop-item : goal.decreases-loop-item
decreases-loop-item g l = length (chained l.rest)
