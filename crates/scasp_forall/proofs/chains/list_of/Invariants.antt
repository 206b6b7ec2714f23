use Rattle.std.proofs.Common.{◌≡◌, ◌++◌, length}
use Rattle.scasp_lines_places.specs.Places.Chains.{chained}
use Rattle.scasp_forall.proofs.chains.list_of.Given as goal

abbrev pub invariant-items : goal.invariant-items
invariant-items g l = l.made.items ++ chained l.rest ≡ chained l.chain

abbrev pub decreases-items : goal.decreases-items
decreases-items g l = length (chained l.rest)
