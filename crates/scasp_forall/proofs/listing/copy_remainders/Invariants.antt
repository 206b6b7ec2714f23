use Rattle.std.proofs.Common.{◌≡◌, ◌++◌, length, map}
use Rattle.scasp_forall.specs.Inside.Kept.{remainder_of}
use Rattle.scasp_lines_places.specs.Places.Chains.{chained}
use Rattle.scasp_forall.proofs.listing.copy_remainders.Given as goal

abbrev pub invariant-remainders : goal.invariant-remainders
invariant-remainders l = l.made ++ map remainder_of (chained l.rest) ≡ map remainder_of (chained l.waiting)

abbrev pub decreases-remainders : goal.decreases-remainders
decreases-remainders l = length (chained l.rest)
