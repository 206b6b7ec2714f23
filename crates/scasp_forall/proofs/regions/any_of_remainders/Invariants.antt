use Rattle.std.proofs.Common.{◌≡◌, length}
use Rattle.std.specs.List.{list_any}
use Rattle.scasp_forall.specs.Inside.Kept.{remaining_of}
use Rattle.scasp_lines_places.specs.Places.Chains.{chained}
use Rattle.scasp_forall.proofs.regions.any_of_remainders.Given as goal

abbrev pub invariant-remainders : goal.invariant-remainders
invariant-remainders g l =
    list_any (g.T.ConTest.holds l.test) (remaining_of (chained l.rest)) ≡ list_any (g.T.ConTest.holds l.test) (remaining_of (chained l.waiting))

abbrev pub decreases-remainders : goal.decreases-remainders
decreases-remainders g l = length (chained l.rest)
