use Rattle.std.proofs.Common.{◌≡◌, length}
use Rattle.std.specs.List.{list_any}
use Rattle.scasp_lines_places.specs.Places.Chains.{chained}
use Rattle.scasp_forall.proofs.chains.any_of.Given as goal

abbrev pub invariant-items : goal.invariant-items
invariant-items g l = list_any (g.T.ConTest.holds l.test) (chained l.rest) ≡ list_any (g.T.ConTest.holds l.test) (chained l.chain)

abbrev pub decreases-items : goal.decreases-items
decreases-items g l = length (chained l.rest)
