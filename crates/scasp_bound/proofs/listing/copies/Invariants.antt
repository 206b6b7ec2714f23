use Rattle.std.proofs.Common.{◌≡◌, ◌++◌, drop}
use Rattle.scasp_bound.specs.Inside.Gaps.{present}
use Rattle.scasp_bound.proofs.listing.copies.Given as goal

abbrev pub invariant-items : goal.invariant-items
invariant-items l = l.made ++ present (drop l.item-index l.items) ≡ present l.items
