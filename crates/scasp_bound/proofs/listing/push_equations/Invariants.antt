use Rattle.std.proofs.Common.{◌≡◌, ◌++◌, drop, map}
use Rattle.scasp_bound.specs.Bounds.{equation}
use Rattle.scasp_bound.specs.Inside.Gaps.{present}
use Rattle.scasp_bound.proofs.listing.push_equations.Given as goal

abbrev pub invariant-items : goal.invariant-items
invariant-items l = l.list ++ map equation (present (drop l.item-index l.items)) ≡ l.fn.list ++ map equation (present l.items)
