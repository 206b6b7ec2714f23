use Rattle.std.proofs.Common.{◌≡◌, ◌-◌, drop, length}
use Rattle.scasp_bound.specs.Inside.Gaps.{first_from}
use Rattle.scasp_bound.proofs.places.walk_from.Given as goal

abbrev pub invariant-loop-at : goal.invariant-loop-at
invariant-loop-at l = first_from l.fn.from l.x (drop l.fn.from l.items) ≡ first_from l.at l.x (drop l.at l.items)

abbrev pub decreases-loop-at : goal.decreases-loop-at
decreases-loop-at l = length l.items - l.at
