use Rattle.std.proofs.Common.{◌≡◌, ◌-◌, drop, length}
use Rattle.scasp_bound.specs.Bounds.{among}
use Rattle.scasp_bound.proofs.places.is_among.Given as goal

abbrev pub invariant-loop-at : goal.invariant-loop-at
invariant-loop-at l = among l.x l.xs ≡ among l.x (drop l.at l.xs)

abbrev pub decreases-loop-at : goal.decreases-loop-at
decreases-loop-at l = length l.xs - l.at
