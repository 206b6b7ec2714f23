use Rattle.std.proofs.Common.{◌≡◌, ℕ, ◌+◌, ◌-◌, length}
use Rattle.scasp_bound.specs.Inside.Gaps.{item}
use Rattle.scasp_bound.proofs.places.make_room.Given as goal

abbrev pub invariant-loop-places : goal.invariant-loop-places
invariant-loop-places l = record {
  now : (y : ℕ) → item l.places.now y ≡ item l.fn.places.now y;
  before : l.places.before ≡ l.fn.places.before;
}

abbrev pub decreases-loop-places : goal.decreases-loop-places
decreases-loop-places l = l.at + 1 - length l.places.now
