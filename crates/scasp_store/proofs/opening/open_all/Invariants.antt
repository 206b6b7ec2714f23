use Rattle.std.proofs.Common.{◌≡◌, ◌-◌, ◌<◌, ℕ, true}
use Rattle.scasp_bound.specs.Bounds.{among}
use Rattle.scasp_store.proofs.opening.open_all.Given as goal

abbrev pub invariant-loop-place : goal.invariant-loop-place
invariant-loop-place l = record {
  now : (i : ℕ) → i < l.place → among i l.places.now ≡ true;
  before : l.places.before ≡ l.fn.places.before;
}

abbrev pub decreases-loop-place : goal.decreases-loop-place
decreases-loop-place l = l.count - l.place
