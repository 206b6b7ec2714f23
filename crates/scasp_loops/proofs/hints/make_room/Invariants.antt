use Rattle.std.proofs.Common.{◌≡◌, ◌+◌, ◌-◌, ℕ, length}
use Rattle.scasp_loops.specs.Inside.Hinted.{place_in}
use Rattle.scasp_loops.proofs.hints.make_room.Given as goal

abbrev pub invariant-keys : goal.invariant-keys
invariant-keys l = record {
  now : (k : ℕ) → place_in l.latest.now k ≡ place_in l.fn.latest.now k;
  before : l.latest.before ≡ l.fn.latest.before;
}

abbrev pub decreases-keys : goal.decreases-keys
decreases-keys l = l.key + 1 - length l.latest.now
