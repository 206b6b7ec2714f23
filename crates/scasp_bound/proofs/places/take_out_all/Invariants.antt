use Rattle.std.proofs.Common.{◌≡◌, ◌-◌, length}
use Rattle.scasp_bound.specs.Inside.Gaps.{gaps_to}
use Rattle.scasp_bound.proofs.places.take_out_all.Given as goal

abbrev pub invariant-loop-at : goal.invariant-loop-at
invariant-loop-at l = record {
  now : l.list.now ≡ gaps_to l.at l.x l.fn.list.now;
  before : l.list.before ≡ l.fn.list.before;
}

abbrev pub decreases-loop-at : goal.decreases-loop-at
decreases-loop-at l = length l.list.now - l.at
