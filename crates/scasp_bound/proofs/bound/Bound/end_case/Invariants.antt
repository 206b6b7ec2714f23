use Rattle.std.proofs.Common.{◌≡◌, ◌-◌, drop, length}
use Rattle.scasp_bound.specs.Inside.Gaps.{each_out}
use Rattle.scasp_bound.proofs.bound.Bound.end_case.Given as goal

abbrev pub invariant-loop-at : goal.invariant-loop-at
invariant-loop-at l = record {
  now : each_out l.universals l.but l.fn.self.now ≡ each_out (drop l.at l.universals) l.but l.self.now;
  before : l.self.before ≡ l.fn.self.before;
}

abbrev pub decreases-loop-at : goal.decreases-loop-at
decreases-loop-at l = length l.universals - l.at
