use Rattle.std.proofs.Common.{◌≡◌, ◌&&◌}
use Rattle.scasp_bound.specs.Inside.Pairs.{is_same}
use Rattle.scasp_bound.proofs.PairLemmas.{all_same, all_work}
use Rattle.scasp_bound.proofs.sameness.are_both_same.Given as goal

abbrev pub invariant-pairs : goal.invariant-pairs
invariant-pairs l = all_same l.bindings l.unseen.items ≡ (is_same l.bindings l.first && is_same l.bindings l.second)

abbrev pub decreases-pairs : goal.decreases-pairs
decreases-pairs l = all_work l.bindings l.unseen.items
