use Rattle.std.proofs.Common.{◌≡◌, drop, length}
use Rattle.std.specs.Cmp.Lexicographic.{pointwise}
use Rattle.scasp_touched.specs.Same.{same_item}
use Rattle.scasp_touched.proofs.equality.same_items.Given as goal

abbrev pub invariant-loop-place : goal.invariant-loop-place
invariant-loop-place l = record {
  kept : pointwise same_item (drop l.place l.item-items) (drop l.place l.others) ≡ pointwise same_item l.first l.second;
  lengths : length l.item-items ≡ length l.others;
}
