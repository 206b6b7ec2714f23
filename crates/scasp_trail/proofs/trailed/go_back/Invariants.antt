use Rattle.std.proofs.Common.{◌≡◌, length, reverse, vec_capacity, vec_len}
use Rattle.scasp_trail.specs.Inside.Undoing.{CanUndo, marked}
use Rattle.scasp_trail.proofs.trailed.go_back.Given as goal

abbrev pub invariant-loop-change : goal.invariant-loop-change
invariant-loop-change g l = record {
  back : marked (reverse l.changes.items) l.items.items ≡ marked (reverse l.fn.changes.items) l.fn.items.items;
  can : CanUndo (vec_capacity l.items) (reverse l.changes.items) (length l.items.items);
}

abbrev pub decreases-loop-change : goal.decreases-loop-change
decreases-loop-change g l = vec_len l.changes
