use Rattle.std.proofs.Common.{◌≡◌, ◌++◌, filter, length, reverse, slice_get}
use Rattle.std.specs.List.{filter_map}
use Rattle.scasp_diseq.specs.Inside.Indexed.{AreBelow, cons_of, is_disequation}
use Rattle.scasp_diseq.specs.Pending.{is_pending_on}
use Rattle.scasp_diseq.proofs.finding.woken.Given as goal

abbrev pub invariant-loop-place : goal.invariant-loop-place
invariant-loop-place l = record {
  below : AreBelow (length (cons_of l.posted.items)) (reverse l.places.items);
  woken : l.made ++ filter is_disequation (filter_map (slice_get (cons_of l.posted.items)) (reverse l.places.items)) ≡ filter (is_pending_on l.x) (cons_of l.posted.items);
}

abbrev pub decreases-loop-place : goal.decreases-loop-place
decreases-loop-place l = length l.places.items
