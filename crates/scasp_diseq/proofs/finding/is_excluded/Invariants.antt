use Rattle.std.proofs.Common.{◌≡◌, length, slice_get, take}
use Rattle.std.specs.List.{filter_map, list_any}
use Rattle.scasp_diseq.specs.Inside.Chains.{Before, places_of, up_to}
use Rattle.scasp_diseq.specs.Inside.Indexed.{AreBelow, cons_of, is_shape}
use Rattle.scasp_diseq.proofs.finding.is_excluded.Given as goal

abbrev pub invariant-loop-next : goal.invariant-loop-next
invariant-loop-next l = record {
  before : Before l.x l.mentions l.next;
  below : AreBelow (length (cons_of l.posted.items)) (places_of l.x (take before.count l.mentions));
  shape : list_any (is_shape l.x l.name l.arity) (filter_map (slice_get (cons_of l.posted.items)) (places_of l.x (take before.count l.mentions))) ≡ list_any (is_shape l.x l.name l.arity) (cons_of l.posted.items);
}

abbrev pub decreases-loop-next : goal.decreases-loop-next
decreases-loop-next l = up_to l.next
