use Rattle.std.proofs.Common.{◌≡◌, true, length, nat_eq}
use Rattle.std.specs.HashMap.{get}
use Rattle.scasp_syntax.specs.Values.{under}
use Rattle.scasp_syntax.specs.View.{tm_of}
use Rattle.scasp_syntax.specs.WellFormed.{is_below}
use Rattle.scasp_bind.specs.Resolving.{binding}
use Rattle.scasp_bind.specs.Inside.Notes.{Adds}
use Rattle.scasp_bind.specs.Inside.Soundness.{most, resolver}
use Rattle.scasp_bind.proofs.ResolvingLemmas.{hops}
use Rattle.scasp_bind.proofs.walks.note_way.Given as goal

abbrev pub invariant-loop-next : goal.invariant-loop-next
invariant-loop-next l = record {
  below : is_below (length l.store.variables) (tm_of l.at) ≡ true;
  same : under (resolver l.store) (tm_of l.at) ≡ under (resolver l.store) (tm_of l.term);
  adds : Adds l.store (tm_of l.term) l.end (get nat_eq l.initial.notes) (get nat_eq l.notes);
}

abbrev pub decreases-loop-next : goal.decreases-loop-next
decreases-loop-next l = hops (most (length l.store.changes)) (binding l.store.variables) (tm_of l.at)
