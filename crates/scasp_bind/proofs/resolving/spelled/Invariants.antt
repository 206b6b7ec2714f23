use Rattle.std.proofs.Common.{◌≡◌, ◌++◌, true, length, nat_eq}
use Rattle.std.specs.HashMap.{get}
use Rattle.std.specs.List.{list_all}
use Rattle.scasp_syntax.specs.Values.{under}
use Rattle.scasp_syntax.specs.View.{tm_of}
use Rattle.scasp_syntax.specs.WellFormed.{is_below}
use Rattle.scasp_bind.specs.Inside.Heads.{heads_of}
use Rattle.scasp_bind.specs.Inside.Notes.{AreEnds}
use Rattle.scasp_bind.specs.Inside.Soundness.{resolver}
use Rattle.scasp_bind.proofs.HeadLemmas.{heads_under, heft, left}
use Rattle.scasp_bind.proofs.resolving.spelled.Given as goal

abbrev pub invariant-loop-next : goal.invariant-loop-next
invariant-loop-next l = record {
  kept : l.heads.items ++ heads_under (resolver l.store) (left l.unseen.items) ≡ heads_of (under (resolver l.store) (tm_of l.term));
  below : list_all (λ t. is_below (length l.store.variables) t) (left l.unseen.items) ≡ true;
  ends : AreEnds l.store (get nat_eq l.ends);
}

abbrev pub decreases-loop-next : goal.decreases-loop-next
decreases-loop-next l = heft (resolver l.store) (left l.unseen.items)
