use Rattle.std.proofs.Common.{◌≡◌, ◌+◌, ◌≤◌, ◌||◌, drop, length, take}
use Rattle.scasp_syntax.specs.Tm.{weight_s}
use Rattle.scasp_syntax.specs.View.{tms_of}
use Rattle.scasp_unify.specs.Parts.{occurs_among}
use Rattle.scasp_diseq.specs.Inside.Noting.{Seen}
use Rattle.scasp_diseq.specs.Inside.Unseen.{any_unseen, work}
use Rattle.scasp_diseq.proofs.noting.note_list.Given as goal

abbrev pub invariant-loop-term : goal.invariant-loop-term
invariant-loop-term l = record {
  begins : take (length l.initial.mentions) l.mentions ≡ l.initial.mentions;
  seen : Seen l.place (λ y. any_unseen y l.initial.unseen.items || occurs_among y (tms_of l.list)) (λ y. any_unseen y l.unseen.items || occurs_among y (tms_of (drop l.term-index l.list))) l.initial.mentions l.mentions;
  smaller : work l.unseen.items + weight_s (tms_of (drop l.term-index l.list)) ≤ work l.initial.unseen.items + weight_s (tms_of l.list);
}
