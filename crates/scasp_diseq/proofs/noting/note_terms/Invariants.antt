use Rattle.std.proofs.Common.{◌≡◌, length, take}
use Rattle.scasp_unify.specs.Parts.{occurs_among}
use Rattle.scasp_diseq.specs.Inside.Noting.{Seen}
use Rattle.scasp_diseq.specs.Inside.Unseen.{any_unseen, work}
use Rattle.scasp_diseq.proofs.noting.note_terms.Given as goal

abbrev pub invariant-loop-list : goal.invariant-loop-list
invariant-loop-list l = record {
  begins : take (length l.initial.mentions) l.mentions ≡ l.initial.mentions;
  seen : Seen l.place (λ y. occurs_among y l.terms) (λ y. any_unseen y l.unseen.items) l.initial.mentions l.mentions;
}

abbrev pub decreases-loop-list : goal.decreases-loop-list
decreases-loop-list l = work l.unseen.items
