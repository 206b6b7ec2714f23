use Rattle.std.proofs.Common.{◌≡◌, ℕ, ◌+◌, ◌≤◌, ◌||◌, drop}
use Rattle.scasp_syntax.specs.Tm.{weight_s}
use Rattle.scasp_syntax.specs.View.{tms_of}
use Rattle.scasp_syntax.proofs.Walks.{work}
use Rattle.scasp_abduce.specs.Occurrences.{has, terms_names}
use Rattle.scasp_abduce.proofs.NameSetLemmas.{unseen_has}
use Rattle.scasp_abduce.proofs.occurrences.TermsHasNames.take_names.Given as goal

abbrev pub invariant-loop-term : goal.invariant-loop-term
invariant-loop-term l = record {
  kept : (n : ℕ) → (has l.taken n || (unseen_has l.unseen.items n || has (terms_names (tms_of (drop l.term-index l.list))) n)) ≡ (has l.fn.taken n || has (terms_names l.self) n);
  smaller : work l.unseen.items + weight_s (tms_of (drop l.term-index l.list)) ≤ work l.initial.unseen.items + weight_s (tms_of l.list);
}

abbrev pub invariant-loop-list : goal.invariant-loop-list
invariant-loop-list l = (n : ℕ) → (has l.taken n || unseen_has l.unseen.items n) ≡ (has l.fn.taken n || has (terms_names l.self) n)

abbrev pub decreases-loop-list : goal.decreases-loop-list
decreases-loop-list l = work l.unseen.items
