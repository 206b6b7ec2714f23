use Rattle.std.proofs.Common.{◌≡◌, ℕ, true, length, slice_get}
use Rattle.std.specs.List.{list_all, list_any, sum_by}
use Rattle.scasp_syntax.specs.Tm.{weight}
use Rattle.scasp_syntax.specs.View.{tm_of}
use Rattle.scasp_syntax.specs.WellFormed.{is_below}
use Rattle.scasp_unify.specs.Parts.{occurs}
use Rattle.scasp_bind.specs.Depths.{lowered}
use Rattle.scasp_bind.specs.Inside.Heads.{terms_of}
use Rattle.scasp_bind.specs.Inside.Soundness.{GoesOn}
use Rattle.scasp_bind.proofs.depths.lower_term.Given as goal

abbrev pub invariant-loop-next : goal.invariant-loop-next
invariant-loop-next l = record {
  lowered : (y : ℕ) → lowered (list_any (occurs y) (terms_of l.unseen.items)) l.depth (slice_get l.store.variables y) ≡ lowered (occurs y (tm_of l.term)) l.depth (slice_get l.initial.store.variables y);
  below : list_all (λ t. is_below (length l.store.variables) t) (terms_of l.unseen.items) ≡ true;
  goes_on : GoesOn l.initial.store l.store;
}

abbrev pub decreases-loop-next : goal.decreases-loop-next
decreases-loop-next l = sum_by weight (terms_of l.unseen.items)
