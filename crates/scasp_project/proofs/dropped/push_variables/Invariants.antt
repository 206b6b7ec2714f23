use Rattle.std.proofs.Common.{◌≡◌, ℕ, ◌+◌, ◌≤◌, Bool, drop}
use Rattle.std.specs.Prelude.{◌||◌}
use Rattle.std.specs.List.{list_any}
use Rattle.scasp_syntax.specs.Tm.{weight_s}
use Rattle.scasp_syntax.specs.View.{tms_of}
use Rattle.scasp_syntax.proofs.Walks.{work}
use Rattle.scasp_unify.specs.Unification.{terms_vars}
use Rattle.scasp_project.proofs.VariableWalk.{list_has}
use Rattle.scasp_project.proofs.dropped.push_variables.Given as goal

abbrev pub invariant-loop-term : goal.invariant-loop-term
invariant-loop-term l = record {
  kept : (test : ℕ → Bool) → (list_any test l.found.items || (list_any (list_has test) l.unseen.items || list_any test (terms_vars (tms_of (drop l.term-index l.list))))) ≡ (list_any test l.fn.found.items || list_any test (terms_vars l.terms));
  smaller : work l.unseen.items + weight_s (tms_of (drop l.term-index l.list)) ≤ work l.initial.unseen.items + weight_s (tms_of l.list);
}

abbrev pub invariant-loop-list : goal.invariant-loop-list
invariant-loop-list l = (test : ℕ → Bool) → (list_any test l.found.items || list_any (list_has test) l.unseen.items) ≡ (list_any test l.fn.found.items || list_any test (terms_vars l.terms))

abbrev pub decreases-loop-list : goal.decreases-loop-list
decreases-loop-list l = work l.unseen.items
