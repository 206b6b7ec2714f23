-- The first of the tasks, and bodies without a false item.
use Rattle.std.specs.Prelude.{◌≡◌, ℕ, zero, suc, ◌≤◌, None, Some, List, [], ◌∷◌, length, refl}
use Rattle.std.proofs.Common.{arith, ap}
use Rattle.scasp_search_rules.specs.declared.states.state.State.{State}
use Rattle.scasp_search_rules.specs.declared.states.tasks.Task.{Task}
use Rattle.scasp_search_rules.specs.Successors.Cases.{failing_at}
use Rattle.scasp_search_state.specs.Choices.{TakesTask}
use Rattle.scasp_syntax.specs.declared.clause.FlatItem.{FlatItem}

pub failing_past : (k : ℕ) (is : List FlatItem) → length is ≤ k → failing_at k is ≡ is
failing_past k [] h = refl
failing_past zero (i ∷ is) h = absurd (omega (arith, h))
failing_past (suc k) (i ∷ is) h = ap (λ (xs : List FlatItem). i ∷ xs) (failing_past k is (omega (arith, h)))

pub none_taken : (s t : State) → s.work ≡ [] → t ≡ record s { work = [] } → TakesTask s s.work t None
none_taken s t e h = rw e h

pub first_taken : (s t : State) (x : Task) (xs : List Task) → s.work ≡ x ∷ xs → t ≡ record s { work = xs } → TakesTask s s.work t (Some x)
first_taken s t x xs e h = rw e (refl, h)
