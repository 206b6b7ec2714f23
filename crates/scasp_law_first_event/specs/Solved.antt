-- Bindings in solved form, and pairs of terms that speak of variables that were made.
use Rattle.std.specs.Prelude.{ℕ, Bool, true, ◌&&◌, not, nat_lt, List, [], ◌∷◌, length}
use Rattle.std.specs.List.{list_all, list_any}
use Rattle.scasp_search_rules.specs.declared.states.state.State.{State}
use Rattle.scasp_search_rules.specs.declared.states.tasks.Pair.{Pair}
use Rattle.scasp_search_rules.specs.declared.states.tasks.Task.{Task}
use Rattle.scasp_search_rules.specs.declared.states.tasks.Task.TheVariants as task
use Rattle.scasp_syntax.specs.View.{tm_of}
use Rattle.scasp_syntax.specs.WellFormed.{is_below}
use Rattle.scasp_unify.specs.Parts.{occurs}
use Rattle.scasp_unify.specs.declared.bindings.Binding.{Binding}

-- x stands in none of the terms of these bindings
abbrev pub is_absent : ℕ → List Binding → Bool
is_absent x bs = list_all (λ b. not (occurs x (tm_of b.term))) bs

-- in no binding's term stands its variable, or one that was bound before
abbrev pub are_solved : List Binding → Bool
are_solved [] = true
are_solved (b ∷ bs) = is_absent b.x (b ∷ bs) && are_solved bs

-- a variable stands in the term that it is bound to
abbrev pub has_circle : List Binding → Bool
has_circle bs = list_any (λ b. occurs b.x (tm_of b.term)) bs

-- the variables of the bindings are below n
abbrev pub are_bindings_below : ℕ → List Binding → Bool
are_bindings_below n bs = list_all (λ b. nat_lt b.x n && is_below n (tm_of b.term)) bs

abbrev pub are_pairs_below : ℕ → List Pair → Bool
are_pairs_below n ps = list_all (λ p. is_below n (tm_of p.left) && is_below n (tm_of p.right)) ps

-- the variables of terms that are to be equal or apart are below n
abbrev pub is_task_below : ℕ → Task → Bool
is_task_below n (task.Equate t u) = is_below n (tm_of t) && is_below n (tm_of u)
is_task_below n (task.Differ ps aim) = are_pairs_below n ps
is_task_below n (task.Show i) = true
is_task_below n (task.Assume c) = true
is_task_below n (task.Become x t ps aim) = true
is_task_below n (task.Avoid x q ps aim) = true
is_task_below n (task.Shape x f ts ps aim) = true
is_task_below n (task.Cover a k) = true
is_task_below n (task.Check k checks_head) = true
is_task_below n (task.Begin k first checks_head) = true
is_task_below n task.Void = true
is_task_below n task.Leave = true
is_task_below n task.Close = true

-- The bindings are solved, and the variables of the bindings, and of terms that are to be equal or apart, were made.
abbrev pub is_solved : State → Bool
is_solved s =
    are_solved s.bound
    && (are_bindings_below (length s.made) s.bound && list_all (is_task_below (length s.made)) s.work)
