-- States that wait, and what is left of their successors.
use Rattle.std.specs.Prelude.{◌≡◌, ℕ, ◌+◌, Bool, true, false, Option, None, Some, List, [], ◌∷◌, ◌++◌, drop, map, Result, Ok, Err, ⊤}
use Rattle.std.specs.List.{flat_map, list_any}
use Rattle.scasp_hint.specs.Finding.{overflows_in}
use Rattle.scasp_search_constraints.specs.declared.assuming.step.SearchErr.{SearchErr}
use Rattle.scasp_search_constraints.specs.declared.assuming.step.SearchErr.TheVariants as errors
use Rattle.scasp_search_rules.specs.declared.states.covers.Cover.{Cover}
use Rattle.scasp_search_rules.specs.declared.states.state.State.{State}
use Rattle.scasp_search_rules.specs.declared.states.tasks.Task.{Task}
use Rattle.scasp_search_rules.specs.Successors.Calls.{by_rule}
use Rattle.scasp_search_rules.specs.Successors.Cases.{leaves}
use Rattle.scasp_search_rules.specs.Successors.Regions.{before}
use Rattle.scasp_search_rules.specs.Successors.Steps.{Step}
use Rattle.scasp_search_state.specs.declared.choice.Choice.{Choice}
use Rattle.scasp_search_state.specs.declared.choice.Choice.TheVariants as choice
use Rattle.scasp_syntax.specs.Programs.{pred_of, rules_from}
use Rattle.scasp_syntax.specs.declared.atom.Lit.{Lit}
use Rattle.scasp_syntax.specs.declared.atom.Pred.{Pred}
use Rattle.scasp_syntax.specs.declared.clause.Clause.{Clause}
use Rattle.scasp_syntax.specs.declared.program.Program.{Program}

-- ---- points

-- a state that waits, and what is left of its successors
pub record Point : Type 0 where
  pub choice : Choice
  pub state : State

-- the numbers of the rules of the predicate among the clauses behind so many
abbrev pub rules_in : List Clause → Pred → ℕ → List ℕ
rules_in cs p k = rules_from (k + 1) (drop k cs) p

-- the numbers of the rules of the literal behind this one
abbrev pub rules_behind : Program → Lit → ℕ → List ℕ
rules_behind program l k = rules_in program.clauses (pred_of l.atom) k

-- the alternatives of the case of the first of these covers
abbrev pub leaves_of : Program → State → List Cover → List State
leaves_of p s [] = []
leaves_of p s (c ∷ cs) = leaves p s c

-- what the choice leaves to be tried, in the state
abbrev pub left : Program → Choice → State → List State
left p (choice.ByRules l k) s = map (by_rule p s l) (rules_behind p l k)
left p (choice.Cases k) s = drop k (leaves_of p s s.covers)
left p (choice.Other tasks) s = before tasks s ∷ []

-- the states that the points stand for
abbrev pub waiting : Program → List Point → List State
waiting p points = flat_map (λ q. left p q.choice q.state) points

-- ---- the states that are still to be gone through

-- the present state, where it is still to be gone through
abbrev pub ahead : Bool → State → List State
ahead true now = now ∷ []
ahead false now = []

-- the present state, where it is still ahead, and then those that wait
abbrev pub states : Program → Bool → State → List Point → List State
states p is_ahead now points = ahead is_ahead now ++ waiting p points

-- ---- states that are put in front of them

-- These states stand in front of those that waited: the first is the present one, and the others wait. Where there is none, none is
-- ahead.
abbrev pub Forked : Program → List State → State → List Point → List Point → Bool → Type 0
Forked p states now new old true = now ∷ waiting p new ≡ states ++ waiting p old
Forked p states now new old false = (states ≡ []) × (new ≡ old)

-- the same of a step; an overflow is answered only where a list that the step asks overflows
abbrev pub Forks : Program → Step → State → List Point → List Point → Result Bool SearchErr → Type 0
Forks p step now new old (Ok went) = Forked p step.states now new old went
Forks p step now new old (Err errors.Overflow) = list_any overflows_in step.asked ≡ true
Forks p step now new old (Err errors.Memory) = ⊤

-- ---- what is taken away

-- the state of the latest point is the present one, and the point is gone
abbrev pub Taken : List Point → State → List Point → Option Choice → Type 0
Taken [] now new None = new ≡ []
Taken [] now new (Some c) = ⊥
Taken (q ∷ qs) now new None = ⊥
Taken (q ∷ qs) now new (Some c) = (c ≡ q.choice) × (now ≡ q.state) × (new ≡ qs)

-- the first of the state's tasks is gone, if there is one
abbrev pub TakesTask : State → List Task → State → Option Task → Type 0
TakesTask s [] new None = new ≡ s
TakesTask s [] new (Some t) = ⊥
TakesTask s (t ∷ ts) new None = ⊥
TakesTask s (t ∷ ts) new (Some u) = (u ≡ t) × (new ≡ record s { work = ts })
