-- The states that a search over such a program comes to: no variable is universal, and no case is split.
use Rattle.std.specs.List.{Contains, flat_map}
use Rattle.std.specs.Prelude.{List, [], false, true, ℕ, ⊤, ◌++◌, ◌+◌, ◌<◌, ◌↔◌, ◌∷◌, ◌≡◌, ◌≤◌}
use Rattle.scasp_hint.specs.Satisfying.{sat}
use Rattle.scasp_law_first_event.specs.Events.{IsReachable}
use Rattle.scasp_law_parts.specs.Bound.{Triangular}
use Rattle.scasp_law_sorted.specs.Asking.{asked_next, has_universal_made}
use Rattle.scasp_list.specs.Each.{Each}
use Rattle.scasp_search_rules.specs.Successors.Calls.{head_args, vars_of_clause}
use Rattle.scasp_search_rules.specs.Successors.Problems.{Problem}
use Rattle.scasp_search_rules.specs.Successors.Regions.{asked_with}
use Rattle.scasp_search_rules.specs.Successors.Search.{search_for}
use Rattle.scasp_search_rules.specs.Successors.Splits.{is_bound_in}
use Rattle.scasp_search_rules.specs.Successors.Variables.{meaning}
use Rattle.scasp_search_rules.specs.declared.states.covers.Cover.{Cover}
use Rattle.scasp_search_rules.specs.declared.states.lines.Line.{Line}
use Rattle.scasp_search_rules.specs.declared.states.lines.Line.TheVariants as line
use Rattle.scasp_search_rules.specs.declared.states.state.State.{State}
use Rattle.scasp_search_rules.specs.declared.states.tasks.Task.{Task}
use Rattle.scasp_search_rules.specs.declared.states.tasks.Task.TheVariants as task
use Rattle.scasp_syntax.specs.Constraints.{Entails, Sat}
use Rattle.scasp_syntax.specs.Tm.{Tm}
use Rattle.scasp_syntax.specs.Values.{Sub, all_under, under}
use Rattle.scasp_syntax.specs.WellFormed.{is_query_well_formed}
use Rattle.scasp_syntax.specs.declared.clause.Query.{Query}
use Rattle.scasp_syntax.specs.declared.con.Con.{Con}
use Rattle.scasp_syntax.specs.declared.con.Con.TheVariants as con
use Rattle.scasp_syntax.specs.declared.program.Program.{Program}
use Rattle.scasp_unify.specs.Sorted.{Sorted}
use Rattle.scasp_unify.specs.declared.bindings.Binding.{Binding}
use Rattle.scasp_law_headed_steps.specs.Headed.{is_headed_program}

-- ---- what holds

-- the bindings of the state, as equations, and the given constraints
abbrev pub holds_of : State → List Con
holds_of s = asked_with s s.given

-- the equation that the task is to make
abbrev pub left_by : Task → List Con
left_by (task.Equate t u) = con.Eq t u ∷ []
left_by (task.Show i) = []
left_by (task.Assume c) = []
left_by (task.Differ ps aim) = []
left_by (task.Become x t ps aim) = []
left_by (task.Avoid x q ps aim) = []
left_by (task.Shape x f ts ps aim) = []
left_by (task.Cover a k) = []
left_by (task.Check k checks_head) = []
left_by (task.Begin k first checks_head) = []
left_by task.Void = []
left_by task.Leave = []
left_by task.Close = []

-- the equations that are left to be made
abbrev pub left_of : List Task → List Con
left_of ts = flat_map left_by ts

-- what holds now, and the equations that are left
abbrev pub promised : State → List Con
promised s = holds_of s ++ left_of s.work

-- ---- what was told

-- A line that tells a test tells what these constraints entail. No line tells of a split.
abbrev pub LineHolds : List Con → Line → Type 0
LineHolds cs (line.Test c) = Entails cs c
LineHolds cs (line.Split c parts) = ⊥
LineHolds cs (line.Pos a k ts n) = ⊤
LineHolds cs (line.Neg a n) = ⊤
LineHolds cs (line.Loop l at) = ⊤
LineHolds cs (line.Seen l at) = ⊤
LineHolds cs (line.Rule a k first) = ⊤
LineHolds cs (line.Check k first) = ⊤
LineHolds cs line.Void = ⊤
LineHolds cs (line.Leaf k) = ⊤
LineHolds cs (line.Head n) = ⊤

-- ---- states

-- each variable of the clause, from this one on, is bound
abbrev pub AreBound : Program → List Binding → ℕ → ℕ → Type 0
AreBound p bound k first = (z : ℕ) → first ≤ z → z < first + vars_of_clause p k → is_bound_in bound z ≡ true

-- The line is that of a cover of clause k, whose variables are those from `first` on: of a rule whose head reads as the atom, or of
-- a clause that is checked.
abbrev pub IsOf : Program → Sub → ℕ → ℕ → Line → Type 0
IsOf p v k first (line.Rule a n m) = (n ≡ k) × (m ≡ first) × (all_under v (head_args p k first) ≡ all_under v a.args)
IsOf p v k first (line.Check n m) = (n ≡ k) × (m ≡ first)
IsOf p v k first (line.Test c) = ⊥
IsOf p v k first (line.Split c parts) = ⊥
IsOf p v k first (line.Pos a n ts m) = ⊥
IsOf p v k first (line.Neg a n) = ⊥
IsOf p v k first (line.Loop l at) = ⊥
IsOf p v k first (line.Seen l at) = ⊥
IsOf p v k first line.Void = ⊥
IsOf p v k first (line.Leaf n) = ⊥
IsOf p v k first (line.Head n) = ⊥

-- a line that is that of the cover is among these
abbrev pub HasLine : Program → Sub → ℕ → ℕ → List Line → Type 0
HasLine p v k first ls = (l : Line) × Contains ls l × IsOf p v k first l

-- An open cover has no universal variable, its case says nothing, and no other case waits. Its clause's variables are bound, and
-- its head reads as its literal.
pub record IsAlone (p : Program) (s : State) (c : Cover) : Type 0 where
  pub universals : c.universals ≡ []
  pub region : c.region ≡ []
  pub waiting : c.waiting ≡ []
  pub bound : AreBound p s.bound c.clause c.first
  pub head : HasLine p (meaning s) c.clause c.first c.before
  pub before : Each (LineHolds (promised s)) c.before

pub record Calm (p : Program) (s : State) : Type 0 where
  pub no_universal : has_universal_made s ≡ false
  pub covers : Each (IsAlone p s) s.covers
  pub named : Each (λ a. a.is_general ≡ false) s.literals
  pub triangular : Triangular s.bound
  pub sorted : Sorted (holds_of s)
  pub met : Sat (holds_of s)
  pub lines : Each (LineHolds (promised s)) s.lines

-- The state comes later: more is bound and given, and what the earlier one reads, the later one reads as the terms themselves.
pub record IsLater (s t : State) : Type 0 where
  pub more_bound : List Binding
  pub bound : t.bound ≡ s.bound ++ more_bound
  pub more_given : List Con
  pub given : t.given ≡ s.given ++ more_given
  pub reads : (u : Tm) → under (meaning t) (under (meaning s) u) ≡ under (meaning t) u

-- ---- the laws

-- the search is over such a program, for answers to a well-formed query, and lists are asked by the test of hints
pub record IsHeaded (p : Problem) (q : Query) : Type 0 where
  pub program : is_headed_program p.program p.checks ≡ true
  pub query : is_query_well_formed q ≡ true
  pub test : p.sat ≡ sat

-- each state that comes of the start is calm
abbrev pub ReachedAreCalm : Type 0
ReachedAreCalm = (p : Problem) (q : Query) (s : State) → IsHeaded p q → IsReachable p q s → Calm p.program s

-- where nothing is left to do, each test that was told follows from the bindings and the given constraints alone
abbrev pub TestsAreShown : Type 0
TestsAreShown =
    (p : Problem) (q : Query) (s : State) → IsHeaded p q → IsReachable p q s → s.work ≡ [] → Each (LineHolds (holds_of s)) s.lines

-- each state that comes next comes later
abbrev pub StepsGoOn : Type 0
StepsGoOn =
    (p : Problem) (q : Query) (s t : State) → IsHeaded p q → IsReachable p q s
    → Contains ((search_for p q).next s) t → IsLater s t

-- the test says of each list that is asked whether the list has a valuation
abbrev pub AskedAreDecided : Type 0
AskedAreDecided =
    (p : Problem) (q : Query) (s : State) → IsHeaded p q → IsReachable p q s
    → Each (λ cs. p.sat cs ≡ true ↔ Sat cs) (asked_next p s)
