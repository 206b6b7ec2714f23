-- A measure of states that falls at each step that costs nothing.
use Rattle.std.specs.Prelude.{◌≡◌, ◌≢◌, ℕ, ◌+◌, ◌-◌, ◌*◌, ◌^◌, ◌<◌, ◌≤◌, Bool, false, ⊤, List, [], ◌∷◌, length}
use Rattle.scasp_search_rules.specs.declared.states.state.State.{State}
use Rattle.scasp_search_rules.specs.declared.states.tasks.Task.{Task}
use Rattle.scasp_search_rules.specs.declared.states.tasks.Task.TheVariants as task
use Rattle.scasp_syntax.specs.declared.clause.FlatItem.{FlatItem}
use Rattle.scasp_syntax.specs.declared.clause.FlatItem.TheVariants as flat
use Rattle.scasp_syntax.specs.declared.con.Con.{Con}
use Rattle.scasp_syntax.specs.declared.program.Program.{Program}
use Rattle.scasp_search_rules.specs.Successors.Search.{done, costs}

abbrev pub weight_of_item : FlatItem → ℕ
weight_of_item (flat.Call l) = 1
weight_of_item (flat.Test c) = 6

abbrev pub weight_of : Task → ℕ
weight_of (task.Show i) = weight_of_item i
weight_of (task.Equate t u) = 1
weight_of (task.Assume c) = 1
weight_of (task.Differ ps aim) = 5
weight_of (task.Become x t ps aim) = 1
weight_of (task.Avoid x q ps aim) = 3
weight_of (task.Shape x f ts ps aim) = 1
weight_of (task.Cover a k) = 6
weight_of (task.Check k checks_head) = 1
weight_of (task.Begin k first checks_head) = 1
weight_of task.Void = 1
weight_of task.Leave = 1
weight_of task.Close = 1

abbrev pub weight : List Task → ℕ
weight [] = 0
weight (t ∷ ts) = weight_of t + weight ts

-- how many variables and bindings a state has
abbrev pub size : State → ℕ
size s = length s.made + length s.bound

-- each state of the list
abbrev pub EachState : (State → Type 0) → List State → Type 0
EachState P [] = ⊤
EachState P (s ∷ ss) = P s × EachState P ss

-- The second state has made more variables and bindings than the first, or no fewer, and what is left to do weighs less than n more than in
-- the first.
pub data Falls (n : ℕ) (s t : State) : Type 0 where
  makes_more : size s < size t → Falls n s t
  weighs_less : size s ≤ size t → weight t.work < n + weight s.work → Falls n s t

-- At a task that costs nothing and does not close a case the measure falls; s is the state whose work is the rest.
abbrev pub FreeStepFalls : Type 0
FreeStepFalls =
    (p : Program) (sat : List Con → Bool) (s : State) (t : Task) → costs s t ≡ false → t ≢ task.Close
    → EachState (Falls (weight_of t) s) (done p sat s t).states

-- Where the close of a case costs nothing, what is left to do stays as it is.
abbrev pub ClosingKeepsWork : Type 0
ClosingKeepsWork =
    (p : Program) (sat : List Con → Bool) (s : State) → costs s task.Close ≡ false
    → EachState (λ t. t.work ≡ s.work) (done p sat s task.Close).states

-- The measure as one number, below two bounds.
abbrev pub packed : ℕ → ℕ → ℕ
packed made work = (2 ^ 64 - made) * (2 ^ 67) + work

abbrev pub MoreIsLess : Type 0
MoreIsLess = (made more work other : ℕ) → made < more → more ≤ 2 ^ 64 → other < 2 ^ 67 → packed more other < packed made work

abbrev pub LighterIsLess : Type 0
LighterIsLess = (made work less : ℕ) → less < work → packed made less < packed made work
