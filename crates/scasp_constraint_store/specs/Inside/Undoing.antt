-- How changes are taken back.
use Rattle.std.specs.Prelude.{◌≡◌, ℕ, ◌-◌, ◌≤◌, true, List, [], ◌∷◌, length, reverse, take, ⊤}
use Rattle.std.specs.List.{list_all}
use Rattle.scasp_bind.specs.Kept.{Kept, variables_at}
use Rattle.scasp_list.specs.Each.{Each}
use Rattle.scasp_syntax.specs.declared.con.Con.{Con}
use Rattle.scasp_unify.specs.Negations.{is_con_below}
use Rattle.scasp_constraint_store.specs.Held.{Content, Held, times}
use Rattle.scasp_constraint_store.specs.declared.change.Change.{Change}
use Rattle.scasp_constraint_store.specs.declared.change.ListChange.{ListChange}
use Rattle.scasp_constraint_store.specs.declared.change.ListChange.TheVariants as change

-- the list before the change
abbrev pub list_without : ListChange → List Con → List Con
list_without change.Kept cs = cs
list_without change.Put cs = take (length cs - 1) cs
list_without (change.Retired old) cs = old.items

-- what was held before each of these changes, the latest of which led to this list
abbrev pub befores : Kept → List Con → List Change → List Content
befores k cs [] = []
befores k cs (c ∷ hs) =
    record { variables = variables_at c.before k; list = list_without c.list cs } ∷ befores k (list_without c.list cs) hs

abbrev pub held : Kept → List Con → List Change → Held
held k cs changes = record { now = record { variables = k.variables; list = cs }; before = befores k cs (reverse changes) }

-- the times before the changes, the latest first, lie behind one another
abbrev pub CanUndo : ℕ → List Change → Type 0
CanUndo n [] = ⊤
CanUndo n (c ∷ hs) = (c.before ≤ n) × CanUndo c.before hs

-- each variable of each constraint is one of the variables
abbrev pub IsKnown : Content → Type 0
IsKnown s = list_all (is_con_below (length s.variables)) s.list ≡ true

pub record IsKept (k : Kept) (cs : List Con) (changes : List Change) : Type 0 where
  pub can : CanUndo (length k.changes) (reverse changes)
  pub known : Each IsKnown (times (held k cs changes))
