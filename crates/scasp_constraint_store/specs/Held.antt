-- What a store holds: constraints and variables, now and before each change.
use Rattle.std.specs.Prelude.{ℕ, suc, ◌-◌, Bool, nat_eq, if◌then◌else◌, List, [], ◌∷◌, ◌++◌, None, drop, length}
use Rattle.std.specs.List.{list_any}
use Rattle.scasp_bind.specs.Kept.{updated}
use Rattle.scasp_bind.specs.declared.variable.Sort.{Sort}
use Rattle.scasp_bind.specs.declared.variable.Variable.{Variable}
use Rattle.scasp_syntax.specs.declared.con.Con.{Con}
use Rattle.scasp_constraint_store.specs.Bound.{bindings_of, lowered_by}

-- the variables by number, of which none is bound here, and the constraints in order
pub record Content : Type 0 where
  pub variables : List Variable
  pub list : List Con

-- what is held now, and what was held before each change, the latest change first
pub record Held : Type 0 where
  pub now : Content
  pub before : List Content

-- what was held at each time, the latest first
abbrev pub times : Held → List Content
times s = s.now ∷ s.before

-- the times up to the one after so many changes
abbrev pub times_at : ℕ → Held → List Content
times_at n s = drop (length s.before - n) (times s)

-- what is held after one change more
abbrev pub after : Held → Content → Held
after s new = record { now = new; before = times s }

-- ---- the changes

abbrev pub with_variable : Sort → ℕ → Content → Content
with_variable k d s = record { variables = s.variables ++ record { sort = k; depth = d; term = None } ∷ []; list = s.list }

abbrev pub with_depth_at : ℕ → (Variable → Variable) → Content → Content
with_depth_at x f s = record { variables = updated x f s.variables; list = s.list }

-- the constraint stands last, and the bindings that it makes lower depths
abbrev pub with_constraint : Con → Content → Content
with_constraint c s = record { variables = lowered_by (bindings_of s.list c) s.variables; list = s.list ++ c ∷ [] }

abbrev pub is_named : List ℕ → ℕ → Bool
is_named places i = list_any (λ p. nat_eq p i) places

-- the constraints, numbered from i on, that do not stand at one of these places
abbrev pub kept_from : ℕ → List ℕ → List Con → List Con
kept_from i places [] = []
kept_from i places (c ∷ cs) = if is_named places i then kept_from (suc i) places cs else c ∷ kept_from (suc i) places cs

abbrev pub without : List ℕ → Content → Content
without places s = record { variables = s.variables; list = kept_from 0 places s.list }
