-- The variables of a state: their kinds and depths, and what they are bound to.
use Rattle.std.specs.Prelude.{ℕ, Bool, true, false, min, if◌then◌else◌, Option, Some, None, List, [], ◌∷◌, ◌++◌, length, filter, slice_get, slice_set, replicate}
use Rattle.std.specs.List.{list_any}
use Rattle.scasp_search_rules.specs.declared.states.state.Kind.{Kind}
use Rattle.scasp_search_rules.specs.declared.states.state.Kind.TheVariants.{Existential, Universal, Matched}
use Rattle.scasp_search_rules.specs.declared.states.state.Made.{Made}
use Rattle.scasp_search_rules.specs.declared.states.state.State.{State}
use Rattle.scasp_syntax.specs.Tm.{Tm}
use Rattle.scasp_syntax.specs.Values.{Sub}
use Rattle.scasp_syntax.specs.declared.con.Con.{Con}
use Rattle.scasp_unify.specs.SimpleForm.{term_with}
use Rattle.scasp_unify.specs.Solving.{sub_of}
use Rattle.scasp_unify.specs.Unification.{term_vars}
use Rattle.scasp_unify.specs.declared.bindings.Binding.{Binding}
use Rattle.scasp_search_rules.specs.Successors.Reading.{con_vars}

-- what the state's bindings make of each variable
abbrev pub meaning : State → Sub
meaning s = sub_of s.bound

-- ---- kinds and depths

abbrev pub made_or : Option Made → Made
made_or None = record { kind = Existential; depth = 0 }
made_or (Some m) = m

abbrev pub made_at : State → ℕ → Made
made_at s x = made_or (slice_get s.made x)

abbrev pub depth_of : State → ℕ → ℕ
depth_of s x = (made_at s x).depth

abbrev pub is_kind_universal : Kind → Bool
is_kind_universal Existential = false
is_kind_universal Universal = true
is_kind_universal Matched = false

abbrev pub is_kind_existential : Kind → Bool
is_kind_existential Existential = true
is_kind_existential Universal = false
is_kind_existential Matched = false

abbrev pub is_kind_matched : Kind → Bool
is_kind_matched Existential = false
is_kind_matched Universal = false
is_kind_matched Matched = true

abbrev pub is_universal : State → ℕ → Bool
is_universal s x = is_kind_universal (made_at s x).kind

abbrev pub is_existential : State → ℕ → Bool
is_existential s x = is_kind_existential (made_at s x).kind

-- the universal variables of a constraint, as it reads now
abbrev pub universals_of : State → Con → List ℕ
universals_of s c = filter (is_universal s) (con_vars (meaning s) c)

abbrev pub is_empty : List ℕ → Bool
is_empty [] = true
is_empty (x ∷ xs) = false

abbrev pub has_universal : State → List ℕ → Bool
has_universal s xs = list_any (is_universal s) xs

-- ---- new variables and bindings

-- the number that the next variable gets
abbrev pub next_variable : State → ℕ
next_variable s = length s.made

-- the state with so many new variables
abbrev pub with_new : State → Kind → ℕ → ℕ → State
with_new s kind depth n = record s { made = s.made ++ replicate n (record { kind = kind; depth = depth }) }

abbrev pub lower : ℕ → Option Made → Made
lower d None = record { kind = Existential; depth = d }
lower d (Some m) = if is_kind_existential m.kind then record { kind = m.kind; depth = min m.depth d } else m

-- the existential variables among these get at most this depth
abbrev pub lowered : ℕ → List ℕ → List Made → List Made
lowered d [] made = made
lowered d (x ∷ xs) made = lowered d xs (slice_set made x (lower d (slice_get made x)))

abbrev pub binding : ℕ → Tm → Binding
binding x t = record { x = x; term = term_with t }

abbrev pub with_binding : State → ℕ → Tm → State
with_binding s x t = record s { bound = s.bound ++ binding x t ∷ [] }

-- the state in which x is bound to the term, whose existential variables get at most the depth of x
abbrev pub bind : State → ℕ → Tm → State
bind s x t = record (with_binding s x t) { made = lowered (depth_of s x) (term_vars t) s.made }
