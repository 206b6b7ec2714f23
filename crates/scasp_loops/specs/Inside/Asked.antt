-- What is asked of literals, in states that have what the answer needs and nothing else.
use Rattle.std.specs.Prelude.{ℕ, Bool, true, false, not, ◌&&◌, nat_eq, if◌then◌else◌, Option, None, Some, List, [], ◌∷◌, filter}
use Rattle.std.specs.List.{list_all}
use Rattle.scasp_bound.specs.Bounds.{root_of}
use Rattle.scasp_bound.specs.declared.roots.Root.{Root}
use Rattle.scasp_bound.specs.declared.roots.Root.TheVariants as root
use Rattle.scasp_readings.specs.Readings.{reading}
use Rattle.scasp_search_rules.specs.Successors.Calls.{is_firm, is_free, is_opposite, is_same}
use Rattle.scasp_search_rules.specs.Successors.Reading.{among}
use Rattle.scasp_search_rules.specs.Successors.Search.{nothing}
use Rattle.scasp_search_rules.specs.declared.states.state.Literal.{Literal}
use Rattle.scasp_search_rules.specs.declared.states.state.Made.{Made}
use Rattle.scasp_search_rules.specs.declared.states.state.State.{State}
use Rattle.scasp_syntax.specs.Same.{same_bool, same_number}
use Rattle.scasp_syntax.specs.Tm.{Tms, nil, cons}
use Rattle.scasp_syntax.specs.Values.{all_under}
use Rattle.scasp_syntax.specs.declared.atom.Lit.{Lit}
use Rattle.scasp_syntax.specs.declared.con.Con.{Con}
use Rattle.scasp_unify.specs.Solving.{sub_of}
use Rattle.scasp_unify.specs.declared.bindings.Binding.{Binding}

-- the two have one sign and one name, whatever their arguments
abbrev pub is_alike : Lit → Lit → Bool
is_alike l k = same_bool l.positive k.positive && same_bool l.atom.minus k.atom.minus && nat_eq l.atom.name k.atom.name

-- it is done, firm and in scope, where these cases are open
abbrev pub is_left_firm : List ℕ → Literal → Bool
is_left_firm cases a = a.is_done && is_firm a && list_all (λ k. among k cases) a.cases

-- a call of l sees the literal again, where these cases are open
abbrev pub is_seen : List Binding → List ℕ → Lit → Literal → Bool
is_seen bs cases l a = is_left_firm cases a && is_same (reading bs) l a

-- it is open and is this one
abbrev pub is_repeated : State → Lit → Literal → Bool
is_repeated s l a = not a.is_done && is_same s l a

abbrev pub is_not : (Literal → Bool) → Literal → Bool
is_not p a = not (p a)

-- the state of these variables, bindings and literals
abbrev pub standing : List Made → List Binding → List Literal → State
standing made bs ls = record nothing { made = made; bound = bs; literals = ls }

-- the constraint, if it is so
abbrev pub only_if : Bool → Con → List Con
only_if true c = c ∷ []
only_if false c = []

-- ---- first arguments that clash

-- terms that begin so are different, whatever their variables stand for
abbrev pub clash : Root → Root → Bool
clash (root.Var x) r = false
clash (root.Num q) (root.Var y) = false
clash (root.Num q) (root.Num r) = not (same_number q r)
clash (root.Num q) (root.Name g) = true
clash (root.Name f) (root.Var y) = false
clash (root.Name f) (root.Num r) = true
clash (root.Name f) (root.Name g) = not (nat_eq f g)

abbrev pub clash_if : Option Root → Option Root → Bool
clash_if None o = false
clash_if (Some r) None = false
clash_if (Some r) (Some s) = clash r s

-- how the first of the terms begins
abbrev pub first_root : Tms → Option Root
first_root nil = None
first_root (cons t ts) = Some (root_of t)

-- the first argument of the literal, as the bindings read it, clashes with a term that begins so
abbrev pub starts_apart : List Binding → Option Root → Lit → Bool
starts_apart bs o l = clash_if o (first_root (all_under (sub_of bs) l.atom.args))

-- it is opposite, and its first argument does not clash with a term that begins so
abbrev pub is_opposed : State → Option Root → Lit → Literal → Bool
is_opposed s o l a = not (starts_apart s.bound o a.lit) && is_opposite s l a

abbrev pub opposed : State → Option Root → Lit → List Literal
opposed s o l = if is_free s l then filter (is_opposed s o l) s.literals else []
