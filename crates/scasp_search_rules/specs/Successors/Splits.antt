-- A split of the case of a cover.
use Rattle.std.specs.Prelude.{ℕ, zero, suc, ◌-◌, nat_eq, Bool, false, max, nat_le, if◌then◌else◌, Option, Some, None, List, [], ◌∷◌, ◌++◌, map, length, filter}
use Rattle.std.specs.List.{list_any, flat_map, fold}
use Rattle.scasp_search_rules.specs.declared.states.covers.Cover.{Cover}
use Rattle.scasp_search_rules.specs.declared.states.lines.Line.TheVariants as line
use Rattle.scasp_search_rules.specs.declared.states.outcomes.Parting.{Parting}
use Rattle.scasp_search_rules.specs.declared.states.state.Kind.TheVariants.{Universal}
use Rattle.scasp_search_rules.specs.declared.states.state.State.{State}
use Rattle.scasp_syntax.specs.Same.{same_tm}
use Rattle.scasp_syntax.specs.Tm.{Tms, var, items}
use Rattle.scasp_syntax.specs.Values.{under}
use Rattle.scasp_syntax.specs.View.{tm_of}
use Rattle.scasp_syntax.specs.declared.con.Con.{Con}
use Rattle.scasp_syntax.specs.declared.con.Con.TheVariants as con
use Rattle.scasp_syntax.specs.declared.term.Term.{Term}
use Rattle.scasp_syntax.specs.declared.term.Term.TheVariants.{Var, Num, App}
use Rattle.scasp_unify.specs.Negations.{negated, new_parts}
use Rattle.scasp_unify.specs.Unification.{terms_vars}
use Rattle.scasp_unify.specs.declared.bindings.Binding.{Binding}
use Rattle.scasp_search_rules.specs.Successors.Reading.{con_vars, count_from}
use Rattle.scasp_search_rules.specs.Successors.Regions.{with_given}
use Rattle.scasp_search_rules.specs.Successors.Variables.{meaning, depth_of, is_universal, universals_of, with_new, next_variable, lowered}

-- ---- how a constraint parts a case

abbrev pub parting : Con → Con → Parting
parting c other = record { here = c; line = c; there = other; parts_here = []; parts_there = [] }

-- the parts of a shape are those of the side where it holds
abbrev pub equation_parting : Term → Term → Parting
equation_parting (Var x) (App f ts) = record {
  here = con.Eq (Var x) (App f ts);
  line = con.Eq (Var x) (App f ts);
  there = con.NotShape x f (length (items ts));
  parts_here = terms_vars ts;
  parts_there = [];
}
equation_parting (Var x) (Var y) = parting (con.Eq (Var x) (Var y)) (con.Neq (Var x) (Var y))
equation_parting (Var x) (Num q) = parting (con.Eq (Var x) (Num q)) (con.Neq (Var x) (Num q))
equation_parting (Num q) t = parting (con.Eq (Num q) t) (con.Neq (Num q) t)
equation_parting (App f ts) t = parting (con.Eq (App f ts) t) (con.Neq (App f ts) t)

-- a name without arguments is written as it stands, any other shape with its parts
abbrev pub shape_line : ℕ → ℕ → ℕ → Tms → Con
shape_line x f zero ts = con.NotShape x f 0
shape_line x f (suc n) ts = con.Neq (Var x) (App f ts)

-- where the variables from k on are new
abbrev pub parted : ℕ → Con → Parting
parted k (con.Eq t u) = equation_parting t u
parted k (con.NotShape x f n) = record {
  here = con.NotShape x f n;
  line = shape_line x f n (new_parts k n);
  there = con.Eq (Var x) (App f (new_parts k n));
  parts_here = [];
  parts_there = count_from k n;
}
parted k (con.Neq t u) = parting (con.Neq t u) (con.Eq t u)
parted k (con.Num t) = parting (con.Num t) (con.NotNum t)
parted k (con.NotNum t) = parting (con.NotNum t) (con.Num t)
parted k (con.Row r) = parting (con.Row r) (negated k (con.Row r))

-- ---- the cover whose case is parted

-- the replacement that an equation of a universal variable is
abbrev pub replacement_by : Term → Term → Option Binding
replacement_by (Var x) t = Some (record { x = x; term = t })
replacement_by (Num q) t = None
replacement_by (App f ts) t = None

abbrev pub replacement : Con → Option Binding
replacement (con.Eq t u) = replacement_by t u
replacement (con.Neq t u) = None
replacement (con.NotShape x f n) = None
replacement (con.Num t) = None
replacement (con.NotNum t) = None
replacement (con.Row r) = None

abbrev pub bound_by : Option Binding → List Binding
bound_by None = []
bound_by (Some b) = b ∷ []

abbrev pub is_bound_in : List Binding → ℕ → Bool
is_bound_in bound x = list_any (λ b. nat_eq b.x x) bound

-- here the constraint holds, and its other side waits; `bound` are the bindings before
abbrev pub cover_parted : Parting → List Binding → Cover → Cover
cover_parted p bound c = record c {
  plain = false;
  universals = c.universals ++ p.parts_here;
  region = c.region ++ p.here ∷ [];
  waiting =
      record {
        region = c.region ++ p.there ∷ [];
        universals = c.universals ++ p.parts_there;
        replaced = filter (is_bound_in bound) c.universals;
        equation = replacement p.there;
      } ∷ c.waiting;
  before = c.before ++ line.Split p.line (p.parts_here ++ p.parts_there) ∷ [];
}

-- the cover of this depth changed
abbrev pub at_depth : ℕ → (Cover → Cover) → List Cover → List Cover
at_depth d f [] = []
at_depth d f (c ∷ cs) = (if nat_eq c.depth d then f c else c) ∷ at_depth d f cs

abbrev pub parted_at : State → ℕ → Parting → Con → State
parted_at s d p c =
    let t : State = with_new s Universal d (length p.parts_there) in
    record t {
      covers = at_depth d (cover_parted p s.bound) t.covers;
      bound = t.bound ++ bound_by (replacement c);
      made = lowered (d - 1) (con_vars (meaning s) c) t.made;
    }

-- the case of the cover of depth d is parted by a constraint that reads as it stands
abbrev pub split_at : State → ℕ → Con → State
split_at s d c = parted_at s d (parted (next_variable s) c) c

-- ---- which cover, and the number tests of a row

abbrev pub greatest : List ℕ → ℕ
greatest [] = 0
greatest (d ∷ ds) = max d (greatest ds)

-- the depth of the innermost cover that owns a universal variable of the constraint
abbrev pub owner : State → Con → ℕ
owner s c = greatest (map (depth_of s) (universals_of s c))

abbrev pub is_number_test : State → ℕ → Con → Bool
is_number_test s x (con.Num t) = same_tm (under (meaning s) (tm_of t)) (var x)
is_number_test s x (con.Eq t u) = false
is_number_test s x (con.Neq t u) = false
is_number_test s x (con.NotShape y f n) = false
is_number_test s x (con.NotNum t) = false
is_number_test s x (con.Row r) = false

-- the test that x is a number is given, or stands in a region down to depth d
abbrev pub is_number_by : State → ℕ → ℕ → Bool
is_number_by s d x =
    list_any (is_number_test s x)
    (s.given ++ flat_map (λ c. c.region) (filter (λ c. nat_le c.depth d) s.covers))

-- the test that x is a number is made, where it does not stand
abbrev pub numbered_to : ℕ → State → ℕ → State
numbered_to d s x =
    if is_number_by s d x then s
    else (if is_universal s x then split_at s (depth_of s x) (con.Num (Var x)) else with_given s (con.Num (Var x)))

abbrev pub split_by : State → ℕ → Con → State
split_by s d (con.Row r) = split_at (fold (numbered_to d) s (map (λ k. k.x) r.coeffs)) d (con.Row r)
split_by s d (con.Eq t u) = split_at s d (con.Eq t u)
split_by s d (con.Neq t u) = split_at s d (con.Neq t u)
split_by s d (con.NotShape x f n) = split_at s d (con.NotShape x f n)
split_by s d (con.Num t) = split_at s d (con.Num t)
split_by s d (con.NotNum t) = split_at s d (con.NotNum t)

-- the case of the innermost cover that owns a universal variable of the constraint is parted by it
abbrev pub split : State → Con → State
split s c = split_by s (owner s c) c
