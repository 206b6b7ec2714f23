-- The variables that are not kept, and which constraints speak of them.
use Rattle.std.specs.Prelude.{ℕ, Bool, true, false, ◌&&◌, ◌||◌, not, nat_eq, List, Option, None, Some}
use Rattle.std.specs.List.{list_any}
use Rattle.scasp_num.specs.Linear.{Linear}
use Rattle.scasp_syntax.specs.Tm.{Tm, var, num, app}
use Rattle.scasp_syntax.specs.Values.{Sub, under}
use Rattle.scasp_syntax.specs.View.{tm_of}
use Rattle.scasp_syntax.specs.declared.con.Con.{Con}
use Rattle.scasp_syntax.specs.declared.con.Con.TheVariants as con
use Rattle.scasp_syntax.specs.declared.term.Term.{Term}
use Rattle.scasp_unify.specs.Numbers.{number_var}
use Rattle.scasp_unify.specs.Parts.{Part, parts}
use Rattle.scasp_unify.specs.Resolver.{resolver}
use Rattle.scasp_unify.specs.Unification.{term_vars}

abbrev pub is_dropped : List ℕ → ℕ → Bool
is_dropped keep x = not (list_any (nat_eq x) keep)

-- how a list is read: what its equations make of each variable, which unbound variables it says to be numbers, and which
-- variables are kept
pub record Reading : Type 0 where
  pub resolver : Sub
  pub number : ℕ → Bool
  pub keep : List ℕ

abbrev pub reading_of : List Con → List ℕ → Reading
reading_of cs keep = record { resolver = resolver cs; number = number_var cs; keep = keep }

-- a number that is not kept
abbrev pub is_dropped_number : Reading → ℕ → Bool
is_dropped_number s x = is_dropped s.keep x && s.number x

-- ---- what has a variable that passes a test

abbrev pub row_has : (ℕ → Bool) → Linear → Bool
row_has test r = list_any (λ k. test k.x) r.coeffs

abbrev pub part_has : (ℕ → Bool) → Part → Bool
part_has test p = test p.at || list_any test (term_vars p.term)

abbrev pub parts_have : (ℕ → Bool) → Option (List Part) → Bool
parts_have test None = false
parts_have test (Some ps) = list_any (part_has test) ps

-- the parts of a disequation
abbrev pub parts_in : Reading → Term → Term → Option (List Part)
parts_in s t u = parts (under s.resolver (tm_of t)) (under s.resolver (tm_of u))

-- a disequation speaks of the variables of its parts alone
abbrev pub con_has : Reading → (ℕ → Bool) → Con → Bool
con_has s test (con.Eq t u) = list_any test (term_vars (tm_of t)) || list_any test (term_vars (tm_of u))
con_has s test (con.Neq t u) = parts_have test (parts_in s t u)
con_has s test (con.NotShape x f n) = test x
con_has s test (con.Num t) = list_any test (term_vars (tm_of t))
con_has s test (con.NotNum t) = list_any test (term_vars (tm_of t))
con_has s test (con.Row r) = row_has test r

-- ---- parts between numbers

abbrev pub is_number_by : (ℕ → Bool) → Tm → Bool
is_number_by number (var y) = number y
is_number_by number (num q) = true
is_number_by number (app f ts) = false

abbrev pub is_between : (ℕ → Bool) → Part → Bool
is_between number p = number p.at && is_number_by number p.term
