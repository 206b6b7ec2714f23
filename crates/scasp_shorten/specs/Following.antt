-- What follows from a list of constraints.
use Rattle.std.specs.Prelude.{ℕ, Bool, true, false, ◌&&◌, ◌||◌, nat_eq, List, [], ◌∷◌, ◌++◌, filter, length}
use Rattle.std.specs.List.{list_all, list_any}
use Rattle.scasp_syntax.specs.declared.con.Con.{Con}
use Rattle.scasp_syntax.specs.declared.con.Con.TheVariants as con
use Rattle.scasp_syntax.specs.declared.term.Term.{Term}
use Rattle.scasp_syntax.specs.declared.term.Term.TheVariants as term
use Rattle.scasp_unify.specs.Negations.{negated}
use Rattle.scasp_hint.specs.Finding.{Found, found, hint, nothing, unknown_list}

-- ---- numbers

abbrev pub is_variable : ℕ → Term → Bool
is_variable x (term.Var y) = nat_eq x y
is_variable x (term.Num q) = false
is_variable x (term.App f ts) = false

-- it is the test that the variable is a number
abbrev pub is_test_of : ℕ → Con → Bool
is_test_of x (con.Num t) = is_variable x t
is_test_of x (con.Eq t u) = false
is_test_of x (con.Neq t u) = false
is_test_of x (con.NotShape y f n) = false
is_test_of x (con.NotNum t) = false
is_test_of x (con.Row r) = false

-- it is a row with the variable
abbrev pub is_row_of : ℕ → Con → Bool
is_row_of x (con.Row r) = list_any (λ k. nat_eq x k.x) r.coeffs
is_row_of x (con.Eq t u) = false
is_row_of x (con.Neq t u) = false
is_row_of x (con.NotShape y f n) = false
is_row_of x (con.Num t) = false
is_row_of x (con.NotNum t) = false

-- the list tells that the variable is a number
abbrev pub tells_number : List Con → ℕ → Bool
tells_number cs x = list_any (is_test_of x) cs || list_any (is_row_of x) cs

-- the list tells that the term is a number
abbrev pub is_number_by : List Con → Term → Bool
is_number_by cs (term.Var x) = tells_number cs x
is_number_by cs (term.Num q) = true
is_number_by cs (term.App f ts) = false

-- ---- questions

-- a question is asked about it: whether the list has a valuation with its negation
abbrev pub has_negation : Con → Bool
has_negation (con.Eq t u) = true
has_negation (con.Neq t u) = true
has_negation (con.NotShape x f n) = false
has_negation (con.Num t) = false
has_negation (con.NotNum t) = true
has_negation (con.Row r) = true

-- so many questions a list is worth
abbrev pub questions : List Con → ℕ
questions cs = length (filter has_negation cs)

-- a hint shows that the list has no valuation
abbrev pub is_shown : Found → Bool
is_shown nothing = false
is_shown unknown_list = false
is_shown (hint h) = true

-- with its negation the list has no valuation, as a hint shows
abbrev pub is_asked : List Con → Con → Bool
is_asked cs c = is_shown (found (cs ++ negated 0 c ∷ []))

-- the list tells the constraint, as one question shows where one is asked
abbrev pub follows : List Con → Con → Bool
follows cs (con.Num t) = is_number_by cs t
follows cs (con.NotShape x f n) = tells_number cs x
follows cs (con.Row r) = list_all (λ k. tells_number cs k.x) r.coeffs && is_asked cs (con.Row r)
follows cs (con.Eq t u) = is_asked cs (con.Eq t u)
follows cs (con.Neq t u) = is_asked cs (con.Neq t u)
follows cs (con.NotNum t) = is_asked cs (con.NotNum t)
