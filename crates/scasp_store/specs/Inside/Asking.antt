-- When a short list may be asked in place of a whole one.
use Rattle.std.specs.Prelude.{ℕ, Bool, true, false, ◌&&◌, ◌||◌, not, List, [], ◌∷◌, map}
use Rattle.std.specs.List.{flat_map, list_all, list_any}
use Rattle.scasp_search_rules.specs.Successors.Reading.{among, con_under}
use Rattle.scasp_search_rules.specs.Successors.Replacing.{is_unreplaced}
use Rattle.scasp_syntax.specs.Tm.{Tm, var, num, app}
use Rattle.scasp_syntax.specs.Values.{Sub, under}
use Rattle.scasp_syntax.specs.View.{tm_of}
use Rattle.scasp_syntax.specs.declared.con.Con.{Con}
use Rattle.scasp_syntax.specs.declared.con.Con.TheVariants as con
use Rattle.scasp_unify.specs.TermFailures.{is_compound}

abbrev pub is_row : Con → Bool
is_row (con.Row r) = true
is_row (con.Eq t u) = false
is_row (con.Neq t u) = false
is_row (con.NotShape x f n) = false
is_row (con.Num t) = false
is_row (con.NotNum t) = false

abbrev pub is_equation : Con → Bool
is_equation (con.Eq t u) = true
is_equation (con.Row r) = false
is_equation (con.Neq t u) = false
is_equation (con.NotShape x f n) = false
is_equation (con.Num t) = false
is_equation (con.NotNum t) = false

-- no variable of a row stands for a name with arguments
abbrev pub is_flat : Sub → Con → Bool
is_flat s (con.Row r) = list_all (λ k. not (is_compound (s k.x))) r.coeffs
is_flat s (con.Eq t u) = true
is_flat s (con.Neq t u) = true
is_flat s (con.NotShape x f n) = true
is_flat s (con.Num t) = true
is_flat s (con.NotNum t) = true

-- a row reads within range, and none of its variables as a name with arguments
abbrev pub is_readable : Sub → Con → Bool
is_readable s c = not (is_unreplaced s c) && is_flat s c

-- the term, if it is a variable
abbrev pub one_var : Tm → List ℕ
one_var (var y) = y ∷ []
one_var (num q) = []
one_var (app f ts) = []

-- the variable of which the constraint says that it is a number, if there is one
abbrev pub told_var : Sub → Con → List ℕ
told_var s (con.Num t) = one_var (under s (tm_of t))
told_var s (con.Row r) = []
told_var s (con.Eq t u) = []
told_var s (con.Neq t u) = []
told_var s (con.NotShape x f n) = []
told_var s (con.NotNum t) = []

-- the variables of which the list says that they are numbers
abbrev pub told_by : Sub → List Con → List ℕ
told_by s cs = flat_map (told_var s) cs

-- the term is a number, or one of these variables
abbrev pub is_told : List ℕ → Tm → Bool
is_told ys (var y) = among y ys
is_told ys (num q) = true
is_told ys (app f ts) = false

-- each variable of a row counts as a number, where these variables do
abbrev pub is_counted : Sub → List ℕ → Con → Bool
is_counted s ys (con.Row r) = list_all (λ k. is_told ys (s k.x)) r.coeffs
is_counted s ys (con.Eq t u) = true
is_counted s ys (con.Neq t u) = true
is_counted s ys (con.NotShape x f n) = true
is_counted s ys (con.Num t) = true
is_counted s ys (con.NotNum t) = true

abbrev pub read_by : Sub → List Con → List Con
read_by s cs = map (con_under s) cs

-- the variables of each row count as numbers
abbrev pub are_counted : Sub → List Con → Bool
are_counted s cs = list_all (is_counted s (told_by s cs)) cs

-- no equation is there, and the variables of each row count as numbers
abbrev pub counts_all : Sub → List Con → Bool
counts_all s cs = not (list_any is_equation cs) && are_counted s cs

-- there is no row, or each row's variables count as numbers, in the list as it stands and as it reads
abbrev pub is_sorted : Sub → List Con → Bool
is_sorted s cs = not (list_any is_row cs) || (counts_all s cs && counts_all var (read_by s cs))

abbrev pub is_askable : Sub → List Con → Bool
is_askable s cs = list_all (is_readable s) cs && is_sorted s cs
