-- What a list of constraints says of rational points: its rows as they are given, with a row for what each of their
-- variables stands for, and the disequations between numbers.
use Rattle.std.specs.Prelude.{ℕ, if◌then◌else◌, pos, negsuc, neg_ℤ, List, [], ◌∷◌, ◌++◌, Option, None, Some}
use Rattle.scasp_num.specs.declared.linear.Coeff.{Coeff}
use Rattle.scasp_num.specs.declared.linear.Op.{Op}
use Rattle.scasp_num.specs.declared.linear.Op.TheVariants as op
use Rattle.scasp_num.specs.Linear.{Linear}
use Rattle.scasp_syntax.specs.Tm.{Tm, var, num, app}
use Rattle.scasp_syntax.specs.Values.{Sub, under}
use Rattle.scasp_syntax.specs.View.{tm_of}
use Rattle.scasp_unify.specs.Parts.{Part, parts}
use Rattle.scasp_unify.specs.Resolver.{resolver}
use Rattle.scasp_unify.specs.Numbers.{is_among_numbers}
use Rattle.scasp_syntax.specs.declared.con.Con.{Con}
use Rattle.scasp_syntax.specs.declared.con.Con.TheVariants as con

-- a variable and what it stands for, compared; a compound term says nothing of the variable
abbrev pub difference : ℕ → Tm → Op → Linear
difference x (var y) o = record { coeffs = record { x = x; c = pos 1 } ∷ record { x = y; c = negsuc 0 } ∷ []; constant = pos 0; op = o }
difference x (num q) o = record { coeffs = record { x = x; c = q.den } ∷ []; constant = neg_ℤ q.num; op = o }
difference x (app f ts) o = record { coeffs = []; constant = pos 0; op = o }

-- ---- rows

-- the row, where it is no disequation
abbrev pub row_by : Op → Linear → List Linear
row_by op.Eq r = r ∷ []
row_by op.Lt r = r ∷ []
row_by op.Le r = r ∷ []
row_by op.Ne r = []

-- each variable of the terms equals what it stands for
abbrev pub bindings : Sub → List Coeff → List Linear
bindings s [] = []
bindings s (k ∷ ks) = difference k.x (s k.x) op.Eq ∷ bindings s ks

abbrev pub con_rows : Sub → Con → List Linear
con_rows s (con.Row r) = row_by r.op r ++ bindings s r.coeffs
con_rows s (con.Eq t u) = []
con_rows s (con.Neq t u) = []
con_rows s (con.NotShape x f n) = []
con_rows s (con.Num t) = []
con_rows s (con.NotNum t) = []

abbrev pub rows_under : Sub → List Con → List Linear
rows_under s [] = []
rows_under s (c ∷ cs) = con_rows s c ++ rows_under s cs

abbrev pub exact_rows : List Con → List Linear
exact_rows cs = rows_under (resolver cs) cs

-- ---- disequations

abbrev pub differences : List Part → List Linear
differences [] = []
differences (q ∷ qs) = difference q.at q.term op.Ne ∷ differences qs

abbrev pub if_among : List Con → Option (List Part) → List (List Linear)
if_among cs None = []
if_among cs (Some ps) = if is_among_numbers cs ps then differences ps ∷ [] else []

abbrev pub disequation_by : Op → Linear → List (List Linear)
disequation_by op.Eq r = []
disequation_by op.Lt r = []
disequation_by op.Le r = []
disequation_by op.Ne r = (r ∷ []) ∷ []

abbrev pub con_differs : List Con → Con → List (List Linear)
con_differs cs (con.Neq t u) = if_among cs (parts (under (resolver cs) (tm_of t)) (under (resolver cs) (tm_of u)))
con_differs cs (con.Row r) = disequation_by r.op r
con_differs cs (con.Eq t u) = []
con_differs cs (con.NotShape x f n) = []
con_differs cs (con.Num t) = []
con_differs cs (con.NotNum t) = []

abbrev pub differing_in : List Con → List Con → List (List Linear)
differing_in cs [] = []
differing_in cs (d ∷ ds) = con_differs cs d ++ differing_in cs ds

-- each disequation between numbers, as the list of its parts
abbrev pub differing : List Con → List (List Linear)
differing cs = differing_in cs cs
