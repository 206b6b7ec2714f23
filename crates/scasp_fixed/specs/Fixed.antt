-- The variables that the rows of lists fix to a number, and the lists with these numbers put in.
use Rattle.std.specs.Prelude.{ℕ, ◌+◌, ◌==◌, nat_lt, Bool, true, false, ◌&&◌, ◌||◌, not, if◌then◌else◌, is_some, Option, None, Some, List, [], ◌∷◌, ◌++◌, filter, map, length}
use Rattle.std.specs.List.{list_all, list_any}
use Rattle.scasp_num.specs.Linear.{Linear, is_equation, is_zero}
use Rattle.scasp_num.specs.Number.{Number}
use Rattle.scasp_num.specs.SameRow.{same_op}
use Rattle.scasp_num.specs.declared.linear.Op.TheVariants as op
use Rattle.scasp_rows.specs.Points.{is_constant}
use Rattle.scasp_search_rules.specs.Successors.Reading.{con_under}
use Rattle.scasp_shorten.specs.Following.{follows, is_row_of}
use Rattle.scasp_syntax.specs.Tm.{Tm, var, num, app}
use Rattle.scasp_syntax.specs.Values.{Sub}
use Rattle.scasp_syntax.specs.declared.con.Con.{Con}
use Rattle.scasp_syntax.specs.declared.con.Con.TheVariants as con
use Rattle.scasp_syntax.specs.declared.term.Term.TheVariants as term
use Rattle.scasp_unify.specs.ResolvedRows.{resolved_row}
use Rattle.scasp_unify.specs.Solving.{sub_of}
use Rattle.scasp_unify.specs.declared.bindings.Binding.{Binding}

-- ---- what fixes a variable

-- the number of a sample's term, as that of the variable x
abbrev pub number_at : ℕ → Tm → List Binding
number_at x (num q) = record { x = x; term = term.Num q } ∷ []
number_at x (var y) = []
number_at x (app f ts) = []

-- the numbers of a sample, whose first term is that of x
abbrev pub numbers_from : ℕ → List Tm → List Binding
numbers_from x [] = []
numbers_from x (t ∷ ts) = number_at x t ++ numbers_from (x + 1) ts

-- the row without variables compares 0 with 0
abbrev pub is_zero_row : Option Linear → Bool
is_zero_row None = false
is_zero_row (Some r) = is_constant r && is_zero r.constant

-- the row is `=<`, and with these numbers both sides are equal
abbrev pub is_tight : List Binding → Linear → Bool
is_tight ns r = same_op r.op op.Le && is_zero_row (resolved_row (sub_of ns) r)

-- a number test, an equation, or a row that is tight with these numbers
abbrev pub is_fixing : List Binding → Con → Bool
is_fixing ns (con.Num t) = true
is_fixing ns (con.Row r) = is_equation r.op || is_tight ns r
is_fixing ns (con.Eq t u) = false
is_fixing ns (con.Neq t u) = false
is_fixing ns (con.NotShape x f n) = false
is_fixing ns (con.NotNum t) = false

-- a list of more constraints fixes no variable
abbrev pub most_constraints : ℕ
most_constraints = 32

-- the number tests, equations and tight rows of a list; none of a list that is too long
abbrev pub fixing : List Binding → List Con → List Con
fixing ns cs = if nat_lt most_constraints (length cs) then [] else filter (is_fixing ns) cs

-- they give a variable this number, if one of their rows has it
abbrev pub gives_by : Bool → List Con → ℕ → Number → Bool
gives_by false cs x q = false
gives_by true cs x q = follows cs (con.Eq (term.Var x) (term.Num q))

-- they give the variable this number
abbrev pub gives : List Con → ℕ → Number → Bool
gives cs x q = gives_by (list_any (is_row_of x) cs) cs x q

-- the number that a sample has for the variable x, if each of the lists gives it
abbrev pub value_of : List (List Con) → ℕ → Tm → List Binding
value_of lists x (num q) = if list_all (λ cs. gives cs x q) lists then record { x = x; term = term.Num q } ∷ [] else []
value_of lists x (var y) = []
value_of lists x (app f ts) = []

-- so for the variables of a sample, the first of them x
abbrev pub values_from : List (List Con) → ℕ → List Tm → List Binding
values_from lists x [] = []
values_from lists x (t ∷ ts) = value_of lists x t ++ values_from lists (x + 1) ts

-- the numbers of a sample that what fixes in each of the lists gives
abbrev pub values_found : List (List Con) → List Tm → List Binding
values_found lists sample = values_from (map (fixing (numbers_from 0 sample)) lists) 0 sample

-- ---- what is told

-- a row is within range with the values put in
abbrev pub is_read : Sub → Con → Bool
is_read s (con.Row r) = is_some (resolved_row s r)
is_read s (con.Eq t u) = true
is_read s (con.Neq t u) = true
is_read s (con.NotShape x f n) = true
is_read s (con.Num t) = true
is_read s (con.NotNum t) = true

abbrev pub are_read : Sub → List Con → Bool
are_read s cs = list_all (is_read s) cs

pub record Telling : Type 0 where
  pub values : List Binding
  pub lists : List (List Con)

-- the lists with the values put in; no value and the lists as they are where a row passes its range
abbrev pub telling_by : List Binding → List (List Con) → Telling
telling_by vs lists =
    if length vs == 0 || not (list_all (are_read (sub_of vs)) lists)
    then record { values = []; lists = lists }
    else record { values = vs; lists = map (map (con_under (sub_of vs))) lists }

-- what is told of lists of which one holds, and of which a sample meets one
abbrev pub telling : List (List Con) → List Tm → Telling
telling lists sample = telling_by (values_found lists sample) lists
