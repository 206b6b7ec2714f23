-- The shortest form of lists of constraints: nothing stays that the rest tells, as far as that is evident or asked.
use Rattle.std.specs.Prelude.{ℕ, Bool, true, false, ◌&&◌, ◌||◌, not, nat_eq, nat_lt, if◌then◌else◌, pos, int_lt, List, [], ◌∷◌, ◌++◌, filter, flat_map, map}
use Rattle.std.specs.List.{list_any}
use Rattle.scasp_num.specs.declared.linear.Coeff.{Coeff}
use Rattle.scasp_num.specs.declared.linear.Op.{Op}
use Rattle.scasp_num.specs.declared.linear.Op.TheVariants as op
use Rattle.scasp_syntax.specs.declared.con.Con.{Con}
use Rattle.scasp_syntax.specs.declared.con.Con.TheVariants as con
use Rattle.scasp_syntax.specs.declared.term.Term.TheVariants as term
use Rattle.scasp_shorten.specs.declared.ordering.Bound.{Bound}
use Rattle.scasp_shorten.specs.declared.ordering.Bound.TheVariants as bound
use Rattle.scasp_shorten.specs.declared.shortening.Means.{Means}
use Rattle.scasp_shorten.specs.declared.shortening.Means.TheVariants as means
use Rattle.scasp_shorten.specs.Evident.{is_evident}
use Rattle.scasp_shorten.specs.Following.{follows, is_row_of, questions}

-- ---- a list

abbrev pub is_test : Con → Bool
is_test (con.Num t) = true
is_test (con.Eq t u) = false
is_test (con.Neq t u) = false
is_test (con.NotShape x f n) = false
is_test (con.NotNum t) = false
is_test (con.Row r) = false

-- the list tells it, as is seen by these means
abbrev pub is_told : Means → List Con → Con → Bool
is_told means.Evidence cs c = is_evident cs c
is_told means.Question cs c = follows cs c

-- what stays of the list behind these: no constraint, but for number tests, that those which stay before it and all behind it
-- tell, as is seen by these means
abbrev pub shortened : Means → List Con → List Con → List Con
shortened m before [] = before
shortened m before (c ∷ rest) = if not (is_test c) && is_told m (before ++ rest) c then shortened m before rest else shortened m (before ++ c ∷ []) rest

-- without what is evident
abbrev pub without_evident : List Con → List Con
without_evident cs = shortened means.Evidence [] cs

-- so many questions are asked of a list
abbrev pub most_questions : ℕ
most_questions = 8

-- what stays of the list behind these: of the last that so many questions serve for, no constraint that the rest tells, as
-- is asked; all that stand before them
abbrev pub thinned_behind : List Con → List Con → List Con
thinned_behind before [] = before
thinned_behind before (c ∷ rest) = if nat_lt most_questions (questions (c ∷ rest)) then thinned_behind (before ++ c ∷ []) rest else shortened means.Question before (c ∷ rest)

abbrev pub thinned : List Con → List Con
thinned cs = thinned_behind [] cs

-- it is a number test of a number, or of a variable that some row of the list has
abbrev pub is_told_by_rows : List Con → Con → Bool
is_told_by_rows cs (con.Num (term.Var x)) = list_any (is_row_of x) cs
is_told_by_rows cs (con.Num (term.Num q)) = true
is_told_by_rows cs (con.Num (term.App f ts)) = false
is_told_by_rows cs (con.Eq t u) = false
is_told_by_rows cs (con.Neq t u) = false
is_told_by_rows cs (con.NotShape x f n) = false
is_told_by_rows cs (con.NotNum t) = false
is_told_by_rows cs (con.Row r) = false

-- without the number tests of numbers, and of variables that rows have
abbrev pub without_tests : List Con → List Con
without_tests cs = filter (λ c. not (is_told_by_rows cs c)) cs

-- ---- its order: the bounds of a variable stand beside one another, the lower ones first

abbrev pub bound_by : List Coeff → Bound
bound_by [] = bound.None
bound_by (k ∷ []) = if int_lt k.c (pos 0) then bound.Lower k.x else bound.Upper k.x
bound_by (k ∷ j ∷ ks) = bound.None

abbrev pub bound_with : Op → List Coeff → Bound
bound_with op.Lt ks = bound_by ks
bound_with op.Le ks = bound_by ks
bound_with op.Eq ks = bound.None
bound_with op.Ne ks = bound.None

-- what the constraint bounds, and from which side
abbrev pub bound_of : Con → Bound
bound_of (con.Row r) = bound_with r.op r.coeffs
bound_of (con.Eq t u) = bound.None
bound_of (con.Neq t u) = bound.None
bound_of (con.NotShape x f n) = bound.None
bound_of (con.Num t) = bound.None
bound_of (con.NotNum t) = bound.None

abbrev pub is_lower : ℕ → Bound → Bool
is_lower x bound.None = false
is_lower x (bound.Lower y) = nat_eq x y
is_lower x (bound.Upper y) = false

abbrev pub is_upper : ℕ → Bound → Bool
is_upper x bound.None = false
is_upper x (bound.Lower y) = false
is_upper x (bound.Upper y) = nat_eq x y

abbrev pub is_bound : ℕ → Bound → Bool
is_bound x b = is_lower x b || is_upper x b

-- the lower bounds of the variable, its upper ones, and then all else
abbrev pub bounds_first : ℕ → List Con → List Con
bounds_first x cs =
    filter (λ c. is_lower x (bound_of c)) cs ++ (filter (λ c. is_upper x (bound_of c)) cs ++ filter (λ c. not (is_bound x (bound_of c))) cs)

abbrev pub put_by : Bound → List Con → List Con
put_by bound.None cs = cs
put_by (bound.Lower x) cs = bounds_first x cs
put_by (bound.Upper x) cs = bounds_first x cs

abbrev pub in_order : List Con → List Con
in_order [] = []
in_order (c ∷ rest) = put_by (bound_of c) (c ∷ in_order rest)

-- ---- all lists

abbrev pub shortest_list : List Con → List Con
shortest_list cs = in_order (without_tests (thinned (without_evident cs)))

-- the constraints of the second list that are not evident from the first
abbrev pub left_open : List Con → List Con → List Con
left_open cs ds = filter (λ d. not (is_evident cs d)) ds

abbrev pub is_empty : List Con → Bool
is_empty [] = true
is_empty (c ∷ cs) = false

-- the constraint that is all of the list
abbrev pub single : List Con → List Con
single [] = []
single (c ∷ []) = c ∷ []
single (c ∷ d ∷ cs) = []

-- the list tells one of the first two, as is asked
abbrev pub tells_early : List Con → List Con → Bool
tells_early cs [] = false
tells_early cs (c ∷ []) = follows cs c
tells_early cs (c ∷ d ∷ more) = follows cs c || follows cs d

-- of one of these lists nothing is open, or of one of the first two of which one constraint is open a question shows this
-- one
abbrev pub is_closed : List Con → List (List Con) → Bool
is_closed cs opens = list_any is_empty opens || tells_early cs (flat_map single opens)

-- the list is within one of the others
abbrev pub is_within_one : List Con → List (List Con) → Bool
is_within_one cs others = is_closed cs (map (left_open cs) others)

-- the lists that stay behind these: none that is within one which stays before it, or within one behind it
abbrev pub uncontained : List (List Con) → List (List Con) → List (List Con)
uncontained before [] = before
uncontained before (cs ∷ rest) = if is_within_one cs (before ++ rest) then uncontained before rest else uncontained (before ++ cs ∷ []) rest

-- the lists in their shortest form
abbrev pub shortest : List (List Con) → List (List Con)
shortest lists = uncontained [] (map shortest_list lists)
