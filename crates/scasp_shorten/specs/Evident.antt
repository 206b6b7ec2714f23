-- What is evident from a list of constraints: what is seen without a question.
use Rattle.std.specs.Prelude.{Bool, false, ◌&&◌, ◌||◌, nat_eq, if◌then◌else◌, ℤ, pos, int_lt, List, [], ◌∷◌, Result, Ok, Err}
use Rattle.std.specs.List.{list_all, list_any}
use Rattle.scasp_checker_rules.specs.SameConstraint.{same_con}
use Rattle.scasp_num.specs.declared.linear.Coeff.{Coeff}
use Rattle.scasp_num.specs.Linear.{Linear, coefficient, is_equation, negated_if, negation}
use Rattle.scasp_rows.specs.Points.{is_false}
use Rattle.scasp_rows.specs.Steps.{step_of}
use Rattle.scasp_rows.specs.declared.steps.StepErr.{StepErr}
use Rattle.scasp_syntax.specs.declared.con.Con.{Con}
use Rattle.scasp_syntax.specs.declared.con.Con.TheVariants as con
use Rattle.scasp_shorten.specs.Following.{is_number_by, is_row_of, tells_number}

-- ---- two rows

-- the sum is made, and is a false row
abbrev pub is_false_sum : Result Linear StepErr → Bool
is_false_sum (Ok row) = is_false row
is_false_sum (Err e) = false

abbrev pub magnitude : ℤ → ℤ
magnitude a = negated_if (int_lt a (pos 0)) a

-- b, with its sign turned if a is above 0
abbrev pub against : ℤ → ℤ → ℤ
against a b = negated_if (int_lt (pos 0) a) b

-- of two rows with the coefficients a and b of a variable, the sum without this variable is false
abbrev pub clash_at : ℤ → ℤ → Linear → Linear → Bool
clash_at a b p q = if is_equation q.op then is_false_sum (step_of (magnitude b) p (against b a) q) else is_false_sum (step_of (against a b) p (magnitude a) q)

abbrev pub clash_by : List Coeff → Linear → Linear → Bool
clash_by [] p q = false
clash_by (k ∷ ks) p q = clash_at (coefficient k.x p.coeffs) (coefficient k.x q.coeffs) p q

-- the sum of the two rows without the first variable of the first is false, so no point meets both
abbrev pub clash : Linear → Linear → Bool
clash p q = clash_by p.coeffs p q

-- the first row has all variables of the second, and no point meets it that does not meet the second
abbrev pub row_tells : Linear → Linear → Bool
row_tells p r = list_all (λ k. list_any (λ j. nat_eq k.x j.x) p.coeffs) r.coeffs && clash p (negation r)

abbrev pub rows_tell : Con → Con → Bool
rows_tell (con.Row p) (con.Row r) = row_tells p r
rows_tell d c = false

-- ---- a list

-- the first constraint alone tells the second
abbrev pub tells_alone : Con → Con → Bool
tells_alone d c = same_con d c || rows_tell d c

-- it says no more than that something is a number, which the list tells
abbrev pub is_about_numbers : List Con → Con → Bool
is_about_numbers cs (con.Num t) = is_number_by cs t
is_about_numbers cs (con.NotShape x f n) = tells_number cs x
is_about_numbers cs (con.Row r) = list_all (λ k. tells_number cs k.x) r.coeffs && is_false (negation r)
is_about_numbers cs (con.Eq t u) = false
is_about_numbers cs (con.Neq t u) = false
is_about_numbers cs (con.NotNum t) = false

abbrev pub is_evident : List Con → Con → Bool
is_evident cs c = is_about_numbers cs c || list_any (λ d. tells_alone d c) cs
