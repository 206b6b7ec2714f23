-- Constraints as bindings make them.
use Rattle.std.specs.Prelude.{ℕ, zero, suc, Bool, false, nat_eq, if◌then◌else◌, is_none, Option, Some, None, List, [], ◌∷◌, ◌++◌}
use Rattle.std.specs.List.{list_any, flat_map}
use Rattle.scasp_num.specs.Linear.{Linear, compares}
use Rattle.scasp_num.specs.declared.linear.Coeff.{Coeff}
use Rattle.scasp_syntax.specs.Constraints.{has_shape, is_number}
use Rattle.scasp_syntax.specs.Same.{same_tm}
use Rattle.scasp_syntax.specs.Tm.{Tm, var, num, app}
use Rattle.scasp_syntax.specs.Values.{Sub, under}
use Rattle.scasp_syntax.specs.View.{tm_of}
use Rattle.scasp_syntax.specs.declared.con.Con.{Con}
use Rattle.scasp_syntax.specs.declared.con.Con.TheVariants as con
use Rattle.scasp_syntax.specs.declared.term.Term.{Term}
use Rattle.scasp_unify.specs.Parts.{parts}
use Rattle.scasp_unify.specs.ResolvedRows.{resolved_row}
use Rattle.scasp_unify.specs.SimpleForm.{term_with}
use Rattle.scasp_unify.specs.TermFailures.{is_compound}
use Rattle.scasp_unify.specs.Unification.{term_vars}

abbrev pub among : ℕ → List ℕ → Bool
among x xs = list_any (nat_eq x) xs

-- the numbers from k on
abbrev pub count_from : ℕ → ℕ → List ℕ
count_from k zero = []
count_from k (suc n) = k ∷ count_from (suc k) n

-- the variables of a constraint whose variables have these values
abbrev pub con_vars : Sub → Con → List ℕ
con_vars v (con.Eq t s) = term_vars (under v (tm_of t)) ++ term_vars (under v (tm_of s))
con_vars v (con.Neq t s) = term_vars (under v (tm_of t)) ++ term_vars (under v (tm_of s))
con_vars v (con.NotShape x f n) = term_vars (v x)
con_vars v (con.Num t) = term_vars (under v (tm_of t))
con_vars v (con.NotNum t) = term_vars (under v (tm_of t))
con_vars v (con.Row r) = flat_map (λ k. term_vars (v k.x)) r.coeffs

abbrev pub term_under : Sub → Term → Term
term_under v t = term_with (under v (tm_of t))

-- not of this shape; a term that is no variable has a shape by itself
abbrev pub not_shaped : Tm → ℕ → ℕ → Con
not_shaped (var x) f n = con.NotShape x f n
not_shaped (num q) f n = con.Eq (term_with (num q)) (term_with (num q))
not_shaped (app g us) f n =
    let t : Term = term_with (app g us) in
    if has_shape f n (app g us) then con.Neq t t else con.Eq t t

abbrev pub row_or : Linear → Option Linear → Linear
row_or r None = r
row_or r (Some q) = q

-- the row with its variables replaced; it stands as it was where a replacement overflows
abbrev pub row_under : Sub → Linear → Linear
row_under v r = row_or r (resolved_row v r)

abbrev pub con_under : Sub → Con → Con
con_under v (con.Eq t s) = con.Eq (term_under v t) (term_under v s)
con_under v (con.Neq t s) = con.Neq (term_under v t) (term_under v s)
con_under v (con.NotShape x f n) = not_shaped (v x) f n
con_under v (con.Num t) = con.Num (term_under v t)
con_under v (con.NotNum t) = con.NotNum (term_under v t)
con_under v (con.Row r) = con.Row (row_under v r)

abbrev pub constant_holds : List Coeff → Linear → Bool
constant_holds [] r = compares r.op r.constant
constant_holds (k ∷ ks) r = false

-- true whatever its variables stand for
abbrev pub holds_always : Con → Bool
holds_always (con.Eq t u) = same_tm (tm_of t) (tm_of u)
holds_always (con.Neq t u) = is_none (parts (tm_of t) (tm_of u))
holds_always (con.NotShape x f n) = false
holds_always (con.Num t) = is_number (tm_of t)
holds_always (con.NotNum t) = is_compound (tm_of t)
holds_always (con.Row r) = constant_holds r.coeffs r
