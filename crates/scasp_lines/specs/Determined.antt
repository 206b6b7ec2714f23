-- The constraint that a constraint of a clause determines where its variables stand for terms.
use Rattle.std.specs.Prelude.{ℕ, suc, List, [], ◌∷◌, ◌+◌, max, map, Option, None, Some}
use Rattle.scasp_num.specs.Arithmetic.{◌>>=◌}
use Rattle.scasp_num.specs.Linear.{Linear, put_of, join_of}
use Rattle.scasp_num.specs.declared.linear.Coeff.{Coeff}
use Rattle.scasp_syntax.specs.Tm.{Tm, var, app, num}
use Rattle.scasp_syntax.specs.Values.{Sub, under}
use Rattle.scasp_syntax.specs.View.{tm_of}
use Rattle.scasp_syntax.specs.declared.con.Con.{Con}
use Rattle.scasp_lines.specs.Openings.{equal}
use Rattle.scasp_unify.specs.SimpleForm.{simple, term_with, differ}
use Rattle.scasp_syntax.specs.declared.con.Con.TheVariants as con

-- above each variable that one of these stands for by itself
abbrev pub above_values : Sub → List Coeff → ℕ
above_values m [] = 0
above_values m (k ∷ ks) = max (past (m k.x)) (above_values m ks)
  where
    past : Tm → ℕ
    past (var y) = suc y
    past (num q) = 0
    past (app f ts) = 0

-- the variable, numbered so, replaced by the number or the variable that it stands for
abbrev pub put_value : ℕ → Tm → Linear → Option Linear
put_value x (var y) r = join_of r x y
put_value x (num q) r = put_of r x q
put_value x (app f ts) r = None

abbrev pub put_values : Sub → ℕ → List Coeff → Linear → Option Linear
put_values m by [] r = Some r
put_values m by (k ∷ ks) r = put_value (k.x + by) (m k.x) r >>= put_values m by ks

-- the row with its variables replaced one by one, ascending; they count as others than those of the terms that they stand for
abbrev pub determined_row : Sub → Linear → Option Linear
determined_row m r =
    let by = above_values m r.coeffs in
    put_values m by r.coeffs (record { coeffs = map (λ k. record { x = k.x + by; c = k.c }) r.coeffs; constant = r.constant; op = r.op })

abbrev pub row_con : Option Linear → Option Con
row_con None = None
row_con (Some r) = Some (con.Row r)

abbrev pub not_shape : Tm → ℕ → ℕ → Option Con
not_shape (var y) f n = Some (con.NotShape y f n)
not_shape (num q) f n = None
not_shape (app g ts) f n = None

-- The constraint that a constraint of the clause determines where its variables stand for these terms. A disequation stands in its simple
-- form. None where a row overflows, or has a variable that stands for a term with a name.
abbrev pub determined : Sub → Con → Option Con
determined m (con.Eq t u) = Some (equal (under m (tm_of t)) (under m (tm_of u)))
determined m (con.Neq t u) = Some (simple (differ (under m (tm_of t)) (under m (tm_of u))))
determined m (con.NotShape x f n) = not_shape (m x) f n
determined m (con.Num t) = Some (con.Num (term_with (under m (tm_of t))))
determined m (con.NotNum t) = Some (con.NotNum (term_with (under m (tm_of t))))
determined m (con.Row r) = row_con (determined_row m r)
