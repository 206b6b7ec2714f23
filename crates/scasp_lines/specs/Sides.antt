-- The two sides of a split.
use Rattle.std.specs.Prelude.{ℕ, Bool, ◌&&◌, nat_eq, nat_lt, ◌∷◌, ◌+◌, Option, None, Some, if◌then◌else◌, length}
use Rattle.scasp_syntax.specs.Same.{same_tms}
use Rattle.scasp_syntax.specs.Tm.{Tm, var, app, num, items}
use Rattle.scasp_syntax.specs.Values.{Sub, under}
use Rattle.scasp_syntax.specs.View.{tm_of}
use Rattle.scasp_syntax.specs.declared.con.Con.{Con}
use Rattle.scasp_unify.specs.Negations.{new_parts, negated}
use Rattle.scasp_lines.specs.Opened.{Opened, shaped, assumed}
use Rattle.scasp_lines.specs.Places.{Place, is_universal}
use Rattle.scasp_syntax.specs.declared.con.Con.TheVariants as con

-- A variable against a name with new parts.
pub record Shape : Type 0 where
  pub of : ℕ
  pub name : ℕ
  pub size : ℕ

-- the arguments are the new variables, in order, and there are some
abbrev pub shape_between : ℕ → Tm → Tm → Option Shape
shape_between next (var x) (app f ts) =
    if nat_lt 0 (length (items ts)) && same_tms ts (new_parts next (length (items ts)))
    then Some (record { of = x; name = f; size = length (items ts) }) else None
shape_between next (var x) (var y) = None
shape_between next (var x) (num q) = None
shape_between next (num q) u = None
shape_between next (app f ts) u = None

abbrev pub shape_of : ℕ → Con → Option Shape
shape_of next (con.Eq t u) = shape_between next (tm_of t) (tm_of u)
shape_of next (con.Neq t u) = shape_between next (tm_of t) (tm_of u)
shape_of next (con.NotShape x f n) = None
shape_of next (con.Num t) = None
shape_of next (con.NotNum t) = None
shape_of next (con.Row r) = None

-- t for u
abbrev pub replacing : ℕ → Tm → Sub
replacing u t x = if nat_eq x u then t else var x

-- what is replaced, with u replaced by t below
abbrev pub also_replaced : ℕ → Tm → Sub → Sub
also_replaced u t replaced x = under (replacing u (under replaced t)) (replaced x)

-- an equation replaces a universal variable that is its left side, else replacing that is its right side
abbrev pub replaced_by : (ℕ → Bool) → Tm → Tm → Sub → Sub
replaced_by universal (var u) t replaced = if universal u then also_replaced u t replaced else replaced
replaced_by universal (num q) (var u) replaced = if universal u then also_replaced u (num q) replaced else replaced
replaced_by universal (num q) (num r) replaced = replaced
replaced_by universal (num q) (app g us) replaced = replaced
replaced_by universal (app f ts) (var u) replaced = if universal u then also_replaced u (app f ts) replaced else replaced
replaced_by universal (app f ts) (num r) replaced = replaced
replaced_by universal (app f ts) (app g us) replaced = replaced

abbrev pub replaced_on : (ℕ → Bool) → Con → Sub → Sub
replaced_on universal (con.Eq t u) replaced = replaced_by universal (tm_of t) (tm_of u) replaced
replaced_on universal (con.Neq t u) replaced = replaced
replaced_on universal (con.NotShape x f n) replaced = replaced
replaced_on universal (con.Num t) replaced = replaced
replaced_on universal (con.NotNum t) replaced = replaced
replaced_on universal (con.Row r) replaced = replaced

abbrev pub with_entry : Opened → Sub → Place → Place
with_entry o replaced here =
    record { opened = o ∷ here.opened; hidden = here.hidden; replaced = replaced; above = here.above; around = here.around }

-- the side on which the constraint is true
abbrev pub side_of : (ℕ → Bool) → Con → Place → Place
side_of universal c here = with_entry (assumed c) (replaced_on universal c here.replaced) here

-- the side on which the variable has the shape
abbrev pub shape_side : (ℕ → Bool) → ℕ → Shape → Place → Place
shape_side universal next s here =
    with_entry (shaped s.of s.name next s.size)
    (if universal s.of then also_replaced s.of (app s.name (new_parts next s.size)) here.replaced else here.replaced) here

-- the side on which it has not
abbrev pub other_side : Shape → Place → Place
other_side s here = with_entry (assumed (con.NotShape s.of s.name s.size)) here.replaced here

-- What holds on the two sides, and the number of the next universal variable.
pub record Sides : Type 0 where
  pub first : Place
  pub second : Place
  pub next : ℕ

abbrev pub shape_sides : (ℕ → Bool) → ℕ → Shape → Con → Place → Sides
shape_sides universal next s (con.Neq t u) here = record { first = other_side s here; second = shape_side universal next s here; next = next + s.size }
shape_sides universal next s (con.Eq t u) here = record { first = shape_side universal next s here; second = other_side s here; next = next + s.size }
shape_sides universal next s (con.NotShape x f n) here = record { first = here; second = here; next = next }
shape_sides universal next s (con.Num t) here = record { first = here; second = here; next = next }
shape_sides universal next s (con.NotNum t) here = record { first = here; second = here; next = next }
shape_sides universal next s (con.Row r) here = record { first = here; second = here; next = next }

abbrev pub sides_by : (ℕ → Bool) → ℕ → Option Shape → Con → Place → Sides
sides_by universal next (Some s) c here = shape_sides universal next s c here
sides_by universal next None c here =
    record { first = side_of universal c here; second = side_of universal (negated here.hidden c) here; next = next }

-- the sides of a split by a constraint
abbrev pub sides : ℕ → ℕ → Con → Place → ℕ → Sides
sides free top c here next = sides_by (is_universal free top here) next (shape_of next c) c here
