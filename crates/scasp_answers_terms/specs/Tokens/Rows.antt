-- Reading linear rows.
use Rattle.std.specs.Prelude.{ℕ, ◌==◌, nat_lt, Bool, true, false, not, ◌||◌, if◌then◌else◌, List, [], ◌∷◌, codes, None, Some, ℤ, pos}
use Rattle.scasp_num.specs.Arithmetic.{◌>>=◌, signed}
use Rattle.scasp_num.specs.Linear.{Linear, is_normal}
use Rattle.scasp_num.specs.declared.linear.Coeff.{Coeff}
use Rattle.scasp_num.specs.declared.linear.Op.{Op}
use Rattle.scasp_num.specs.declared.linear.Op.TheVariants as op
use Rattle.scasp_answers_terms.specs.Tokens.Bounds.{bounded_place, bounded_integer, row_fits}
use Rattle.scasp_answers_terms.specs.Tokens.Tokens.{Token, variable, digits, minus, plus, star}
use Rattle.scasp_answers_terms.specs.Tokens.Readers.{Parsed, made, alone, any_of, only}

-- summands and a constant
abbrev pub Sum : Type 0
Sum = List Coeff × ℤ

abbrev pub summand : ℕ → ℤ → Coeff
summand x c = record { x = bounded_place x; c = bounded_integer c }

abbrev pub with_summand : Coeff → Sum → Sum
with_summand k s = (k ∷ s.0, s.1)

abbrev mutual
  -- what stands behind a summand: summands and then a constant, each with its sign
  pub more_at : List Token → Parsed Sum
  more_at (plus ∷ ts) = more_signed false ts
  more_at (minus ∷ ts) = more_signed true ts
  more_at ts = Some (([], pos 0), ts)

  pub more_signed : Bool → List Token → Parsed Sum
  more_signed negative (variable x ∷ ts) = made (with_summand (summand x (signed negative 1))) (more_at ts)
  more_signed negative (digits n ∷ star ∷ variable x ∷ ts) = if nat_lt 1 n then made (with_summand (summand x (signed negative n))) (more_at ts) else None
  more_signed negative (digits n ∷ star ∷ ts) = None
  more_signed negative (digits n ∷ ts) = if n == 0 then None else Some (([], bounded_integer (signed negative n)), ts)
  more_signed negative _ = None

-- `2*V0-V1+3`, `-3`, `0`
abbrev pub sum_at : List Token → Parsed Sum
sum_at (minus ∷ ts) = more_signed true ts
sum_at (digits n ∷ ts) = if n == 0 then Some (([], pos 0), ts) else more_signed false (digits n ∷ ts)
sum_at ts = more_signed false ts

abbrev pub relation_at : List Token → Parsed Op
relation_at =
    any_of (
    alone (codes " #= 0") op.Eq
    ∷ alone (codes " #< 0") op.Lt
    ∷ alone (codes " #=< 0") op.Le
    ∷ alone (codes " #<> 0") op.Ne
    ∷ [])

abbrev pub row_of : Sum → Op → Linear
row_of s relation = record { coeffs = s.0; constant = s.1; op = relation }

-- The row is in normal form. Of one with a number that is too large only its digits are judged.
abbrev pub is_row : Linear → Bool
is_row r = not (row_fits r) || is_normal r

abbrev pub row_at : List Token → Parsed Linear
row_at =
    only is_row
    (λ ts. sum_at ts >>= (λ s. made (row_of s.0) (relation_at s.1)))
