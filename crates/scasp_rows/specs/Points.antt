-- Rational points, and the rows that they meet.
use Rattle.std.specs.Prelude.{◌≢◌, ℕ, Bool, true, false, ◌&&◌, not, List, [], ◌∷◌}
use Rattle.scasp_num.specs.declared.linear.Coeff.{Coeff}
use Rattle.scasp_num.specs.declared.linear.Op.TheVariants as op
use Rattle.scasp_num.specs.Number.{Number}
use Rattle.scasp_list.specs.Each.{Each}
use Rattle.scasp_num.specs.Linear.{Linear, compares}
use Rattle.scasp_num.specs.Values.{Holds}

-- a rational number for each variable
abbrev pub RationalPoint : Type 0
RationalPoint = ℕ → Number

-- the point meets each of the rows
abbrev pub MeetsAll : RationalPoint → List Linear → Type 0
MeetsAll v rows = Each (Holds v) rows

-- some point meets all the rows
abbrev pub IsMet : List Linear → Type 0
IsMet rows = (v : RationalPoint) × MeetsAll v rows

-- none of the rows is a disequation
abbrev pub NoDisequation : List Linear → Type 0
NoDisequation rows = Each (λ (r : Linear). r.op ≢ op.Ne) rows

-- the row has no variable
abbrev pub is_constant : Linear → Bool
is_constant r = no_terms r.coeffs
  where
    no_terms : List Coeff → Bool
    no_terms [] = true
    no_terms (k ∷ ks) = false

-- the row has no variable, and is met by no point
abbrev pub is_false : Linear → Bool
is_false r = is_constant r && not (compares r.op r.constant)
