-- Whether values meet a constraint, by arithmetic in the range of the numbers.
use Rattle.std.specs.Prelude.{Bool, false, Option, None, Some, List, [], ◌∷◌}
use Rattle.scasp_num.specs.Arithmetic.{◌>>=◌}
use Rattle.scasp_num.specs.Linear.{Linear, compares}
use Rattle.scasp_num.specs.Number.{Number}
use Rattle.scasp_num.specs.declared.linear.Coeff.{Coeff}
use Rattle.scasp_num.specs.declared.linear.Op.{Op}
use Rattle.scasp_rows.specs.Samples.{plus_product}
use Rattle.scasp_rows.specs.Steps.{whole}
use Rattle.scasp_syntax.specs.Constraints.{holds}
use Rattle.scasp_syntax.specs.Values.{Sub}
use Rattle.scasp_syntax.specs.declared.con.Con.{Con}
use Rattle.scasp_syntax.specs.declared.con.Con.TheVariants as con
use Rattle.scasp_syntax.specs.RowTruth.{number_of}

-- a sum and each coefficient times its variable's value, in order; what is no number counts as 0
abbrev pub summed : Sub → List Coeff → Number → Option Number
summed v [] sum = Some sum
summed v (k ∷ ks) sum = plus_product sum k.c (number_of (v k.x)) >>= summed v ks

abbrev pub bounded_sum : Sub → Linear → Option Number
bounded_sum v r = whole r.constant >>= summed v r.coeffs

abbrev pub compares_so : Op → Option Number → Bool
compares_so o None = false
compares_so o (Some sum) = compares o sum.num

-- the constraint holds, and no number overflows
abbrev pub holds_bounded : Sub → Con → Bool
holds_bounded v (con.Row r) = compares_so r.op (bounded_sum v r)
holds_bounded v (con.Eq t u) = holds v (con.Eq t u)
holds_bounded v (con.Neq t u) = holds v (con.Neq t u)
holds_bounded v (con.NotShape x f n) = holds v (con.NotShape x f n)
holds_bounded v (con.Num t) = holds v (con.Num t)
holds_bounded v (con.NotNum t) = holds v (con.NotNum t)
