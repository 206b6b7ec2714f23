-- The row 0 = 0.
use Rattle.std.proofs.Common.{◌≡◌, pos, [], None, Some, refl, ap, ◌∙◌}
use Rattle.scasp_num.specs.declared.linear.Op.TheVariants as op
use Rattle.scasp_num.specs.Gcd.{gcd, gcd_within}
use Rattle.scasp_num.specs.Number.{Number}
use Rattle.scasp_num.specs.Arithmetic.{◌>>=◌, lowest}
use Rattle.scasp_num.specs.Linear.{normal_form}
use Rattle.scasp_num.specs.Sums.{normal_of}
use Rattle.scasp_reader.specs.Bodies.Items.{some_row}

computed : (lowest (pos 0) (pos 1) >>= (λ z. normal_of [] z op.Eq)) ≡ Some (some_row None)
unfolding lowest gcd gcd_within normal_of normal_form
computed = refl

pub zero_row-is : (z : Number) → Some z ≡ lowest (pos 0) (pos 1) → normal_of [] z op.Eq ≡ Some (some_row None)
zero_row-is z h = ap (λ o. o >>= (λ z. normal_of [] z op.Eq)) h ∙ computed

pub zero-is : lowest (pos 0) (pos 1) ≡ None → ⊥
unfolding lowest gcd gcd_within
zero-is h = cc
