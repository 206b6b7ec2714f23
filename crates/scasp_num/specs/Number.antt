-- Rational numbers: fractions in lowest terms, without bound.
use Rattle.std.specs.Prelude.{◌≡◌, ◌<◌, ◌^◌, ℤ, pos, ◌*ℤ◌, ◌<ℤ◌, unsigned_abs}
use Rattle.std.specs.Coded.{Coded, code_by, coded×, coded_ℤ}
use Rattle.std.proofs.Common.{arith}
use Rattle.std.proofs.lemmas.Int.{ints}
use Rattle.scasp_num.specs.Gcd.{gcd, gcd_within}
use mathlib.Core.Path.{refl}
use denote.Struct.Props.{props}
use base.Stored.{coded_sub}

-- num/den is in lowest terms, and its denominator is above 0
pub record IsReduced (num den : ℤ) : Type 0 where
  pub positive : pos 0 <ℤ den
  pub lowest : gcd (unsigned_abs num) (unsigned_abs den) ≡ 1

pub IsReduced-prop : (num den : ℤ) → IsProp (IsReduced num den)
IsReduced-prop num den = hlevel props

-- a rational number
pub record Number : Type 0 where
  pub num : ℤ
  pub den : ℤ
  pub reduced : IsReduced num den

pub zero-IsReduced : IsReduced (pos 0) (pos 1)
unfolding gcd gcd_within
zero-IsReduced = record { positive = omega (arith, ints); lowest = refl }

abbrev pub zero_number : Number
zero_number = record { num = pos 0; den = pos 1; reduced = zero-IsReduced }

abbrev Parts : Type 0
Parts = (p : ℤ × ℤ) × IsReduced p.0 p.1

-- a number is stored as its two integers
abbrev pub number_code : Coded Number
number_code =
    code_by Parts (coded_sub (coded× coded_ℤ coded_ℤ) (λ p. IsReduced p.0 p.1) (λ p. IsReduced-prop p.0 p.1))
    (λ q. ((q.num, q.den), q.reduced))
    (λ p. record { num = p.0.0; den = p.0.1; reduced = p.1 })
    (λ _. refl)

-- the number is the fraction n/d, for a d that is not 0
abbrev pub IsFraction : Number → ℤ → ℤ → Type 0
IsFraction q n d = q.num *ℤ d ≡ n *ℤ q.den

-- from -M to M, where M is 2^127 - 1
abbrev pub InRange : ℤ → Type 0
InRange z = unsigned_abs z < 2 ^ 127
