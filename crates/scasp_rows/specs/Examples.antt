-- Small cases of the definitions, computed.
use Rattle.std.specs.Prelude.{◌≡◌, true, false, ℕ, ℤ, pos, negsuc, List, [], ◌∷◌, Result, Ok, Err}
use Rattle.std.proofs.Common.{refl}
use Rattle.scasp_num.specs.declared.linear.Coeff.{Coeff}
use Rattle.scasp_num.specs.declared.linear.Op.TheVariants as op
use Rattle.scasp_num.specs.declared.linear.RatPair.{RatPair}
use Rattle.scasp_num.specs.Linear.{Linear, normal_form}
use Rattle.scasp_num.specs.Gcd.{gcd, gcd_within}
use Rattle.scasp_num.specs.Arithmetic.{lowest, sum_of, product_of, quotient_of}
use Rattle.scasp_num.specs.Sums.{normal_of}
use Rattle.scasp_rows.specs.declared.state.Halt.{Halt}
use Rattle.scasp_rows.specs.declared.state.Halt.TheVariants as halt
use Rattle.scasp_rows.specs.declared.steps.StepErr.TheVariants as step_err
use Rattle.scasp_rows.specs.Steps.{row_sum, step_of}
use Rattle.scasp_rows.specs.Elimination.{without, elimination}
use Rattle.scasp_rows.specs.Samples.{point_of, solution_of}
use Rattle.scasp_rows.specs.PlainRows.{is_met}

abbrev term : ℕ → ℤ → Coeff
term x c = record { x = x; c = c }

-- V0-3 #< 0
abbrev below_three : Linear
below_three = record { coeffs = term 0 (pos 1) ∷ []; constant = negsuc 2; op = op.Lt }

-- -V0+1 #=< 0
abbrev above_one : Linear
above_one = record { coeffs = term 0 (negsuc 0) ∷ []; constant = pos 1; op = op.Le }

-- -V0+5 #=< 0
abbrev above_five : Linear
above_five = record { coeffs = term 0 (negsuc 0) ∷ []; constant = pos 5; op = op.Le }

stepped : step_of (pos 1) below_three (pos 1) above_one ≡ Ok (record { coeffs = []; constant = negsuc 0; op = op.Lt })
unfolding row_sum normal_of normal_form lowest sum_of gcd gcd_within
stepped = refl

sign_before : step_of (negsuc 0) below_three (pos 1) above_one ≡ Err step_err.Sign
sign_before = refl

denied : elimination (below_three ∷ above_five ∷ []) ≡ Err (halt.Unsat (record { a = pos 1; p = 2; b = pos 1; q = 1 } ∷ []))
unfolding elimination without row_sum normal_of normal_form lowest sum_of gcd gcd_within
denied = refl

-- 85070591730234615865843651857942052864*V0+3*V1-1 #= 0, and 5*V0-V1-2 #= 0
too_large : elimination (record { coeffs = term 0 (pos 85070591730234615865843651857942052864) ∷ term 1 (pos 3) ∷ []; constant = negsuc 0; op = op.Eq } ∷ record { coeffs = term 0 (pos 5) ∷ term 1 (negsuc 0) ∷ []; constant = negsuc 1; op = op.Eq } ∷ []) ≡ Err halt.Overflow
unfolding elimination without row_sum normal_of normal_form lowest sum_of gcd gcd_within
too_large = refl

-- the parts of the numbers of a point
abbrev parts : List RatPair → List (ℕ × ℤ × ℤ)
parts [] = []
parts (p ∷ ps) = (p.x, p.value.num, p.value.den) ∷ parts ps

abbrev shown : Result (List RatPair) Halt → List (ℕ × ℤ × ℤ)
shown (Ok point) = parts point
shown (Err h) = []

-- between 1 and 3, without 1
between : shown (point_of (below_three ∷ above_one ∷ [])) ≡ (0, pos 2, pos 1) ∷ []
unfolding point_of without solution_of row_sum normal_of normal_form lowest sum_of product_of quotient_of gcd gcd_within
between = refl

-- ---- without bounds

-- 85070591730234615865843651857942052864*V0+3*V1-1 #= 0, and 5*V0-V1-2 #= 0, as above
large_met : is_met (record { coeffs = term 0 (pos 85070591730234615865843651857942052864) ∷ term 1 (pos 3) ∷ []; constant = negsuc 0; op = op.Eq } ∷ record { coeffs = term 0 (pos 5) ∷ term 1 (negsuc 0) ∷ []; constant = negsuc 1; op = op.Eq } ∷ []) ≡ true
unfolding is_met
large_met = refl

denied_unmet : is_met (below_three ∷ above_five ∷ []) ≡ false
unfolding is_met
denied_unmet = refl
