-- Points over one denominator that meet rows.
use Rattle.std.proofs.Common.{◌≡◌, ℕ, ℤ, pos, ◌+ℤ◌, ◌*ℤ◌, ◌<ℤ◌, List, [], ◌∷◌, subst, ◌∙◌, arith}
use Rattle.std.proofs.lemmas.Int.{ints}
use Rattle.scasp_list.specs.Each.{Each}
use Rattle.scasp_num.specs.declared.linear.Coeff.{Coeff}
use Rattle.scasp_num.specs.Linear.{Linear, Compares, Meets, weighted}
use Rattle.scasp_rows.specs.Points.{IsMet}
use Rattle.scasp_rows.proofs.Completeness.{point_by, point-meets}
use Rattle.scasp_simplex.specs.Inside.Numerators.{numerator, sum_at, summed}
use Rattle.scasp_simplex.specs.declared.point.Point.{Point}

-- the sum is the same from its other end
summed-is : (p : Point) (ks : List Coeff) (s : ℤ) → summed p ks s ≡ weighted (numerator p) ks +ℤ s
summed-is p [] s = omega (arith, ints)
summed-is p (k ∷ ks) s = omega (arith, ints, summed-is p ks (s +ℤ k.c *ℤ numerator p k.x))

pub sum_meets : (p : Point) (r : Linear) (z : ℤ) → z ≡ sum_at p r → Compares r.op z → Meets (numerator p) p.denominator r
sum_meets p r z e h = subst (Compares r.op) (e ∙ summed-is p r.coeffs (r.constant *ℤ p.denominator)) h

pub met_by : (m : ℕ → ℤ) (d : ℤ) (rows : List Linear) → pos 0 <ℤ d → Each (Meets m d) rows → IsMet rows
met_by m d rows h e = (point_by m d h, point-meets m d h rows e)
