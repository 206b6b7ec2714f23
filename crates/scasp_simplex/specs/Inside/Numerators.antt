-- Points whose values are whole numbers over one denominator.
use Rattle.std.specs.Prelude.{ℕ, nat_eq, ℤ, pos, ◌+ℤ◌, ◌*ℤ◌, List, [], ◌∷◌, unwrap_or}
use Rattle.std.specs.HashMap.{get}
use Rattle.scasp_num.specs.declared.linear.Coeff.{Coeff}
use Rattle.scasp_num.specs.Linear.{Linear}
use Rattle.scasp_simplex.specs.declared.point.Point.{Point}

-- the numerator of a variable; 0 where there is none
abbrev pub numerator : Point → ℕ → ℤ
numerator p x = unwrap_or (get nat_eq p.numerators x) (pos 0)

-- a number, and each coefficient times its variable's numerator
abbrev pub summed : Point → List Coeff → ℤ → ℤ
summed p [] s = s
summed p (k ∷ ks) s = summed p ks (s +ℤ k.c *ℤ numerator p k.x)

-- the row's sum, times the denominator
abbrev pub sum_at : Point → Linear → ℤ
sum_at p r = summed p r.coeffs (r.constant *ℤ p.denominator)
