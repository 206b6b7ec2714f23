-- Above the variables that some stand for.
use Rattle.std.proofs.Common.{◌≡◌, ℕ, zero, suc, ◌<◌, ◌≤◌, max, List, [], ◌∷◌, length, get_or, refl, arith}
use Rattle.scasp_num.specs.declared.linear.Coeff.{Coeff}
use Rattle.scasp_syntax.specs.Tm.{Tm, var, num, app}
use Rattle.scasp_syntax.specs.Values.{Sub}
use Rattle.scasp_lines.specs.Determined.{above_values}
use Rattle.scasp_lines_places.specs.Dues.Above.{past}

pub above_step : (m : Sub) (k : Coeff) (ks : List Coeff) → above_values m (k ∷ ks) ≡ max (past (m k.x)) (above_values m ks)
above_step m k ks = by (m k.x) refl
  where
    by : (t : Tm) → m k.x ≡ t → above_values m (k ∷ ks) ≡ max (past (m k.x)) (above_values m ks)
    by (var y) e = rw e refl
    by (num q) e = rw e refl
    by (app f ts) e = rw e refl

pub above_at : (m : Sub) (ks : List Coeff) (i : ℕ) (d : Coeff) → i < length ks → past (m (get_or ks i d).x) ≤ above_values m ks
above_at m [] i d h = absurd (omega arith)
above_at m (k ∷ ks) zero d h = let e = above_step m k ks in omega arith
above_at m (k ∷ ks) (suc i) d h = let e = above_step m k ks in let r = above_at m ks i d (omega arith) in omega arith
