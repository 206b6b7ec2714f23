-- Substitutions, one after another and with ground values.
use Rattle.std.proofs.Common.{◌≡◌, ◌≢◌, ◌↔◌, Bool, true, false, not, IsTrue, refl, ap}
use Rattle.scasp_syntax.specs.Same.{same_tm}
use Rattle.scasp_syntax.specs.Tm.{Tm, Tms, var, num, app, nil, cons}
use Rattle.scasp_syntax.specs.Values.{Sub, Valuation, under, all_under, is_ground, are_ground}
use Rattle.scasp_syntax.proofs.SameLemmas.{tm_decided}

mutual
  pub under-under : (r s : Sub) (t : Tm) → under r (under s t) ≡ under (λ x. under r (s x)) t
  under-under r s (var x) = refl
  under-under r s (num q) = refl
  under-under r s (app f ts) = ap (app f) (all_under-all_under r s ts)

  pub all_under-all_under : (r s : Sub) (ts : Tms) → all_under r (all_under s ts) ≡ all_under (λ x. under r (s x)) ts
  all_under-all_under r s nil = refl
  all_under-all_under r s (cons t ts) = let p = under-under r s t in let q = all_under-all_under r s ts in cc

mutual
  pub is_ground-under : (v : Valuation) (t : Tm) → IsTrue (is_ground (under v.of t))
  is_ground-under v (var x) = v.ground x
  is_ground-under v (num q) = refl
  is_ground-under v (app f ts) = are_ground-under v ts

  pub are_ground-under : (v : Valuation) (ts : Tms) → IsTrue (are_ground (all_under v.of ts))
  are_ground-under v nil = refl
  are_ground-under v (cons t ts) = rw (is_ground-under v t, are_ground-under v ts) refl

-- a test that is false, of terms that differ
pub differ_decided : (t u : Tm) → IsTrue (not (same_tm t u)) ↔ (t ≢ u)
differ_decided t u = by (same_tm t u) refl
  where
    by : (b : Bool) → same_tm t u ≡ b → IsTrue (not (same_tm t u)) ↔ (t ≢ u)
    by true e = (λ n. absurd (cc), λ n. absurd (n ((tm_decided t u).0 e)))
    by false e = (λ n same. let s = (tm_decided t u).1 same in cc, λ n. rw e refl)
