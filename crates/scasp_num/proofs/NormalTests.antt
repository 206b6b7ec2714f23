-- The test of normal form decides it.
use Rattle.std.proofs.Common.{◌≡◌, ◌≢◌, ◌↔◌, ◌<◌, zero, suc, Bool, true, false, not, ◌&&◌, nat_lt, IsTrue, IsFalse, ℤ, pos, negsuc, List, [], ◌∷◌, refl, arith}
use Rattle.std.specs.List.{list_all}
use Rattle.std.proofs.lemmas.Bool.{and_from, and_parts}
use Rattle.scasp_list.proofs.EachLemmas.{Each-from_test, test_from-Each}
use Rattle.scasp_num.specs.declared.linear.Coeff.{Coeff}
use Rattle.scasp_num.specs.Number.{InRange}
use Rattle.scasp_num.specs.Arithmetic.{in_range}
use Rattle.scasp_num.specs.Linear.{Linear, Ascends, ascends, IsNormal, is_normal, is_zero, is_negated, common_divisor, integers}
use Rattle.scasp_num.proofs.Numbers.{ltb_lt, lt_ltb}

ascends-is : (ks : List Coeff) → ascends ks ≡ true → Ascends ks
ascends-is [] e = tt
ascends-is (k ∷ ks) e =
    let p = and_parts (list_all (λ j. nat_lt k.x j.x) ks) (ascends ks) e in
    (Each-from_test (λ j. nat_lt k.x j.x) (λ j. k.x < j.x) (λ j h. ltb_lt h) ks p.0, ascends-is ks p.1)

ascends-of : (ks : List Coeff) → Ascends ks → ascends ks ≡ true
ascends-of [] a = refl
ascends-of (k ∷ ks) a =
    and_from (list_all (λ j. nat_lt k.x j.x) ks) (ascends ks) (test_from-Each (λ j. nat_lt k.x j.x) (λ j. k.x < j.x) (λ j h. lt_ltb h) ks a.0) (ascends-of ks a.1)

nonzero-is : (z : ℤ) → not (is_zero z) ≡ true → z ≢ pos 0
nonzero-is (pos zero) e = cc
nonzero-is (pos (suc n)) e = λ f. cc
nonzero-is (negsuc n) e = λ f. cc

nonzero-of : (z : ℤ) → z ≢ pos 0 → not (is_zero z) ≡ true
nonzero-of (pos zero) n = absurd (n refl)
nonzero-of (pos (suc n)) h = refl
nonzero-of (negsuc n) h = refl

not-is : (b : Bool) → not b ≡ true → IsFalse b
not-is true e = cc
not-is false e = refl

not-of : (b : Bool) → IsFalse b → not b ≡ true
not-of true e = cc
not-of false e = refl

pub normal-decided : (r : Linear) → IsTrue (is_normal r) ↔ IsNormal r
normal-decided r = (there, back)
  where
    there : is_normal r ≡ true → IsNormal r
    there h =
        let a = ascends r.coeffs in
        let b = list_all (λ (k : Coeff). not (is_zero k.c)) r.coeffs in
        let c = in_range r.constant in
        let d = list_all (λ (k : Coeff). in_range k.c) r.coeffs in
        let e = nat_lt (common_divisor (integers r)) 2 in
        let p = and_parts (a && b && c && d && e) (not (is_negated r)) h in
        let q = and_parts (a && b && c && d) e p.0 in
        let s = and_parts (a && b && c) d q.0 in
        let t = and_parts (a && b) c s.0 in
        let u = and_parts a b t.0 in
        let below : common_divisor (integers r) < 2 = ltb_lt q.1 in
        record {
          ascending = ascends-is r.coeffs u.0;
          nonzero = Each-from_test (λ (k : Coeff). not (is_zero k.c)) (λ k. k.c ≢ pos 0) (λ k g. nonzero-is k.c g) r.coeffs u.1;
          constant_range = ltb_lt t.1;
          range = Each-from_test (λ (k : Coeff). in_range k.c) (λ k. InRange k.c) (λ k g. ltb_lt g) r.coeffs s.1;
          primitive = omega arith;
          sign = not-is (is_negated r) p.1;
        }

    back : IsNormal r → is_normal r ≡ true
    back n =
        let a = ascends r.coeffs in
        let b = list_all (λ (k : Coeff). not (is_zero k.c)) r.coeffs in
        let c = in_range r.constant in
        let d = list_all (λ (k : Coeff). in_range k.c) r.coeffs in
        let e = nat_lt (common_divisor (integers r)) 2 in
        let below : common_divisor (integers r) < 2 = omega (arith, n.primitive) in
        and_from (a && b && c && d && e) (not (is_negated r))
        (and_from (a && b && c && d) e
        (and_from (a && b && c) d
        (and_from (a && b) c
        (and_from a b (ascends-of r.coeffs n.ascending) (test_from-Each (λ (k : Coeff). not (is_zero k.c)) (λ k. k.c ≢ pos 0) (λ k g. nonzero-of k.c g) r.coeffs n.nonzero))
        (lt_ltb n.constant_range))
        (test_from-Each (λ (k : Coeff). in_range k.c) (λ k. InRange k.c) (λ k g. lt_ltb g) r.coeffs n.range))
        (lt_ltb below))
        (not-of (is_negated r) n.sign)
