-- A row in normal form is the normal form of its coefficients, and so is a raised one.
use Rattle.std.proofs.Common.{◌≡◌, ◌≢◌, ◌∙◌, ℕ, zero, suc, ◌<◌, ◌^◌, true, false, nat_lt, ℤ, pos, negsuc, neg_ℤ, ◌*ℤ◌, int_div, unsigned_abs, Some, List, [], ◌∷◌, ◌++◌, map, append-nil, append_assoc, refl, sym, ap, arith}
use Rattle.std.proofs.Math.Nat.{div-one}
use Rattle.std.proofs.lemmas.Bool.Decides.{nat_tests}
use Rattle.std.proofs.lemmas.Int.{ints}
use Rattle.scasp_list.specs.Each.{Each}
use Rattle.scasp_num.specs.Arithmetic.{◌>>=◌, lowest, within}
use Rattle.scasp_num.specs.Gcd.{gcd, gcd_within}
use Rattle.scasp_num.specs.Linear.{Linear, Ascends, IsNormal, divisor, is_zero, negated_if, normal_form, shares}
use Rattle.scasp_num.specs.Number.{InRange, Number}
use Rattle.scasp_num.specs.Sums.{added, multiple, normal_of, summed, whole, whole_number}
use Rattle.scasp_num.specs.declared.linear.Coeff.{Coeff}
use Rattle.scasp_num.specs.declared.linear.RatPair.{RatPair}
use Rattle.scasp_num.proofs.Exact.{lowest-exact}
use Rattle.scasp_num.proofs.Numbers.{lt_ltb}
use Rattle.scasp_num.proofs.SameNumber.{same_number}
use Rattle.scasp_checker_rules.specs.PairLists.{raised_from, row_raised}
use Rattle.scasp_checker_rules.proofs.RenamedRows.{renamed-normal}
use Rattle.scasp_lines_places.specs.Dues.Wholes.{integer, pair_of, raised_pair}

-- ---- the sums of pairs that ascend are the pairs

added-last : (x : ℕ) (v : Number) (sums : List RatPair) → Each (λ p. p.x < x) sums → added x v sums ≡ Some (sums ++ record { x = x; value = v } ∷ [])
added-last x v [] h = refl
added-last x v (k ∷ ks) h =
    let t : nat_lt k.x x ≡ true = lt_ltb h.0 in
    let e = added-last x v ks h.1 in rw (t, e) refl

each-last : (p q : RatPair) (sums : List RatPair) → Each (λ s. s.x < q.x) sums → p.x < q.x → Each (λ s. s.x < q.x) (sums ++ p ∷ [])
each-last p q [] h l = (l, tt)
each-last p q (s ∷ ss) h l = (h.0, each-last p q ss h.1 l)

all-last : (p : RatPair) (sums ps : List RatPair) → Each (λ q. Each (λ s. s.x < q.x) sums) ps → Each (λ q. p.x < q.x) ps → Each (λ q. Each (λ s. s.x < q.x) (sums ++ p ∷ [])) ps
all-last p sums [] h a = tt
all-last p sums (q ∷ ps) h a = (each-last p q sums h.0 a.0, all-last p sums ps h.1 a.1)

abbrev PairsAscend : List RatPair → Type 0
PairsAscend [] = Unit {0}
PairsAscend (p ∷ ps) = Each (λ q. p.x < q.x) ps × PairsAscend ps

summed-all : (sums ps : List RatPair) → Each (λ q. Each (λ s. s.x < q.x) sums) ps → PairsAscend ps → summed sums ps ≡ Some (sums ++ ps)
summed-all sums [] h a = ap Some (sym (append-nil sums))
summed-all sums (p ∷ ps) h a =
    let e : (sums ++ p ∷ []) ++ ps ≡ sums ++ (p ∷ ps) = simp append_assoc in
    ap (λ o. o >>= (λ next. summed next ps)) (added-last p.x p.value sums h.0)
    ∙ summed-all (sums ++ p ∷ []) ps (all-last p sums ps h.1 a.0) a.1
    ∙ ap Some e

pairs-above : (k : Coeff) (ks : List Coeff) → Each (λ j. k.x < j.x) ks → Each (λ q. k.x < q.x) (map pair_of ks)
pairs-above k [] h = tt
pairs-above k (j ∷ ks) h = (h.0, pairs-above k ks h.1)

pairs-ascend : (ks : List Coeff) → Ascends ks → PairsAscend (map pair_of ks)
pairs-ascend [] a = tt
pairs-ascend (k ∷ ks) a = (pairs-above k ks a.0, pairs-ascend ks a.1)

none-below : (ps : List RatPair) → Each (λ (q : RatPair). Each (λ (s : RatPair). s.x < q.x) []) ps
none-below [] = tt
none-below (p ∷ ps) = (tt, none-below ps)

-- ---- whole numbers stay as they are

multiple-one : (ks : List Coeff) → multiple (pos 1) (map pair_of ks) ≡ Some (pos 1)
unfolding gcd gcd_within
multiple-one [] = refl
multiple-one (k ∷ ks) = multiple-one ks

times-one : (z : ℤ) → z *ℤ pos 1 ≡ z
times-one z = omega (arith, ints)

within-range : (z : ℤ) → InRange z → within z ≡ Some z
within-range z h = let t : nat_lt (unsigned_abs z) (2 ^ 127) ≡ true = lt_ltb h in rw t refl

same-number : (z : ℤ) → InRange z → whole_number (pos 1) (integer z) ≡ Some z
same-number z h = ap within (times-one z) ∙ within-range z h

whole-one : (ks : List Coeff) → Each (λ k. InRange k.c) ks → whole (pos 1) (map pair_of ks) ≡ Some ks
whole-one [] h = refl
whole-one (k ∷ ks) h = let e = same-number k.c h.0 in let f = whole-one ks h.1 in rw (e, f) refl

-- ---- a normal form is its own

over-one : (z : ℤ) → int_div z (pos 1) ≡ z
over-one (pos n) = ap pos (div-one n)
over-one (negsuc n) = ap (λ k. neg_ℤ (pos k)) (div-one (suc n))

not-zero : (z : ℤ) → z ≢ pos 0 → is_zero z ≡ false
not-zero (pos zero) h = absurd (h refl)
not-zero (pos (suc n)) h = refl
not-zero (negsuc n) h = refl

shares-self : (ks : List Coeff) → Each (λ k. k.c ≢ pos 0) ks → shares false 1 ks ≡ ks
shares-self [] h = refl
shares-self (k ∷ ks) h =
    let t = not-zero k.c h.0 in let e = over-one k.c in let f = shares-self ks h.1 in rw (t, e, f) refl

normal-self : (r : Linear) → IsNormal r → normal_form r ≡ r
unfolding normal_form
normal-self r n =
    let d : divisor r ≡ 1 = (let small = n.primitive in omega arith) in
    (λ i. record { coeffs = shares (n.sign i) (d i) r.coeffs; constant = negated_if (n.sign i) (int_div r.constant (pos (d i))); op = r.op })
    ∙ (λ i. record { coeffs = shares-self r.coeffs n.nonzero i; constant = over-one r.constant i; op = r.op })

pub normal-of : (r : Linear) → IsNormal r → normal_of (map pair_of r.coeffs) (integer r.constant) r.op ≡ Some r
unfolding normal_of
normal-of r n =
    let e = summed-all [] (map pair_of r.coeffs) (none-below (map pair_of r.coeffs)) (pairs-ascend r.coeffs n.ascending) in
    let f = multiple-one r.coeffs in
    let g = whole-one r.coeffs n.range in
    let h = same-number r.constant n.constant_range in
    rw (e, f, g, h) (ap Some (normal-self r n))

-- ---- raised

raised-above : (free by x y : ℕ) → x < y → raised_from free by x < raised_from free by y
raised-above free by x y h = grind (arith, nat_tests)

raised-pairs : (free by : ℕ) (ks : List Coeff) → map (raised_pair free by) ks ≡ map pair_of (map (λ k. record { x = raised_from free by k.x; c = k.c }) ks)
raised-pairs free by [] = refl
raised-pairs free by (k ∷ ks) = ap (λ ps. raised_pair free by k ∷ ps) (raised-pairs free by ks)

pub raised-of : (free by : ℕ) (r : Linear) → IsNormal r → normal_of (map (raised_pair free by) r.coeffs) (integer r.constant) r.op ≡ Some (row_raised free by r)
raised-of free by r n =
    ap (λ ps. normal_of ps (integer r.constant) r.op) (raised-pairs free by r.coeffs)
    ∙ normal-of (row_raised free by r) (renamed-normal (raised_from free by) (raised-above free by) r n)

-- ---- integers as numbers

pub integer_is : (z : ℤ) (q : Number) → Some q ≡ lowest z (pos 1) → q ≡ integer z
integer_is z q e = same_number q (integer z) z (pos 1) (λ f. cc) (lowest-exact q z (pos 1) e) refl
