-- Laws of bounded arithmetic on numbers.
use Rattle.std.proofs.Common.{Result, Ok, Err, to_z, of_z, T, eq-eqb, ◌≡◌, ℕ, zero, suc, ◌*◌, ◌/◌, ◌^◌, ◌<◌, ◌≢◌, Bool, true, false, nat_lt, ℤ, pos, negsuc, ◌+ℤ◌, ◌-ℤ◌, ◌*ℤ◌, neg_ℤ, ◌<ℤ◌, unsigned_abs, int_div, Some, None, refl, sym, ap, subst, ◌∙◌, arith}
use Rattle.std.specs.Int.{◌∣◌, w128}
use borrow.Author.Tests.{ltb-true}
use Rattle.std.proofs.Math.Nat.{mul-div_cancel', mul-pos, dvd-mul_left}
use Rattle.std.specs.Int.RustNames.{int_lt}
use Rattle.std.specs.Prelude.{if◌then◌else◌, IsErr}
use Rattle.std.specs.Result.{result_ok}
use Rattle.std.proofs.lemmas.Int.{ints, to_z-of_z, fits_signed_from_abs, unsigned_abs-mul}
use Rattle.std.proofs.Math.Bool.{not, beq}
use Rattle.std.proofs.lemmas.Bool.{and_from}
use Rattle.std.proofs.lemmas.Bool.Decides.{nat_tests}
use Rattle.scasp_num.specs.Gcd.{gcd}
use Rattle.scasp_num.specs.Number.{Number, IsReduced, IsReduced-prop, IsFraction, InRange}
use Rattle.scasp_num.specs.Arithmetic.{in_range, within, is_reduced, number, number_if, IsReduced-from_test, signed, signs_differ, lowest, sum_of, product_of, unsigned_abs-neg, negation_of}
use Rattle.std.proofs.Math.IntN.{neg_ℤ-neg_ℤ, +ℤ_idl}
use Rattle.scasp_num.proofs.Integers.{neg-*ℤ}
use Rattle.scasp_num.proofs.Gcds.{gcd_comm, coprime-dvd, coprime-mul, gcd-is, gcd-divided, gcd-pos_right}

pub unsigned_abs-pos : (z : ℤ) → z ≢ pos 0 → 0 < unsigned_abs z
unsigned_abs-pos (pos zero) h = absurd (h refl)
unsigned_abs-pos (pos (suc n)) h = omega arith
unsigned_abs-pos (negsuc n) h = omega arith

-- an exact quotient of a number above 0
pub div-pos : (a g : ℕ) → g ∣ a → 0 < a → 0 < a / g
div-pos a g h above = by (a / g) (mul-div_cancel' g h)
  where
    by : (q : ℕ) → g * q ≡ a → 0 < q
    by zero e = absurd (omega arith)
    by (suc q) e = omega arith

-- the size of a signed integer
pub unsigned_abs-signed : (s : Bool) (m : ℕ) → unsigned_abs (signed s m) ≡ m
unsigned_abs-signed true zero = refl
unsigned_abs-signed true (suc m) = refl
unsigned_abs-signed false m = refl

same_number : (a b : ℤ) (r s : IsReduced a b) → ◌≡◌ {A = Number} (record { num = a; den = b; reduced = r }) (record { num = a; den = b; reduced = s })
same_number a b r s = λ i. record { num = a; den = b; reduced = IsReduced-prop a b r s i }

number_if-of : (q : Number) (t : Bool) (e : is_reduced q.num q.den ≡ t) → t ≡ true → Some q ≡ number_if q.num q.den t e
number_if-of q true e h = ap Some (same_number q.num q.den q.reduced (IsReduced-from_test q.num q.den e))
number_if-of q false e h = cc

true_from : (b : Bool) → T b → b ≡ true
true_from true h = refl
true_from false h = absurd h

is_reduced-of : (a b : ℤ) → IsReduced a b → is_reduced a b ≡ true
is_reduced-of a b r = and_from _ _ (true_from _ r.positive.lt) (eq-eqb _ 1 r.lowest)

-- the number of a number's parts
pub number-of : (q : Number) → Some q ≡ number q.num q.den
number-of q = number_if-of q (is_reduced q.num q.den) refl (is_reduced-of q.num q.den q.reduced)

pub number-at : (q : Number) (a b : ℤ) → q.num ≡ a → q.den ≡ b → Some q ≡ number a b
number-at q a b e f = number-of q ∙ (λ i. number (e i) (f i))

pub ltb_lt : {m n : ℕ} → nat_lt m n ≡ true → m < n
ltb_lt {m} {n} e = omega (arith, ltb-true m n e)

pub lt_ltb : {m n : ℕ} → m < n → nat_lt m n ≡ true
lt_ltb {m} {n} h = grind (arith, nat_tests)

pub within-some : (x z : ℤ) → Some x ≡ within z → (x ≡ z) × InRange x
within-some x z e = by (in_range z) refl e
  where
    by : (t : Bool) → in_range z ≡ t → Some x ≡ (if t then Some z else None) → (x ≡ z) × InRange x
    by true i h = let same : x ≡ z = cc in (same, ltb_lt (subst (λ y. in_range y ≡ true) (sym same) i))
    by false i h = cc

-- integers divided by their greatest common divisor are in lowest terms
pub lowest-IsReduced : (n d : ℤ) → d ≢ pos 0 → IsReduced (signed (signs_differ n d) (unsigned_abs n / gcd (unsigned_abs n) (unsigned_abs d))) (pos (unsigned_abs d / gcd (unsigned_abs n) (unsigned_abs d)))
lowest-IsReduced n d h =
    let m = unsigned_abs n in
    let k = unsigned_abs d in
    let above : 0 < k = unsigned_abs-pos d h in
    let g : 0 < gcd m k = gcd-pos_right m k above in
    let quotient : 0 < k / gcd m k = div-pos k (gcd m k) (gcd-is m k).1 above in
    record {
      positive = omega (arith, ints);
      lowest = ap (λ x. gcd x (k / gcd m k)) (unsigned_abs-signed (signs_differ n d) (m / gcd m k)) ∙ gcd-divided m k g;
    }

-- two numbers, each times the other's quotient by a common divisor
pub cross : (x y g : ℕ) → g ∣ x → g ∣ y → x / g * y ≡ x * (y / g)
cross x y g p q =
    ap (λ t. x / g * t) (sym (mul-div_cancel' g q)) ∙ regroup (x / g) g (y / g) ∙ ap (λ t. t * (y / g)) (mul-div_cancel' g p)
  where
    regroup : (a b c : ℕ) → a * (b * c) ≡ b * a * c
    regroup a b c = omega arith

pub below-zero : (a : ℕ) → int_lt (pos a) (pos 0) ≡ false
below-zero a = ltb-none a
  where
    ltb-none : (a : ℕ) → nat_lt a 0 ≡ false
    ltb-none a = grind (arith, nat_tests)

-- what the code tests
pub signs_differ-test : (a b : ℤ) → not (beq (int_lt a (pos 0)) (int_lt b (pos 0))) ≡ signs_differ a b
signs_differ-test (pos a) (pos b) = rw (below-zero a, below-zero b)
signs_differ-test (pos a) (negsuc b) = rw (below-zero a)
signs_differ-test (negsuc a) (pos b) = rw (below-zero b)
signs_differ-test (negsuc a) (negsuc b) = refl

-- num/den are the integers of n/d divided by their greatest common divisor, and in range
pub record IsLowest (n d num den : ℤ) : Type 0 where
  pub num_is : Some num ≡ within (signed (signs_differ n d) (unsigned_abs n / gcd (unsigned_abs n) (unsigned_abs d)))
  pub den_is : Some den ≡ within (pos (unsigned_abs d / gcd (unsigned_abs n) (unsigned_abs d)))

pub IsLowest-from : (n d num den : ℤ) (flag : Bool) (size parts g : ℕ) → flag ≡ signs_differ n d → size ≡ unsigned_abs n → parts ≡ unsigned_abs d → g ≡ gcd size parts → Some num ≡ within (signed flag (size / g)) → Some den ≡ within (pos (parts / g)) → IsLowest n d num den
IsLowest-from n d num den flag size parts g f s p e a b =
    let e' : g ≡ gcd (unsigned_abs n) (unsigned_abs d) = e ∙ (λ i. gcd (s i) (p i)) in
    record {
      num_is = a ∙ (λ i. within (signed (f i) (s i / e' i)));
      den_is = b ∙ (λ i. within (pos (p i / e' i)));
    }

pub IsLowest-IsReduced : (n d num den : ℤ) → d ≢ pos 0 → IsLowest n d num den → IsReduced num den
IsLowest-IsReduced n d num den h l =
    let r = lowest-IsReduced n d h in
    let a = (within-some _ _ l.num_is).0 in
    let b = (within-some _ _ l.den_is).0 in
    let P : ℤ → ℤ → Type 0 = λ x y. IsReduced x y in
    subst (λ x. P x den) (sym a) (subst (λ y. P (signed (signs_differ n d) (unsigned_abs n / gcd (unsigned_abs n) (unsigned_abs d))) y) (sym b) r)

pub IsLowest-value : (n d num den : ℤ) → IsLowest n d num den → number num den ≡ lowest n d
unfolding lowest
IsLowest-value n d num den l = rw (← l.num_is, ← l.den_is)

exact_signs : (n d : ℤ) (m k : ℕ) → m * unsigned_abs d ≡ unsigned_abs n * k → signed (signs_differ n d) m *ℤ d ≡ n *ℤ pos k
exact_signs (pos a) (pos b) m k e = ap pos e
exact_signs (pos a) (negsuc b) m k e = neg-*ℤ (pos m) (negsuc b) ∙ neg_ℤ-neg_ℤ (pos (m * suc b)) ∙ ap pos e
exact_signs (negsuc a) (pos b) m k e = neg-*ℤ (pos m) (pos b) ∙ ap (λ x. neg_ℤ (pos x)) e
exact_signs (negsuc a) (negsuc b) m k e = ap (λ x. neg_ℤ (pos x)) e

pub IsLowest-exact : (n d num den : ℤ) → IsLowest n d num den → num *ℤ d ≡ n *ℤ den
IsLowest-exact n d num den l =
    let x = unsigned_abs n in
    let y = unsigned_abs d in
    let g = gcd x y in
    ap (λ t. t *ℤ d) (within-some _ _ l.num_is).0 ∙ exact_signs n d (x / g) (y / g) (cross x y g (gcd-is x y).0 (gcd-is x y).1) ∙ ap (λ t. n *ℤ t) (sym (within-some _ _ l.den_is).0)

-- an integer in range, stored and read
pub stored : (z : ℤ) → InRange z → to_z w128 (of_z w128 z) ≡ z
stored z h = to_z-of_z w128 z (fits_signed_from_abs w128 z h)

pub IsReduced-plain : (num den : ℤ) → InRange num → InRange den → IsReduced num den → IsReduced (to_z w128 (of_z w128 num)) (to_z w128 (of_z w128 den))
IsReduced-plain num den a b r = subst (λ x. IsReduced x (to_z w128 (of_z w128 den))) (sym (stored num a)) (subst (λ y. IsReduced num y) (sym (stored den b)) r)

pub IsLowest-InRange : (n d num den : ℤ) → IsLowest n d num den → InRange num × InRange den
IsLowest-InRange n d num den l =
    let g = gcd (unsigned_abs n) (unsigned_abs d) in
    ((within-some num (signed (signs_differ n d) (unsigned_abs n / g)) l.num_is).1, (within-some den (pos (unsigned_abs d / g)) l.den_is).1)

pub number-plain : (num den : ℤ) → InRange num → InRange den → number (to_z w128 (of_z w128 num)) (to_z w128 (of_z w128 den)) ≡ number num den
number-plain num den a b = λ i. number (stored num a i) (stored den b i)

-- a number is the number of its parts alone
pub number-parts : (q : Number) (num den : ℤ) → Some q ≡ number num den → (q.num ≡ num) × (q.den ≡ den)
number-parts q num den e = by (is_reduced num den) refl e
  where
    by : (t : Bool) (i : is_reduced num den ≡ t) → Some q ≡ number_if num den t i → (q.num ≡ num) × (q.den ≡ den)
    by true i h = (ap (λ o. elim o [ None ↦ num | Some r ↦ r.num ]) h, ap (λ o. elim o [ None ↦ den | Some r ↦ r.den ]) h)
    by false i h = cc

-- what is made of these parts is the fraction n/d
pub IsLowest-number : (n d num den : ℤ) (q : Number) → IsLowest n d num den → Some q ≡ number (to_z w128 (of_z w128 num)) (to_z w128 (of_z w128 den)) → (Some q ≡ lowest n d) × IsFraction q n d
IsLowest-number n d num den q l made =
    let r = IsLowest-InRange n d num den l in
    let e : Some q ≡ number num den = made ∙ number-plain num den r.0 r.1 in
    let p = number-parts q num den e in
    (e ∙ IsLowest-value n d num den l, ap (λ x. x *ℤ d) p.0 ∙ IsLowest-exact n d num den l ∙ ap (λ x. n *ℤ x) (sym p.1))

pub unsigned_abs-over : (z : ℤ) (g : ℕ) → unsigned_abs (int_div z (pos g)) ≡ unsigned_abs z / g
unsigned_abs-over (pos n) g = refl
unsigned_abs-over (negsuc n) g = unsigned_abs-signed true (suc n / g)

-- an exact quotient of an integer above 0, and a product of two
pub over-pos : (z : ℤ) (g : ℕ) → pos 0 <ℤ z → g ∣ unsigned_abs z → pos 0 <ℤ int_div z (pos g)
over-pos (pos n) g h d = let q : 0 < n / g = div-pos n g d (omega (arith, ints)) in omega (arith, ints)
over-pos (negsuc n) g h d = absurd (omega (arith, ints))

pub times-pos : (a b : ℤ) → pos 0 <ℤ a → pos 0 <ℤ b → pos 0 <ℤ (a *ℤ b)
times-pos (pos m) (pos n) h k =
    let x : 0 < m = omega (arith, ints) in
    let y : 0 < n = omega (arith, ints) in
    let z : 0 < m * n = mul-pos x y in
    omega (arith, ints)
times-pos (pos m) (negsuc n) h k = absurd (omega (arith, ints))
times-pos (negsuc m) b h k = absurd (omega (arith, ints))

pub ne_from-pos : (z : ℤ) → pos 0 <ℤ z → z ≢ pos 0
ne_from-pos z h e = omega (arith, ints)

-- a denominator over a common denominator
pub sum-den_pos : (p q : Number) → pos 0 <ℤ (p.den *ℤ int_div q.den (pos (gcd (unsigned_abs p.den) (unsigned_abs q.den))))
sum-den_pos p q =
    let g = gcd (unsigned_abs p.den) (unsigned_abs q.den) in
    times-pos p.den (int_div q.den (pos g)) p.reduced.positive (over-pos q.den g q.reduced.positive (gcd-is (unsigned_abs p.den) (unsigned_abs q.den)).1)

div-dvd : (a g : ℕ) → g ∣ a → a / g ∣ a
div-dvd a g h = subst (λ x. a / g ∣ x) (mul-div_cancel' g h) (dvd-mul_left (a / g) g)

-- after reducing across, the product is in lowest terms
coprime_across : (a b c d : ℕ) → gcd a b ≡ 1 → gcd c d ≡ 1 → 0 < b → 0 < d → gcd (a / gcd a d * (c / gcd c b)) (b / gcd c b * (d / gcd a d)) ≡ 1
coprime_across a b c d e f hb hd =
    let g = gcd a d in
    let h = gcd c b in
    let a' = a / g in
    let b' = b / h in
    let c' = c / h in
    let d' = d / g in
    let ab : gcd a' b' ≡ 1 = gcd_comm a' b' ∙ coprime-dvd b a' b' (gcd_comm b a' ∙ coprime-dvd a b a' e (div-dvd a g (gcd-is a d).0)) (div-dvd b h (gcd-is c b).1) in
    let cd : gcd c' d' ≡ 1 = gcd_comm c' d' ∙ coprime-dvd d c' d' (gcd_comm d c' ∙ coprime-dvd c d c' f (div-dvd c h (gcd-is c b).0)) (div-dvd d g (gcd-is a d).1) in
    let ad : gcd a' d' ≡ 1 = gcd-divided a d (gcd-pos_right a d hd) in
    let cb : gcd c' b' ≡ 1 = gcd-divided c b (gcd-pos_right c b hb) in
    let left : gcd (a' * c') b' ≡ 1 = coprime-mul a' c' b' ab cb in
    let right : gcd (a' * c') d' ≡ 1 = coprime-mul a' c' d' ad cd in
    gcd_comm (a' * c') (b' * d') ∙ coprime-mul b' d' (a' * c') (gcd_comm b' (a' * c') ∙ left) (gcd_comm d' (a' * c') ∙ right)

pub product-IsReduced : (p q : Number) (num den : ℤ) → num ≡ int_div p.num (pos (gcd (unsigned_abs p.num) (unsigned_abs q.den))) *ℤ int_div q.num (pos (gcd (unsigned_abs q.num) (unsigned_abs p.den))) → den ≡ int_div p.den (pos (gcd (unsigned_abs q.num) (unsigned_abs p.den))) *ℤ int_div q.den (pos (gcd (unsigned_abs p.num) (unsigned_abs q.den))) → IsReduced num den
product-IsReduced p q num den e f =
    let a = unsigned_abs p.num in
    let b = unsigned_abs p.den in
    let c = unsigned_abs q.num in
    let d = unsigned_abs q.den in
    let g = gcd a d in
    let h = gcd c b in
    let n : unsigned_abs num ≡ a / g * (c / h) = ap unsigned_abs e ∙ unsigned_abs-mul (int_div p.num (pos g)) (int_div q.num (pos h)) ∙ (λ i. unsigned_abs-over p.num g i * unsigned_abs-over q.num h i) in
    let m : unsigned_abs den ≡ b / h * (d / g) = ap unsigned_abs f ∙ unsigned_abs-mul (int_div p.den (pos h)) (int_div q.den (pos g)) ∙ (λ i. unsigned_abs-over p.den h i * unsigned_abs-over q.den g i) in
    record {
      positive = subst (λ x. pos 0 <ℤ x) (sym f) (times-pos (int_div p.den (pos h)) (int_div q.den (pos g)) (over-pos p.den h p.reduced.positive (gcd-is c b).1) (over-pos q.den g q.reduced.positive (gcd-is a d).1));
      lowest = (λ i. gcd (n i) (m i)) ∙ coprime_across a b c d p.reduced.lowest q.reduced.lowest (above p.den p.reduced.positive) (above q.den q.reduced.positive);
    }
  where
    above : (z : ℤ) → pos 0 <ℤ z → 0 < unsigned_abs z
    above z h = unsigned_abs-pos z (ne_from-pos z h)

pub ruleset plain = (to_z-of_z, stored, number-of)

-- what the steps of an operation gave
pub sum_of-none : (p q : Number) (g : ℕ) (left right num : ℤ) → g ≡ gcd (unsigned_abs p.den) (unsigned_abs q.den) → Some left ≡ within (p.num *ℤ int_div q.den (pos g)) → Some right ≡ within (q.num *ℤ int_div p.den (pos g)) → Some num ≡ within (left +ℤ right) → None ≡ within (p.den *ℤ int_div q.den (pos g)) → None ≡ sum_of p q
unfolding sum_of
sum_of-none p q g left right num e a b c d = rw (← e, ← a, ← b, ← c, ← d)

pub product_of-some : (p q : Number) (g h : ℕ) (num den : ℤ) → g ≡ gcd (unsigned_abs p.num) (unsigned_abs q.den) → h ≡ gcd (unsigned_abs q.num) (unsigned_abs p.den) → Some num ≡ within (int_div p.num (pos g) *ℤ int_div q.num (pos h)) → Some den ≡ within (int_div p.den (pos h) *ℤ int_div q.den (pos g)) → number num den ≡ product_of p q
unfolding product_of
product_of-some p q g h num den e f a b = rw (← e, ← f, ← a, ← b)

pub none_from-err : {T E : Type 0} (r : Result T E) → IsErr r → result_ok r ≡ None
none_from-err (Ok x) h = cc
none_from-err (Err e) h = refl

pub some-same : {A : Type 0} {x y : A} → Some x ≡ Some y → x ≡ y
some-same e = cc

-- what the code computes for a negation
pub negated : (n z : ℤ) → n ≡ z → InRange n → to_z w128 (of_z w128 (pos 0 -ℤ to_z w128 (of_z w128 n))) ≡ neg_ℤ z
negated n z e r =
    ap (λ x. to_z w128 (of_z w128 (pos 0 -ℤ x))) (stored n r ∙ e) ∙ ap (λ x. to_z w128 (of_z w128 x)) (+ℤ_idl (neg_ℤ z)) ∙ stored (neg_ℤ z) range
  where
    range : InRange (neg_ℤ z)
    range = subst (λ x. x < 2 ^ 127) (ap unsigned_abs e ∙ sym (unsigned_abs-neg z)) r

pub negation_of-parts : (q r : Number) (a b : ℤ) → a ≡ neg_ℤ q.num → b ≡ q.den → Some r ≡ number a b → r ≡ negation_of q
negation_of-parts q r a b e f h = some-same (h ∙ (λ i. number (e i) (f i)) ∙ sym (number-of (negation_of q)))
