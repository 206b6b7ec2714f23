-- The normal form of a row is in normal form, and is met by the same values.
use Rattle.std.proofs.Common.{◌≡◌, ◌≢◌, ℕ, zero, suc, ◌*◌, ◌/◌, ◌^◌, ◌<◌, ◌≤◌, max, Bool, true, false, not, ◌&&◌, ℤ, pos, negsuc, unsigned_abs, int_div, List, [], ◌∷◌, map, refl, sym, ap, subst, ◌∙◌, arith}
use Rattle.std.specs.Prelude.{if◌then◌else◌, int_lt}
use Rattle.std.specs.Int.{◌∣◌}
use Rattle.std.proofs.Math.Nat.{mul-div_cancel', div-le_self, dvd-zero, dvd_refl, dvd_trans, eq_of_mul-eq-mul_left, mul-one, mul-zero}
use Rattle.std.proofs.Math.IntN.{neg_ℤ-neg_ℤ}
use Rattle.scasp_num.specs.declared.linear.Coeff.{Coeff}
use Rattle.scasp_num.specs.declared.linear.Op.{Op}
use Rattle.scasp_num.specs.declared.linear.Op.TheVariants as op
use Rattle.scasp_num.specs.Gcd.{gcd}
use Rattle.scasp_num.specs.Number.{InRange}
use Rattle.scasp_list.specs.Each.{Each}
use Rattle.scasp_num.specs.Linear.{Linear, Ascends, integers, common_divisor, divisor, is_zero, leads_below, is_symmetric, is_negated, negated_if, shares, normal_form, negated, negation, opposite, IsNormal}
use Rattle.scasp_num.proofs.Gcds.{gcd-is, gcd-mul, gcd-zero, gcd_comm}
use Rattle.scasp_num.proofs.Numbers.{div-pos, unsigned_abs-over, below-zero}

-- the integer that stands for c in the normal form
abbrev pub share : Bool → ℕ → ℤ → ℤ
share n g c = negated_if n (int_div c (pos g))

unsigned_abs-negated_if : (n : Bool) (z : ℤ) → unsigned_abs (negated_if n z) ≡ unsigned_abs z
unsigned_abs-negated_if true (pos zero) = refl
unsigned_abs-negated_if true (pos (suc m)) = refl
unsigned_abs-negated_if true (negsuc m) = refl
unsigned_abs-negated_if false z = refl

pub unsigned_abs-share : (n : Bool) (g : ℕ) (c : ℤ) → unsigned_abs (share n g c) ≡ unsigned_abs c / g
unsigned_abs-share n g c = unsigned_abs-negated_if n (int_div c (pos g)) ∙ unsigned_abs-over c g

-- shares of each item: P of a coefficient gives Q of its share
Each-shares : (P Q : Coeff → Type 0) (n : Bool) (g : ℕ) → ((k : Coeff) → is_zero k.c ≡ false → P k → Q (record { x = k.x; c = share n g k.c })) → (ks : List Coeff) → Each P ks → Each Q (shares n g ks)
Each-shares P Q n g f [] e = tt
Each-shares P Q n g f (k ∷ ks) e = by (is_zero k.c) refl (Each-shares P Q n g f ks e.1)
  where
    by : (t : Bool) → is_zero k.c ≡ t → Each Q (shares n g ks) → Each Q (if t then shares n g ks else (record { x = k.x; c = share n g k.c } ∷ shares n g ks))
    by true z rest = rest
    by false z rest = (f k z e.0, rest)

shares-Ascends : (n : Bool) (g : ℕ) (ks : List Coeff) → Ascends ks → Ascends (shares n g ks)
shares-Ascends n g [] a = tt
shares-Ascends n g (k ∷ ks) a = by (is_zero k.c) (shares-Ascends n g ks a.1)
  where
    by : (t : Bool) → Ascends (shares n g ks) → Ascends (if t then shares n g ks else (record { x = k.x; c = share n g k.c } ∷ shares n g ks))
    by true rest = rest
    by false rest = (Each-shares (λ j. k.x < j.x) (λ j. k.x < j.x) n g (λ j _ h. h) ks a.0, rest)

above-zero : (z : ℤ) → is_zero z ≡ false → 0 < unsigned_abs z
above-zero (pos zero) h = cc
above-zero (pos (suc n)) h = omega arith
above-zero (negsuc n) h = omega arith

ne-zero : (z : ℤ) → 0 < unsigned_abs z → z ≢ pos 0
ne-zero z h e = let same : unsigned_abs z ≡ 0 = ap unsigned_abs e in omega arith

pub zero_is : (z : ℤ) → is_zero z ≡ true → z ≡ pos 0
zero_is (pos zero) h = refl
zero_is (pos (suc n)) h = cc
zero_is (negsuc n) h = cc

-- ---- what divides
dvd_gcd : (h a b : ℕ) → h ∣ gcd a b → (h ∣ a) × (h ∣ b)
dvd_gcd h a b d = (dvd_trans h d (gcd-is a b).0, dvd_trans h d (gcd-is a b).1)

Each-dvd : (h : ℕ) (ks : List Coeff) → h ∣ common_divisor (map (λ k. k.c) ks) → Each (λ k. h ∣ unsigned_abs k.c) ks
Each-dvd h [] d = tt
Each-dvd h (k ∷ ks) d =
    let both = dvd_gcd h (unsigned_abs k.c) (common_divisor (map (λ k. k.c) ks)) d in
    (both.0, Each-dvd h ks both.1)

max-dvd : (d : ℕ) → max d 1 ∣ d
max-dvd zero = dvd-zero (max 0 1)
max-dvd (suc d) = let e : suc d ≡ max (suc d) 1 = omega arith in subst (λ x. x ∣ suc d) e (dvd_refl (suc d))

-- the divisor divides every integer of the row
pub divisor-dvd : (r : Linear) → (divisor r ∣ unsigned_abs r.constant) × Each (λ k. divisor r ∣ unsigned_abs k.c) r.coeffs
divisor-dvd r =
    let d = max-dvd (common_divisor (integers r)) in
    let both = dvd_gcd (divisor r) (unsigned_abs r.constant) (common_divisor (map (λ k. k.c) r.coeffs)) d in
    (both.0, Each-dvd (divisor r) r.coeffs both.1)

gcd-zero_left : (b : ℕ) → gcd 0 b ≡ b
gcd-zero_left b = gcd_comm 0 b ∙ gcd-zero b

shares-divisor : (n : Bool) (g : ℕ) (ks : List Coeff) → 0 < g → Each (λ k. g ∣ unsigned_abs k.c) ks → g * common_divisor (map (λ k. k.c) (shares n g ks)) ≡ common_divisor (map (λ k. k.c) ks)
shares-divisor n g [] h d = mul-zero g
shares-divisor n g (k ∷ ks) h d = by (is_zero k.c) refl (shares-divisor n g ks h d.1)
  where
    by : (t : Bool) → is_zero k.c ≡ t → g * common_divisor (map (λ k. k.c) (shares n g ks)) ≡ common_divisor (map (λ k. k.c) ks) → g * common_divisor (map (λ k. k.c) (if t then shares n g ks else (record { x = k.x; c = share n g k.c } ∷ shares n g ks))) ≡ gcd (unsigned_abs k.c) (common_divisor (map (λ k. k.c) ks))
    by true z e = e ∙ sym (gcd-zero_left _) ∙ ap (λ x. gcd (unsigned_abs x) (common_divisor (map (λ k. k.c) ks))) (sym (zero_is k.c z))
    by false z e =
        sym (gcd-mul g (unsigned_abs (share n g k.c)) (common_divisor (map (λ k. k.c) (shares n g ks))) h) ∙ (λ i. gcd ((ap (λ x. g * x) (unsigned_abs-share n g k.c) ∙ mul-div_cancel' g d.0) i) (e i))

at_most_one : (d n : ℕ) → max d 1 * n ≡ d → n ≤ 1
at_most_one zero n e = let m : max 0 1 * n ≡ n = omega arith in omega arith
at_most_one (suc d) n e =
    let m : max (suc d) 1 ≡ suc d = omega arith in
    let same : n ≡ 1 = eq_of_mul-eq-mul_left (suc d) (omega arith) n 1 (ap (λ x. x * n) (sym m) ∙ e ∙ sym (mul-one (suc d))) in
    omega arith

-- ---- the sign
lt-share : (n : Bool) (g : ℕ) (c : ℤ) → int_lt c (pos 0) ≡ n → int_lt (share n g c) (pos 0) ≡ false
lt-share false g (pos a) e = below-zero (a / g)
lt-share true g (pos a) e = let f = below-zero a in cc
lt-share true g (negsuc a) e = subst (λ x. int_lt x (pos 0) ≡ false) (sym (neg_ℤ-neg_ℤ (pos (suc a / g)))) (below-zero (suc a / g))
lt-share false g (negsuc a) e = cc

is_zero-share : (n : Bool) (g : ℕ) (c : ℤ) → g ∣ unsigned_abs c → is_zero c ≡ false → is_zero (share n g c) ≡ false
is_zero-share n g c d z = by (share n g c) (subst (λ x. 0 < x) (sym (unsigned_abs-share n g c)) (div-pos (unsigned_abs c) g d (above-zero c z)))
  where
    by : (s : ℤ) → 0 < unsigned_abs s → is_zero s ≡ false
    by (pos zero) h = absurd (omega arith)
    by (pos (suc m)) h = refl
    by (negsuc m) h = refl

leads-share : (n : Bool) (g : ℕ) (ks : List Coeff) (z : ℤ) → Each (λ k. g ∣ unsigned_abs k.c) ks → leads_below ks z ≡ n → leads_below (shares n g ks) (share n g z) ≡ false
leads-share n g [] z d e = lt-share n g z e
leads-share n g (k ∷ ks) z d e = by (is_zero k.c) refl (leads-share n g ks z d.1) e
  where
    by : (t : Bool) → is_zero k.c ≡ t → (leads_below ks z ≡ n → leads_below (shares n g ks) (share n g z) ≡ false) → (if t then leads_below ks z else int_lt k.c (pos 0)) ≡ n → leads_below (if t then shares n g ks else (record { x = k.x; c = share n g k.c } ∷ shares n g ks)) (share n g z) ≡ false
    by true y rest f = rest f
    by false y rest f = rw (is_zero-share n g k.c d.0 y) (lt-share n g k.c f)

sign-normal : (r : Linear) → (is_symmetric r.op && leads_below (shares (is_negated r) (divisor r) r.coeffs) (share (is_negated r) (divisor r) r.constant)) ≡ false
sign-normal r = by (is_symmetric r.op)
  where
    by : (s : Bool) → (s && leads_below (shares (s && leads_below r.coeffs r.constant) (divisor r) r.coeffs) (share (s && leads_below r.coeffs r.constant) (divisor r) r.constant)) ≡ false
    by true = leads-share (leads_below r.coeffs r.constant) (divisor r) r.coeffs r.constant (divisor-dvd r).1 refl
    by false = refl

share-InRange : (n : Bool) (g : ℕ) (c : ℤ) → InRange c → InRange (share n g c)
share-InRange n g c h =
    let less : unsigned_abs (share n g c) ≤ unsigned_abs c = subst (λ x. x ≤ unsigned_abs c) (sym (unsigned_abs-share n g c)) (div-le_self (unsigned_abs c) g) in
    omega arith

pub divisor-above : (r : Linear) → 0 < divisor r
divisor-above r = omega arith

pub normal_form-IsNormal : (r : Linear) → Ascends r.coeffs → InRange r.constant → Each (λ k. InRange k.c) r.coeffs → IsNormal (normal_form r)
unfolding normal_form
normal_form-IsNormal r a z h =
    let n = is_negated r in
    let g = divisor r in
    let d = divisor-dvd r in
    record {
      ascending = shares-Ascends n g r.coeffs a;
      nonzero = Each-shares (λ k. g ∣ unsigned_abs k.c) (λ k. k.c ≢ pos 0) n g (λ k y e. ne-zero (share n g k.c) (subst (λ x. 0 < x) (sym (unsigned_abs-share n g k.c)) (div-pos (unsigned_abs k.c) g e (above-zero k.c y)))) r.coeffs d.1;
      constant_range = share-InRange n g r.constant z;
      range = Each-shares (λ k. InRange k.c) (λ k. InRange k.c) n g (λ k y e. share-InRange n g k.c e) r.coeffs h;
      primitive = at_most_one (common_divisor (integers r)) _ (sym (gcd-mul g (unsigned_abs (share n g r.constant)) (common_divisor (map (λ k. k.c) (shares n g r.coeffs))) (divisor-above r)) ∙ (λ i. gcd ((ap (λ x. g * x) (unsigned_abs-share n g r.constant) ∙ mul-div_cancel' g d.0) i) (shares-divisor n g r.coeffs (divisor-above r) d.1 i)));
      sign = sign-normal r;
    }

pub normal_form-parts : (r : Linear) (coeffs : List Coeff) (constant : ℤ) → coeffs ≡ shares (is_negated r) (divisor r) r.coeffs → constant ≡ share (is_negated r) (divisor r) r.constant → ◌≡◌ {A = Linear} (record { coeffs = coeffs; constant = constant; op = r.op }) (normal_form r)
unfolding normal_form
normal_form-parts r coeffs constant e f = λ i. record { coeffs = e i; constant = f i; op = r.op }

-- ---- the negation of a row is in normal form

Each-negated : (P Q : Coeff → Type 0) (n : Bool) → ((k : Coeff) → P k → Q (record { x = k.x; c = negated_if n k.c })) → (ks : List Coeff) → Each P ks → Each Q (negated n ks)
Each-negated P Q n f [] e = tt
Each-negated P Q n f (k ∷ ks) e = (f k e.0, Each-negated P Q n f ks e.1)

negated-Ascends : (n : Bool) (ks : List Coeff) → Ascends ks → Ascends (negated n ks)
negated-Ascends n [] a = tt
negated-Ascends n (k ∷ ks) a = (Each-negated (λ j. k.x < j.x) (λ j. k.x < j.x) n (λ j h. h) ks a.0, negated-Ascends n ks a.1)

negated-divisor : (n : Bool) (ks : List Coeff) → common_divisor (map (λ k. k.c) (negated n ks)) ≡ common_divisor (map (λ k. k.c) ks)
negated-divisor n [] = refl
negated-divisor n (k ∷ ks) = λ i. gcd (unsigned_abs-negated_if n k.c i) (negated-divisor n ks i)

negated-none : (ks : List Coeff) → negated false ks ≡ ks
negated-none [] = refl
negated-none (k ∷ ks) = λ i. k ∷ negated-none ks i

negation-sign : (r : Linear) → is_negated r ≡ false → is_negated (negation r) ≡ false
negation-sign r h = by r.op h
  where
    by : (o : Op) → (is_symmetric o && leads_below r.coeffs r.constant) ≡ false → (is_symmetric (opposite o) && leads_below (negated (not (is_symmetric o)) r.coeffs) (negated_if (not (is_symmetric o)) r.constant)) ≡ false
    by op.Eq h = ap (λ ks. leads_below ks r.constant) (negated-none r.coeffs) ∙ h
    by op.Lt h = refl
    by op.Le h = refl
    by op.Ne h = ap (λ ks. leads_below ks r.constant) (negated-none r.coeffs) ∙ h

negated_if-zero : (n : Bool) (z : ℤ) → z ≢ pos 0 → negated_if n z ≢ pos 0
negated_if-zero false z h = h
negated_if-zero true (pos zero) h = h
negated_if-zero true (pos (suc m)) h = λ e. cc
negated_if-zero true (negsuc m) h = λ e. cc

pub negation-IsNormal : (r : Linear) → IsNormal r → IsNormal (negation r)
negation-IsNormal r h =
    let n = not (is_symmetric r.op) in
    record {
      ascending = negated-Ascends n r.coeffs h.ascending;
      nonzero = Each-negated (λ k. k.c ≢ pos 0) (λ k. k.c ≢ pos 0) n (λ k. negated_if-zero n k.c) r.coeffs h.nonzero;
      constant_range = subst (λ x. x < 2 ^ 127) (sym (unsigned_abs-negated_if n r.constant)) h.constant_range;
      range = Each-negated (λ k. InRange k.c) (λ k. InRange k.c) n (λ k. subst (λ x. x < 2 ^ 127) (sym (unsigned_abs-negated_if n k.c))) r.coeffs h.range;
      primitive = subst (λ x. x ≤ 1) (sym (λ i. gcd (unsigned_abs-negated_if n r.constant i) (negated-divisor n r.coeffs i))) h.primitive;
      sign = negation-sign r h.sign;
    }
