-- Laws of the greatest common divisor.
use Rattle.std.proofs.Common.{◌≡◌, ℕ, zero, suc, ◌+◌, ◌*◌, ◌/◌, ◌%◌, ◌<◌, ◌≤◌, refl, sym, ap, subst, ◌∙◌, arith}
use Rattle.std.specs.Int.{IsGcd, ◌∣◌}
use Rattle.std.proofs.lemmas.Int.{to_z-of_z}
use Rattle.std.proofs.lemmas.Nat.Gcd.{IsGcd-from_zero, IsGcd-from_mod, IsGcd-swap, same_from_IsGcd}
use Rattle.std.proofs.Math.Nat.{div-add-mod, mod-lt, mod-eq_of_lt, mul-add-mod_self_left, mul-lt-mul_of_pos_left, mul-pos, mul-zero, mul-one, mul_comm, mul-div_cancel', eq_of_mul-eq-mul_left, dvd-mul_left, dvd-zero, dvd_trans, pos_of_dvd_of_pos, eq-one_of_dvd-one}
use Rattle.scasp_num.specs.Gcd.{gcd, gcd_within}

-- the number of divisions allowed does not matter once it is enough
gcd_within-same : (n m a b : ℕ) → b ≤ n → b ≤ m → gcd_within n a b ≡ gcd_within m a b
unfolding gcd_within
gcd_within-same zero zero a b h k = refl
gcd_within-same zero (suc m) a zero h k = refl
gcd_within-same zero (suc m) a (suc b) h k = absurd (omega arith)
gcd_within-same (suc n) zero a zero h k = refl
gcd_within-same (suc n) zero a (suc b) h k = absurd (omega arith)
gcd_within-same (suc n) (suc m) a zero h k = refl
gcd_within-same (suc n) (suc m) a (suc b) h k =
    gcd_within-same n m (suc b) (a % suc b) (omega arith) (omega arith)

gcd_within-is : (n a b : ℕ) → b ≤ n → IsGcd a b (gcd_within n a b)
unfolding gcd_within
gcd_within-is zero a zero h = IsGcd-from_zero a 0 refl
gcd_within-is zero a (suc b) h = absurd (omega arith)
gcd_within-is (suc n) a zero h = IsGcd-from_zero a 0 refl
gcd_within-is (suc n) a (suc b) h =
    IsGcd-from_mod a (suc b) _ (gcd_within-is n (suc b) (a % suc b) (omega arith))

-- it is the greatest common divisor
pub gcd-is : (a b : ℕ) → IsGcd a b (gcd a b)
unfolding gcd
gcd-is a b = gcd_within-is b a b (omega arith)

pub gcd-zero : (a : ℕ) → gcd a 0 ≡ a
unfolding gcd gcd_within
gcd-zero a = refl

-- one step of Euclid's algorithm
pub gcd-mod : (a b : ℕ) → 0 < b → gcd b (a % b) ≡ gcd a b
unfolding gcd gcd_within
gcd-mod a zero h = absurd (omega arith)
gcd-mod a (suc b) h = gcd_within-same (a % suc b) b (suc b) (a % suc b) (omega arith) (omega arith)

pub gcd-pos_right : (a b : ℕ) → 0 < b → 0 < gcd a b
gcd-pos_right a b h = pos_of_dvd_of_pos (gcd-is a b).1 h

pub gcd-pos_left : (a b : ℕ) → 0 < a → 0 < gcd a b
gcd-pos_left a b h = pos_of_dvd_of_pos (gcd-is a b).0 h

-- it is the only one
pub gcd-same : (a b g : ℕ) → IsGcd a b g → gcd a b ≡ g
gcd-same a b g h = same_from_IsGcd a b (gcd a b) g (gcd-is a b) h

pub gcd_comm : (a b : ℕ) → gcd a b ≡ gcd b a
gcd_comm a b = gcd-same a b (gcd b a) (IsGcd-swap b a (gcd b a) (gcd-is b a))

-- a remainder of multiples is the multiple of the remainder
mul-mod_common : (m a b : ℕ) → 0 < m → 0 < b → (m * a) % (m * b) ≡ m * (a % b)
mul-mod_common m a b hm hb =
    let split : m * a ≡ (m * b) * (a / b) + m * (a % b) = ap (λ x. m * x) (sym (div-add-mod a b)) ∙ (omega arith) in
    let below : m * (a % b) < m * b = mul-lt-mul_of_pos_left (mod-lt a hb) hm in
    ap (λ x. x % (m * b)) split ∙ mul-add-mod_self_left (m * b) (a / b) (m * (a % b)) ∙ mod-eq_of_lt below

gcd-mul_within : (n m a b : ℕ) → b ≤ n → 0 < m → gcd (m * a) (m * b) ≡ m * gcd a b
gcd-mul_within n m a zero h hm =
    ap (gcd (m * a)) (mul-zero m) ∙ gcd-zero (m * a) ∙ ap (λ x. m * x) (sym (gcd-zero a))
gcd-mul_within zero m a (suc b) h hm = absurd (omega arith)
gcd-mul_within (suc n) m a (suc b) h hm =
    let hb : 0 < suc b = omega arith in
    let rest : a % suc b ≤ n = omega (arith, mod-lt a hb) in
    sym (gcd-mod (m * a) (m * suc b) (mul-pos hm hb)) ∙ ap (gcd (m * suc b)) (mul-mod_common m a (suc b) hm hb) ∙ gcd-mul_within n m (suc b) (a % suc b) rest hm ∙ ap (λ x. m * x) (gcd-mod a (suc b) hb)

pub gcd-mul : (m a b : ℕ) → 0 < m → gcd (m * a) (m * b) ≡ m * gcd a b
gcd-mul m a b h = gcd-mul_within b m a b (omega arith) h

-- divided by it, the two have no common divisor
pub gcd-divided : (a b : ℕ) → 0 < gcd a b → gcd (a / gcd a b) (b / gcd a b) ≡ 1
gcd-divided a b h =
    let g = gcd a b in
    let left : g * (a / g) ≡ a = mul-div_cancel' g (gcd-is a b).0 in
    let right : g * (b / g) ≡ b = mul-div_cancel' g (gcd-is a b).1 in
    let all : g * gcd (a / g) (b / g) ≡ g * 1 =
    sym (gcd-mul g (a / g) (b / g) h) ∙ ap (λ x. gcd x (g * (b / g))) left ∙ ap (gcd a) right ∙ sym (mul-one g) in
    eq_of_mul-eq-mul_left g h (gcd (a / g) (b / g)) 1 all

-- Euclid's lemma
pub dvd-coprime : (k a b : ℕ) → gcd k a ≡ 1 → k ∣ a * b → k ∣ b
dvd-coprime k a zero e h = dvd-zero k
dvd-coprime k a (suc b) e h =
    let all : gcd (suc b * k) (suc b * a) ≡ suc b = gcd-mul (suc b) k a (omega arith) ∙ ap (λ x. suc b * x) e ∙ mul-one (suc b) in
    let other : k ∣ suc b * a = subst (λ x. k ∣ x) (mul_comm a (suc b)) h in
    subst (λ x. k ∣ x) all ((gcd-is (suc b * k) (suc b * a)).2 k (dvd-mul_left k (suc b)) other)

gcd-one : (a b : ℕ) → ((k : ℕ) → k ∣ a → k ∣ b → k ≡ 1) → gcd a b ≡ 1
gcd-one a b f = f (gcd a b) (gcd-is a b).0 (gcd-is a b).1

-- a common divisor of two numbers without one is 1
pub one_from_coprime : (a b k : ℕ) → gcd a b ≡ 1 → k ∣ a → k ∣ b → k ≡ 1
one_from_coprime a b k e p q = eq-one_of_dvd-one (subst (λ x. k ∣ x) e ((gcd-is a b).2 k p q))

-- what divides one of them has none with the other
pub coprime-dvd : (a b c : ℕ) → gcd a b ≡ 1 → c ∣ a → gcd c b ≡ 1
coprime-dvd a b c e h = gcd-one c b (λ k p q. one_from_coprime a b k e (dvd_trans k p h) q)

pub coprime-mul : (a b c : ℕ) → gcd a c ≡ 1 → gcd b c ≡ 1 → gcd (a * b) c ≡ 1
coprime-mul a b c e f = gcd-one (a * b) c
    (λ k p q. one_from_coprime b c k f (dvd-coprime k a b (coprime-dvd c a k (gcd_comm c a ∙ e) q) p) q)

pub gcd_pos : (a b g : ℕ) → g ≡ gcd a b → {m : ℕ} → 0 < m → b ≡ m → 0 < g
gcd_pos a b g e {m} h same = subst (λ x. 0 < x) (sym e) (gcd-pos_right a b (subst (λ x. 0 < x) (sym same) h))

pub gcd_assoc : (a b c : ℕ) → gcd (gcd a b) c ≡ gcd a (gcd b c)
gcd_assoc a b c =
    let l = gcd-is a b in
    let r = gcd-is b c in
    let all = gcd-is a (gcd b c) in
    gcd-same (gcd a b) c (gcd a (gcd b c)) (l.2 _ all.0 (dvd_trans _ all.1 r.0), dvd_trans _ all.1 r.1, λ d p q. all.2 d (dvd_trans d p l.0) (r.2 d (dvd_trans d p l.1) q))

pub ruleset divisors = (gcd_assoc, gcd-zero, to_z-of_z)
