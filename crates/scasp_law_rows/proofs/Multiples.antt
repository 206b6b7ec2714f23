-- Two rows in normal form, of which one is a multiple of the other, are the same.
use Rattle.std.specs.Prelude.{◌≢◌, ⊤, ◌⊎◌, zero, suc, ◌&&◌, if◌then◌else◌, unsigned_abs, map, int_lt, neg_ℤ}
use Rattle.std.proofs.Common.{◌≡◌, ◌∙◌, ℕ, ◌<◌, ◌≤◌, ◌*◌, Bool, true, false, ◌==◌, nat_lt, ℤ, pos, negsuc, ◌+ℤ◌, ◌*ℤ◌, ◌<ℤ◌, List, [], ◌∷◌, refl, sym, ap, subst, inl, inr, arith}
use Rattle.std.proofs.lemmas.Bool.{eqb-true, cases_Bool, cond-true, cond-false}
use Rattle.std.proofs.lemmas.Bool.Decides.{Decides-eqb, nat_tests}
use Rattle.std.proofs.lemmas.Int.{ints, unsigned_abs-mul}
use Rattle.std.proofs.Math.IntN.{*ℤ_comm, *ℤ-zero, +ℤ_idl, +ℤ_idr}
use Rattle.scasp_list.specs.Each.{Each}
use Rattle.scasp_list.proofs.EachLemmas.{Each-map}
use Rattle.scasp_num.specs.Gcd.{gcd}
use Rattle.scasp_num.specs.Linear.{Linear, Ascends, IsNormal, coefficient, common_divisor, integers, is_symmetric, is_zero, leads_below, weighted}
use Rattle.scasp_num.specs.declared.linear.Coeff.{Coeff}
use Rattle.scasp_num.proofs.Gcds.{gcd-mul, gcd-pos_left, gcd-pos_right}
use Rattle.scasp_num.proofs.Integers.{*ℤ-cancel, neg-*ℤ}
use Rattle.scasp_num.proofs.Puts.{coefficient-none}
use Rattle.scasp_num.proofs.Wholes.{size-pos}
use Rattle.scasp_law_rows.specs.Multiples.{IsMultiple, sum_at}

-- ---- integers

one-*ℤ : (c : ℤ) → c *ℤ pos 1 ≡ c
one-*ℤ c = grind (arith, ints)

size-above : (a : ℤ) → a ≢ pos 0 → 0 < unsigned_abs a
size-above (pos zero) h = absurd (h refl)
size-above (pos (suc n)) h = omega arith
size-above (negsuc n) h = omega arith

size-none : (c : ℤ) → unsigned_abs c ≡ 0 → c ≡ pos 0
size-none (pos zero) e = refl
size-none (pos (suc n)) e = cc
size-none (negsuc n) e = cc

-- a factor that is not 0 is left out
none-left : (b c : ℤ) → b ≢ pos 0 → b *ℤ c ≡ pos 0 → c ≡ pos 0
none-left b c h e =
    let sizes : unsigned_abs b * unsigned_abs c ≡ 0 = sym (unsigned_abs-mul b c) ∙ ap unsigned_abs e in
    size-none c (by (unsigned_abs b) (unsigned_abs c) (size-above b h) sizes)
  where
    by : (m n : ℕ) → 0 < m → m * n ≡ 0 → n ≡ 0
    by zero n l e = absurd (omega (arith, l))
    by (suc m) n l e = omega (arith, e)

-- ---- coefficients

-- 1 for the variable, 0 for all others
abbrev unit : ℕ → ℕ → ℤ
unit x y = if y == x then pos 1 else pos 0

weighted-unit : (x : ℕ) (ks : List Coeff) → Ascends ks → weighted (unit x) ks ≡ coefficient x ks
weighted-unit x [] a = refl
weighted-unit x (k ∷ ks) a = by (k.x == x) refl (weighted-unit x ks a.1)
  where
    by : (t : Bool) → (k.x == x) ≡ t → weighted (unit x) ks ≡ coefficient x ks
        → k.c *ℤ (if t then pos 1 else pos 0) +ℤ weighted (unit x) ks ≡ (if t then k.c else coefficient x ks)
    by true e rest =
        let none = coefficient-none x ks (subst (λ y. Each (λ j. y < j.x) ks) (eqb-true k.x x e) a.0) in
        (λ i. one-*ℤ k.c i +ℤ (rest ∙ none) i) ∙ +ℤ_idr k.c
    by false e rest = (λ i. *ℤ-zero k.c i +ℤ rest i) ∙ +ℤ_idl (coefficient x ks)

weighted-none : (ks : List Coeff) → weighted (λ y. pos 0) ks ≡ pos 0
weighted-none [] = refl
weighted-none (k ∷ ks) = (λ i. *ℤ-zero k.c i +ℤ weighted-none ks i) ∙ refl

-- ---- terms, of which a times the one is b times the other

abbrev Scaled : ℤ → ℤ → List Coeff → List Coeff → Type 0
Scaled a b [] [] = ⊤
Scaled a b [] (j ∷ js) = ⊥
Scaled a b (k ∷ ks) [] = ⊥
Scaled a b (k ∷ ks) (j ∷ js) = (k.x ≡ j.x) × (a *ℤ k.c ≡ b *ℤ j.c) × Scaled a b ks js

abbrev NonZero : List Coeff → Type 0
NonZero ks = Each (λ (k : Coeff). k.c ≢ pos 0) ks

module _ (a b : ℤ) (a_some : a ≢ pos 0) (b_some : b ≢ pos 0) where
  abbrev SameParts : List Coeff → List Coeff → Type 0
  SameParts ks js = (x : ℕ) → a *ℤ coefficient x ks ≡ b *ℤ coefficient x js

  head-part : (k : Coeff) (ks : List Coeff) → coefficient k.x (k ∷ ks) ≡ k.c
  head-part k ks = cond-true (k.x == k.x) k.c (coefficient k.x ks) ((Decides-eqb k.x k.x).1 refl)

  -- a variable below all others has no part
  below-none : (x : ℕ) (j : Coeff) (js : List Coeff) → Ascends (j ∷ js) → x < j.x → coefficient x (j ∷ js) ≡ pos 0
  below-none x j js s l =
      coefficient-none x (j ∷ js) (l, Each-map (λ (i : Coeff). j.x < i.x) (λ (i : Coeff). x < i.x) (λ i h. omega (arith, h, l)) js s.0)

  left-none : (k : Coeff) (ks js : List Coeff) → k.c ≢ pos 0 → SameParts (k ∷ ks) js → coefficient k.x js ≡ pos 0 → ⊥
  left-none k ks js h e none =
      h (none-left a k.c a_some (ap (λ z. a *ℤ z) (sym (head-part k ks)) ∙ e k.x ∙ ap (λ z. b *ℤ z) none ∙ *ℤ-zero b))

  right-none : (ks : List Coeff) (j : Coeff) (js : List Coeff) → j.c ≢ pos 0 → SameParts ks (j ∷ js) → coefficient j.x ks ≡ pos 0 → ⊥
  right-none ks j js h e none =
      h (none-left b j.c b_some (ap (λ z. b *ℤ z) (sym (head-part j js)) ∙ sym (e j.x) ∙ ap (λ z. a *ℤ z) none ∙ *ℤ-zero a))

  tail-parts : (k j : Coeff) (ks js : List Coeff) → k.x ≡ j.x → Ascends (k ∷ ks) → Ascends (j ∷ js) → SameParts (k ∷ ks) (j ∷ js) → SameParts ks js
  tail-parts k j ks js same s t e x = elim (cases_Bool (k.x == x)) [
    | inl h ↦
        (let here : k.x ≡ x = eqb-true k.x x h in
        let left = coefficient-none x ks (subst (λ y. Each (λ (i : Coeff). y < i.x) ks) here s.0) in
        let right = coefficient-none x js (subst (λ y. Each (λ (i : Coeff). y < i.x) js) (sym same ∙ here) t.0) in
        ap (λ z. a *ℤ z) left ∙ *ℤ-zero a ∙ sym (*ℤ-zero b) ∙ ap (λ z. b *ℤ z) (sym right))
    | inr h ↦
        (let other : (j.x == x) ≡ false = ap (λ y. y == x) (sym same) ∙ h in
        ap (λ z. a *ℤ z) (sym (cond-false (k.x == x) k.c (coefficient x ks) h)) ∙ e x
        ∙ ap (λ z. b *ℤ z) (cond-false (j.x == x) j.c (coefficient x js) other))
  ]

  scaled : (ks js : List Coeff) → Ascends ks → Ascends js → NonZero ks → NonZero js → SameParts ks js → Scaled a b ks js
  scaled [] [] s t m n e = tt
  scaled [] (j ∷ js) s t m n e = right-none [] j js n.0 e refl
  scaled (k ∷ ks) [] s t m n e = left-none k ks [] m.0 e refl
  scaled (k ∷ ks) (j ∷ js) s t m n e = elim (cases_Bool (k.x == j.x)) [
    | inl h ↦
        (let same : k.x ≡ j.x = eqb-true k.x j.x h in (
          same,
          ap (λ z. a *ℤ z) (sym (head-part k ks)) ∙ e k.x ∙ ap (λ y. b *ℤ coefficient y (j ∷ js)) same ∙ ap (λ z. b *ℤ z) (head-part j js),
          scaled ks js s.1 t.1 m.1 n.1 (tail-parts k j ks js same s t e),
        ))
    | inr h ↦ elim (cases_Bool (nat_lt k.x j.x)) [
      | inl l ↦ absurd (left-none k ks (j ∷ js) m.0 e (below-none k.x j js t (grind (arith, nat_tests))))
      | inr l ↦ absurd (right-none (k ∷ ks) j js n.0 e (below-none j.x k ks s (grind (arith, nat_tests))))
    ]
  ]

  sizes : (c d : ℤ) → a *ℤ c ≡ b *ℤ d → unsigned_abs a * unsigned_abs c ≡ unsigned_abs b * unsigned_abs d
  sizes c d e = sym (unsigned_abs-mul a c) ∙ ap unsigned_abs e ∙ unsigned_abs-mul b d

  divisor-step : (c d : ℤ) (m n : ℕ) → a *ℤ c ≡ b *ℤ d → unsigned_abs a * m ≡ unsigned_abs b * n
      → unsigned_abs a * gcd (unsigned_abs c) m ≡ unsigned_abs b * gcd (unsigned_abs d) n
  divisor-step c d m n e f =
      sym (gcd-mul (unsigned_abs a) (unsigned_abs c) m (size-above a a_some)) ∙ (λ i. gcd (sizes c d e i) (f i))
      ∙ gcd-mul (unsigned_abs b) (unsigned_abs d) n (size-above b b_some)

  none-*ℕ : unsigned_abs a * 0 ≡ unsigned_abs b * 0
  none-*ℕ = omega arith

  divisors : (ks js : List Coeff) → Scaled a b ks js
      → unsigned_abs a * common_divisor (map (λ (k : Coeff). k.c) ks) ≡ unsigned_abs b * common_divisor (map (λ (k : Coeff). k.c) js)
  divisors [] [] h = none-*ℕ
  divisors [] (j ∷ js) h = absurd h
  divisors (k ∷ ks) [] h = absurd h
  divisors (k ∷ ks) (j ∷ js) h =
      divisor-step k.c j.c (common_divisor (map (λ (k : Coeff). k.c) ks)) (common_divisor (map (λ (k : Coeff). k.c) js)) h.1 (divisors ks js h.2)

-- ---- sums

sum-unit : (r : Linear) (x : ℕ) → Ascends r.coeffs → sum_at r (unit x) (pos 0) ≡ coefficient x r.coeffs
sum-unit r x s = (λ i. weighted-unit x r.coeffs s i +ℤ *ℤ-zero r.constant i) ∙ +ℤ_idr (coefficient x r.coeffs)

sum-constant : (r : Linear) → sum_at r (λ y. pos 0) (pos 1) ≡ r.constant
sum-constant r = (λ i. weighted-none r.coeffs i +ℤ one-*ℤ r.constant i) ∙ +ℤ_idl r.constant

-- ---- rows of zeros alone

left-of : (m n : ℕ) → gcd m n ≡ 0 → m ≡ 0
left-of zero n e = refl
left-of (suc m) n e = let l : 0 < gcd (suc m) n = gcd-pos_left (suc m) n (omega arith) in absurd (omega (arith, l, e))

right-of : (m n : ℕ) → gcd m n ≡ 0 → n ≡ 0
right-of m zero e = refl
right-of m (suc n) e = let l : 0 < gcd m (suc n) = gcd-pos_right m (suc n) (omega arith) in absurd (omega (arith, l, e))

no-terms : (ks : List Coeff) → NonZero ks → common_divisor (map (λ (k : Coeff). k.c) ks) ≡ 0 → ks ≡ []
no-terms [] h e = refl
no-terms (k ∷ ks) h e =
    absurd (h.0 (size-none k.c (left-of (unsigned_abs k.c) (common_divisor (map (λ (k : Coeff). k.c) ks)) e)))

nothing-left : (r : Linear) → NonZero r.coeffs → common_divisor (integers r) ≡ 0 → (r.coeffs ≡ []) × (r.constant ≡ pos 0)
nothing-left r h e =
    let rest : ℕ = common_divisor (map (λ (k : Coeff). k.c) r.coeffs) in
    (no-terms r.coeffs h (right-of (unsigned_abs r.constant) rest e), size-none r.constant (left-of (unsigned_abs r.constant) rest e))

-- ---- by the same factor, and by the opposite one

same-integer : (a b c d : ℤ) → pos 0 <ℤ a → b ≡ a → a *ℤ c ≡ b *ℤ d → c ≡ d
same-integer a b c d above same e =
    *ℤ-cancel c d a above (*ℤ_comm c a ∙ e ∙ ap (λ z. z *ℤ d) same ∙ *ℤ_comm a d)

opposite-integer : (a b c d : ℤ) → pos 0 <ℤ a → b ≡ neg_ℤ a → a *ℤ c ≡ b *ℤ d → c ≡ neg_ℤ d
opposite-integer a b c d above same e =
    *ℤ-cancel c (neg_ℤ d) a above
    (*ℤ_comm c a ∙ e ∙ ap (λ z. z *ℤ d) same ∙ neg-*ℤ a d ∙ ap neg_ℤ (*ℤ_comm a d) ∙ sym (neg-*ℤ d a))

same-terms : (a b : ℤ) → pos 0 <ℤ a → b ≡ a → (ks js : List Coeff) → Scaled a b ks js → ks ≡ js
same-terms a b above same [] [] h = refl
same-terms a b above same [] (j ∷ js) h = absurd h
same-terms a b above same (k ∷ ks) [] h = absurd h
same-terms a b above same (k ∷ ks) (j ∷ js) h =
    let c : k.c ≡ j.c = same-integer a b k.c j.c above same h.1 in
    let x : k.x ≡ j.x = h.0 in
    let rest = same-terms a b above same ks js h.2 in
    λ i. record { x = x i; c = c i } ∷ rest i

-- the first coefficient is above 0
first-above : (c : ℤ) (rest : Bool) → c ≢ pos 0 → (if is_zero c then rest else int_lt c (pos 0)) ≡ false → (n : ℕ) × (c ≡ pos (suc n))
first-above (pos zero) rest h e = absurd (h refl)
first-above (pos (suc n)) rest h e = (n, refl)
first-above (negsuc n) rest h e = absurd (cc e)

no-opposites : (c d : ℤ) (m n : ℕ) → c ≡ neg_ℤ d → c ≡ pos (suc m) → d ≡ pos (suc n) → ⊥
no-opposites c d m n e f g = cc (sym f ∙ e ∙ ap neg_ℤ g)

-- neither constant is below 0
no-constants : (c d : ℤ) → c ≡ neg_ℤ d → int_lt c (pos 0) ≡ false → int_lt d (pos 0) ≡ false → c ≡ d
no-constants c (pos zero) e f g = e
no-constants c (pos (suc n)) e f g = absurd (cc (sym (ap (λ z. int_lt z (pos 0)) e) ∙ f))
no-constants c (negsuc n) e f g = absurd (cc g)

opposite-terms : (a b : ℤ) → pos 0 <ℤ a → b ≡ neg_ℤ a → (ks js : List Coeff) (c d : ℤ) → Scaled a b ks js → a *ℤ c ≡ b *ℤ d → NonZero ks → NonZero js
    → leads_below ks c ≡ false → leads_below js d ≡ false → (ks ≡ js) × (c ≡ d)
opposite-terms a b above same [] [] c d h e m n f g = (refl, no-constants c d (opposite-integer a b c d above same e) f g)
opposite-terms a b above same [] (j ∷ js) c d h e m n f g = absurd h
opposite-terms a b above same (k ∷ ks) [] c d h e m n f g = absurd h
opposite-terms a b above same (k ∷ ks) (j ∷ js) c d h e m n f g =
    let one = first-above k.c (leads_below ks c) m.0 f in
    let two = first-above j.c (leads_below js d) n.0 g in
    absurd (no-opposites k.c j.c one.0 two.0 (opposite-integer a b k.c j.c above same h.1) one.1 two.1)

-- ---- the law

same-size : (a b : ℤ) → pos 0 <ℤ a → unsigned_abs a ≡ unsigned_abs b → (b ≡ a) ⊎ (b ≡ neg_ℤ a)
same-size a (pos n) above e = inl (ap pos (sym e) ∙ size-pos a above)
same-size a (negsuc n) above e =
    let is : pos (suc n) ≡ a = ap pos (sym e) ∙ size-pos a above in
    inr (ap neg_ℤ is)

not-below : (a b : ℤ) → pos 0 <ℤ a → b ≡ neg_ℤ a → pos 0 <ℤ b → ⊥
not-below a b above e h = grind (arith, ints)

some-above : (a : ℤ) → pos 0 <ℤ a → a ≢ pos 0
some-above a h e = grind (arith, ints)

from-false : (s t : Bool) → s ≡ true → (s && t) ≡ false → t ≡ false
from-false true t e f = f
from-false false t e f = absurd (cc e)

module _ (p q : Linear) (n : IsNormal p) (o : IsNormal q) (m : IsMultiple p q) where
  a_some : m.left ≢ pos 0
  a_some = some-above m.left m.left_above

  terms : Scaled m.left m.right p.coeffs q.coeffs
  terms =
      scaled m.left m.right a_some m.right_some p.coeffs q.coeffs n.ascending o.ascending n.nonzero o.nonzero
      (λ x. ap (λ z. m.left *ℤ z) (sym (sum-unit p x n.ascending)) ∙ m.same (unit x) (pos 0) ∙ ap (λ z. m.right *ℤ z) (sum-unit q x o.ascending))

  constants : m.left *ℤ p.constant ≡ m.right *ℤ q.constant
  constants = ap (λ z. m.left *ℤ z) (sym (sum-constant p)) ∙ m.same (λ y. pos 0) (pos 1) ∙ ap (λ z. m.right *ℤ z) (sum-constant q)

  both-divisors : unsigned_abs m.left * common_divisor (integers p) ≡ unsigned_abs m.right * common_divisor (integers q)
  both-divisors =
      divisor-step m.left m.right a_some m.right_some p.constant q.constant (common_divisor (map (λ (k : Coeff). k.c) p.coeffs)) (common_divisor (map (λ (k : Coeff). k.c) q.coeffs)) constants
      (divisors m.left m.right a_some m.right_some p.coeffs q.coeffs terms)

  made : p.coeffs ≡ q.coeffs → p.constant ≡ q.constant → p ≡ q
  made e f = λ i. record { coeffs = e i; constant = f i; op = m.op i }

  -- all integers of both are 0, or the factors have one size
  sized : (s t d e : ℕ) → 0 < s → 0 < t → d ≤ 1 → e ≤ 1 → s * d ≡ t * e → ((d ≡ 0) × (e ≡ 0)) ⊎ (s ≡ t)
  sized s t zero zero h k l r f = inl (refl, refl)
  sized s t zero (suc e) h k l r f = absurd (omega (arith, k, f))
  sized s t (suc d) zero h k l r f = absurd (omega (arith, h, f))
  sized s t (suc zero) (suc zero) h k l r f = inr (omega (arith, f))
  sized s t (suc zero) (suc (suc e)) h k l r f = absurd (omega (arith, r))
  sized s t (suc (suc d)) (suc e) h k l r f = absurd (omega (arith, l))

  by-size : unsigned_abs m.left ≡ unsigned_abs m.right → p ≡ q
  by-size e = elim (same-size m.left m.right m.left_above e) [
    | inl same ↦ made (same-terms m.left m.right m.left_above same p.coeffs q.coeffs terms) (same-integer m.left m.right p.constant q.constant m.left_above same constants)
    | inr opposite ↦ elim (cases_Bool (is_symmetric p.op)) [
      | inl s ↦
          (let below = from-false (is_symmetric p.op) (leads_below p.coeffs p.constant) s n.sign in
          let below_too = from-false (is_symmetric q.op) (leads_below q.coeffs q.constant) (ap is_symmetric (sym m.op) ∙ s) o.sign in
          let both = opposite-terms m.left m.right m.left_above opposite p.coeffs q.coeffs p.constant q.constant terms constants n.nonzero o.nonzero below below_too in
          made both.0 both.1)
      | inr s ↦ absurd (not-below m.left m.right m.left_above opposite (m.right_above s))
    ]
  ]

  pub multiples-same : p ≡ q
  multiples-same = elim (sized (unsigned_abs m.left) (unsigned_abs m.right) (common_divisor (integers p)) (common_divisor (integers q)) (size-above m.left a_some) (size-above m.right m.right_some) n.primitive o.primitive both-divisors) [
    | inl none ↦
        (let one = nothing-left p n.nonzero none.0 in
        let two = nothing-left q o.nonzero none.1 in
        made (one.0 ∙ sym two.0) (one.1 ∙ sym two.1))
    | inr e ↦ by-size e
  ]
