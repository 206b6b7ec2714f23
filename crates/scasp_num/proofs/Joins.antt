-- A variable of a row replaced by another.
use Rattle.std.proofs.Common.{◌≡◌, ◌↔◌, ℕ, ◌<◌, Bool, true, false, ◌==◌, nat_lt, ℤ, pos, ◌+ℤ◌, ◌*ℤ◌, Some, List, [], ◌∷◌, refl, sym, ap, subst, ◌∙◌, arith}
use Rattle.std.specs.Prelude.{if◌then◌else◌}
use Rattle.std.proofs.lemmas.Bool.{eqb-true}
use Rattle.std.proofs.lemmas.Bool.Decides.{nat_tests}
use Rattle.std.proofs.Math.IntN.{+ℤ_assoc, +ℤ_comm}
use Rattle.std.proofs.lemmas.Int.{ints}
use Rattle.scasp_num.specs.declared.linear.Coeff.{Coeff}
use Rattle.scasp_num.specs.Number.{InRange}
use Rattle.scasp_num.specs.Arithmetic.{◌>>=◌, within}
use Rattle.scasp_list.specs.Each.{Each}
use Rattle.scasp_list.proofs.EachLemmas.{Each-map}
use Rattle.scasp_num.specs.Linear.{Linear, Ascends, normal_form, weighted, Compares, Meets, coefficient, others_times, merged, join_of, replaced}
use Rattle.scasp_num.proofs.Integers.{+ℤ-*ℤ}
use Rattle.scasp_num.proofs.Numbers.{within-some, ltb_lt}
use Rattle.scasp_num.proofs.Exact.{bind-some}
use Rattle.scasp_num.proofs.Meaning.{normal_form-meets_of}
use Rattle.scasp_num.proofs.Puts.{replaced-weighted}

pub later : (a b : ℕ) → nat_lt a b ≡ false → (a == b) ≡ false → b < a
later a b s f = grind (arith, nat_tests)

-- what merging gives, case by case
merged-cases : (R : List Coeff → List Coeff → Type 0) (y : ℕ) (c : ℤ)
    → R [] (record { x = y; c = c } ∷ [])
    → ((k : Coeff) (ks rest : List Coeff) → k.x < y → R ks rest → R (k ∷ ks) (k ∷ rest))
    → ((k : Coeff) (ks : List Coeff) (s : ℤ) → k.x ≡ y → s ≡ k.c +ℤ c → InRange s → R (k ∷ ks) (record { x = y; c = s } ∷ ks))
    → ((k : Coeff) (ks : List Coeff) → y < k.x → R (k ∷ ks) (record { x = y; c = c } ∷ k ∷ ks))
    → (ks out : List Coeff) → Some out ≡ merged y c ks → R ks out
merged-cases R y c none below at above [] out e = subst (λ (o : List Coeff). R [] o) (let same : record { x = y; c = c } ∷ [] ≡ out = cc in same) none
merged-cases R y c none below at above (k ∷ ks) out e = by (nat_lt k.x y) refl (k.x == y) refl e (λ rest f. merged-cases R y c none below at above ks rest f)
  where
    by : (s : Bool) → nat_lt k.x y ≡ s → (t : Bool) → (k.x == y) ≡ t → Some out ≡ (if s then (merged y c ks >>= (λ rest. Some (k ∷ rest))) else (if t then (within (k.c +ℤ c) >>= (λ sum. Some (record { x = y; c = sum } ∷ ks))) else Some (record { x = y; c = c } ∷ k ∷ ks))) → ((rest : List Coeff) → Some rest ≡ merged y c ks → R ks rest) → R (k ∷ ks) out
    by true s t f e rest =
        let a = bind-some (merged y c ks) (λ rest. Some (k ∷ rest)) out e in
        let same : out ≡ k ∷ a.0 = cc in
        subst (λ (o : List Coeff). R (k ∷ ks) o) (sym same) (below k ks a.0 (ltb_lt s) (rest a.0 a.1))
    by false s true f e rest =
        let a = bind-some (within (k.c +ℤ c)) (λ sum. Some (record { x = y; c = sum } ∷ ks)) out e in
        let w = within-some a.0 (k.c +ℤ c) a.1 in
        let same : out ≡ record { x = y; c = a.0 } ∷ ks = cc in
        subst (λ (o : List Coeff). R (k ∷ ks) o) (sym same) (at k ks a.0 (eqb-true k.x y f) w.0 w.1)
    by false s false f e rest =
        let same : record { x = y; c = c } ∷ k ∷ ks ≡ out = cc in
        subst (λ (o : List Coeff). R (k ∷ ks) o) same (above k ks (later k.x y s f))

merged-each : (P : Coeff → Type 0) (y : ℕ) (c : ℤ) → ((s : ℤ) → InRange s → P (record { x = y; c = s })) → InRange c → (ks out : List Coeff) → Some out ≡ merged y c ks → Each P ks → Each P out
merged-each P y c f r = merged-cases (λ ks out. Each P ks → Each P out) y c
    (λ h. (f c r, tt))
    (λ k ks rest b i h. (h.0, i h.1))
    (λ k ks s e g w h. (f s w, h.1))
    (λ k ks b h. (f c r, h))

pub merged-range : (y : ℕ) (c : ℤ) → InRange c → (ks out : List Coeff) → Some out ≡ merged y c ks → Each (λ k. InRange k.c) ks → Each (λ k. InRange k.c) out
merged-range y c r = merged-each (λ k. InRange k.c) y c (λ s h. h) r

pub merged-Ascends : (y : ℕ) (c : ℤ) → InRange c → (ks out : List Coeff) → Some out ≡ merged y c ks → Ascends ks → Ascends out
merged-Ascends y c r [] out e a = subst (λ (o : List Coeff). Ascends o) (let same : record { x = y; c = c } ∷ [] ≡ out = cc in same) (tt, tt)
merged-Ascends y c r (k ∷ ks) out e a = by (nat_lt k.x y) refl (k.x == y) refl e (λ rest f. merged-Ascends y c r ks rest f a.1)
  where
    by : (s : Bool) → nat_lt k.x y ≡ s → (t : Bool) → (k.x == y) ≡ t → Some out ≡ (if s then (merged y c ks >>= (λ rest. Some (k ∷ rest))) else (if t then (within (k.c +ℤ c) >>= (λ sum. Some (record { x = y; c = sum } ∷ ks))) else Some (record { x = y; c = c } ∷ k ∷ ks))) → ((rest : List Coeff) → Some rest ≡ merged y c ks → Ascends rest) → Ascends out
    by true s t f e rest =
        let b = bind-some (merged y c ks) (λ rest. Some (k ∷ rest)) out e in
        let same : out ≡ k ∷ b.0 = cc in
        let less : k.x < y = ltb_lt s in
        subst (λ (o : List Coeff). Ascends o) (sym same) (merged-each (λ j. k.x < j.x) y c (λ _ _. less) r ks b.0 b.1 a.0, rest b.0 b.1)
    by false s true f e rest =
        let b = bind-some (within (k.c +ℤ c)) (λ sum. Some (record { x = y; c = sum } ∷ ks)) out e in
        let same : out ≡ record { x = y; c = b.0 } ∷ ks = cc in
        subst (λ (o : List Coeff). Ascends o) (sym same) (subst (λ z. Each (λ j. z < j.x) ks) (eqb-true k.x y f) a.0, a.1)
    by false s false f e rest =
        let same : record { x = y; c = c } ∷ k ∷ ks ≡ out = cc in
        let more : y < k.x = later k.x y s f in
        subst (λ (o : List Coeff). Ascends o) same ((more, Each-map (λ j. k.x < j.x) (λ j. y < j.x) (λ j h. omega arith) ks a.0), a)

merged-weighted : (m : ℕ → ℤ) (y : ℕ) (c : ℤ) (ks out : List Coeff) → Some out ≡ merged y c ks → weighted m out ≡ weighted m ks +ℤ c *ℤ m y
merged-weighted m y c = merged-cases (λ ks out. weighted m out ≡ weighted m ks +ℤ c *ℤ m y) y c
    (+ℤ_comm (c *ℤ m y) (pos 0))
    (λ k ks rest b i. ap (λ w. k.c *ℤ m k.x +ℤ w) i ∙ sym (+ℤ_assoc (k.c *ℤ m k.x) (weighted m ks) (c *ℤ m y)))
    (λ k ks s e g w. ap (λ z. z *ℤ m y +ℤ weighted m ks) g ∙ ap (λ z. z +ℤ weighted m ks) (+ℤ-*ℤ k.c c (m y) ∙ ap (λ z. k.c *ℤ m z +ℤ c *ℤ m y) (sym e)) ∙ +ℤ_assoc (k.c *ℤ m k.x) (c *ℤ m y) (weighted m ks) ∙ ap (λ z. k.c *ℤ m k.x +ℤ z) (+ℤ_comm (c *ℤ m y) (weighted m ks)) ∙ sym (+ℤ_assoc (k.c *ℤ m k.x) (weighted m ks) (c *ℤ m y)))
    (λ k ks b. +ℤ_comm (c *ℤ m y) (k.c *ℤ m k.x +ℤ weighted m ks))

pub coefficient-range : (x : ℕ) (ks : List Coeff) → Each (λ k. InRange k.c) ks → InRange (coefficient x ks)
coefficient-range x [] h = omega arith
coefficient-range x (k ∷ ks) h = by (k.x == x) (coefficient-range x ks h.1)
  where
    by : (t : Bool) → InRange (coefficient x ks) → InRange (if t then k.c else coefficient x ks)
    by true rest = h.0
    by false rest = rest

weighted-same : (v w : ℕ → ℤ) → ((y : ℕ) → v y ≡ w y) → (ks : List Coeff) → weighted v ks ≡ weighted w ks
weighted-same v w e [] = refl
weighted-same v w e (k ∷ ks) = λ i. k.c *ℤ e k.x i +ℤ weighted-same v w e ks i

times-one : (z : ℤ) → z *ℤ pos 1 ≡ z
times-one z = omega (arith, ints)

replaced-one : (m : ℕ → ℤ) (x : ℕ) (z : ℤ) (y : ℕ) → replaced (λ y. m y *ℤ pos 1) x z y ≡ replaced m x z y
replaced-one m x z y = ap (λ w. if y == x then z else w) (times-one (m y))

pub join_of-meets : (r row : Linear) (x y : ℕ) → Ascends r.coeffs → Some row ≡ join_of r x y → (m : ℕ → ℤ) (d : ℤ) → Meets m d row ↔ Meets (replaced m x (m y)) d r
unfolding join_of
join_of-meets r row x y asc e m d =
    let a = bind-some (others_times (pos 1) x r.coeffs) (λ others. merged y (coefficient x r.coeffs) others >>= (λ coeffs. Some (normal_form (record { coeffs = coeffs; constant = r.constant; op = r.op })))) row e in
    let b = bind-some (merged y (coefficient x r.coeffs) a.0) (λ coeffs. Some (normal_form (record { coeffs = coeffs; constant = r.constant; op = r.op }))) row a.2 in
    let made : row ≡ normal_form (record { coeffs = b.0; constant = r.constant; op = r.op }) = cc in
    let sum : weighted m b.0 ≡ weighted (replaced m x (m y)) r.coeffs =
    merged-weighted m y (coefficient x r.coeffs) a.0 b.0 b.1 ∙ sym (replaced-weighted m (pos 1) (m y) x r.coeffs a.0 asc a.1) ∙ weighted-same (replaced (λ y. m y *ℤ pos 1) x (m y)) (replaced m x (m y)) (replaced-one m x (m y)) r.coeffs in
    subst (λ w. Meets m d row ↔ Compares r.op (w +ℤ r.constant *ℤ d)) sum (normal_form-meets_of (record { coeffs = b.0; constant = r.constant; op = r.op }) row made m d)
