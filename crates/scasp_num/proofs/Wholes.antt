-- Rows given by pairs: the sums ascend, and the whole row is met by the same values.
use Rattle.std.proofs.Common.{◌≡◌, ◌↔◌, ℕ, ◌*◌, ◌/◌, ◌<◌, Bool, true, false, ◌==◌, nat_lt, ℤ, pos, negsuc, ◌+ℤ◌, ◌*ℤ◌, ◌<ℤ◌, unsigned_abs, int_div, Some, List, [], ◌∷◌, refl, sym, ap, subst, ◌∙◌, arith}
use Rattle.std.specs.Prelude.{if◌then◌else◌}
use Rattle.std.specs.Int.{◌∣◌}
use Rattle.std.proofs.lemmas.Bool.{eqb-true}
use Rattle.std.proofs.lemmas.Int.{ints, unsigned_abs-mul}
use Rattle.std.proofs.Math.Nat.{dvd_trans, dvd-mul_right, mul-div_cancel', dvd_refl}
use Rattle.std.proofs.Math.IntN.{*ℤ_comm, +ℤ_idr, +ℤ_idl, +ℤ_assoc, +ℤ_comm, zero-*ℤ}
use Rattle.scasp_num.specs.declared.linear.Coeff.{Coeff}
use Rattle.scasp_num.specs.declared.linear.RatPair.{RatPair}
use Rattle.scasp_num.specs.declared.linear.Op.{Op}
use Rattle.scasp_num.specs.Gcd.{gcd}
use Rattle.scasp_num.specs.Number.{Number, IsFraction, InRange}
use Rattle.scasp_num.specs.Arithmetic.{◌>>=◌, within, sum_of}
use Rattle.scasp_list.specs.Each.{Each}
use Rattle.scasp_list.proofs.EachLemmas.{Each-map}
use Rattle.scasp_num.specs.Linear.{Linear, Ascends, normal_form, weighted, Compares, Meets}
use Rattle.scasp_num.specs.Sums.{added, summed, multiple, whole_number, whole, normal_of, IsTimes, AreTimes}
use Rattle.scasp_num.proofs.Gcds.{gcd-is}
use Rattle.scasp_num.proofs.Integers.{*ℤ_assoc, *ℤ_right_comm, +ℤ-*ℤ, *ℤ-cancel}
use Rattle.scasp_num.proofs.Numbers.{within-some, ltb_lt, times-pos, over-pos, unsigned_abs-over}
use Rattle.scasp_num.proofs.Exact.{bind-some, sum_of-exact, over-times}
use Rattle.scasp_num.proofs.Meaning.{normal_form-meets_of, compares-scaled}
use Rattle.scasp_num.proofs.Joins.{later}

-- ---- the sums ascend

abbrev pub Rises : List RatPair → Type 0
Rises [] = Unit {0}
Rises (k ∷ ks) = Each (λ j. k.x < j.x) ks × Rises ks

-- what adding gives, case by case
added-cases : (R : List RatPair → List RatPair → Type 0) (x : ℕ) (v : Number)
    → R [] (record { x = x; value = v } ∷ [])
    → ((k : RatPair) (ks rest : List RatPair) → k.x < x → Some rest ≡ added x v ks → R ks rest → R (k ∷ ks) (k ∷ rest))
    → ((k : RatPair) (ks : List RatPair) (s : Number) → k.x ≡ x → Some s ≡ sum_of k.value v → R (k ∷ ks) (record { x = x; value = s } ∷ ks))
    → ((k : RatPair) (ks : List RatPair) → x < k.x → R (k ∷ ks) (record { x = x; value = v } ∷ k ∷ ks))
    → (ks out : List RatPair) → Some out ≡ added x v ks → R ks out
added-cases R x v none below at above [] out e = subst (λ (o : List RatPair). R [] o) (let same : record { x = x; value = v } ∷ [] ≡ out = cc in same) none
added-cases R x v none below at above (k ∷ ks) out e = by (nat_lt k.x x) refl (k.x == x) refl e (λ rest f. added-cases R x v none below at above ks rest f)
  where
    by : (s : Bool) → nat_lt k.x x ≡ s → (t : Bool) → (k.x == x) ≡ t → Some out ≡ (if s then (added x v ks >>= (λ rest. Some (k ∷ rest))) else (if t then (sum_of k.value v >>= (λ sum. Some (record { x = x; value = sum } ∷ ks))) else Some (record { x = x; value = v } ∷ k ∷ ks))) → ((rest : List RatPair) → Some rest ≡ added x v ks → R ks rest) → R (k ∷ ks) out
    by true s t f e rest =
        let a = bind-some (added x v ks) (λ rest. Some (k ∷ rest)) out e in
        let same : out ≡ k ∷ a.0 = cc in
        subst (λ (o : List RatPair). R (k ∷ ks) o) (sym same) (below k ks a.0 (ltb_lt s) a.1 (rest a.0 a.1))
    by false s true f e rest =
        let a = bind-some (sum_of k.value v) (λ sum. Some (record { x = x; value = sum } ∷ ks)) out e in
        let same : out ≡ record { x = x; value = a.0 } ∷ ks = cc in
        subst (λ (o : List RatPair). R (k ∷ ks) o) (sym same) (at k ks a.0 (eqb-true k.x x f) a.1)
    by false s false f e rest =
        let same : record { x = x; value = v } ∷ k ∷ ks ≡ out = cc in
        subst (λ (o : List RatPair). R (k ∷ ks) o) same (above k ks (later k.x x s f))

added-each : (z x : ℕ) (v : Number) → z < x → (ks out : List RatPair) → Some out ≡ added x v ks → Each (λ j. z < j.x) ks → Each (λ j. z < j.x) out
added-each z x v h = added-cases (λ ks out. Each (λ j. z < j.x) ks → Each (λ j. z < j.x) out) x v
    (λ e. (h, tt))
    (λ k ks rest b e i g. (g.0, i g.1))
    (λ k ks s e f g. (h, g.1))
    (λ k ks b g. (h, g))

added-Rises : (x : ℕ) (v : Number) (ks out : List RatPair) → Some out ≡ added x v ks → Rises ks → Rises out
added-Rises x v = added-cases (λ ks out. Rises ks → Rises out) x v
    (λ h. (tt, tt))
    (λ k ks rest b e i h. (added-each k.x x v b ks rest e h.0, i h.1))
    (λ k ks s e f h. (subst (λ z. Each (λ j. z < j.x) ks) e h.0, h.1))
    (λ k ks b h. ((b, Each-map (λ j. k.x < j.x) (λ j. x < j.x) (λ j g. omega arith) ks h.0), h))

pub summed-Rises : (sums pairs out : List RatPair) → Some out ≡ summed sums pairs → Rises sums → Rises out
summed-Rises sums [] out e h = subst (λ (o : List RatPair). Rises o) (let same : sums ≡ out = cc in same) h
summed-Rises sums (p ∷ ps) out e h =
    let a = bind-some (added p.x p.value sums) (λ next. summed next ps) out e in
    summed-Rises a.0 ps out a.2 (added-Rises p.x p.value sums a.0 a.1 h)

-- ---- made whole

whole-step : (l : ℤ) (k : RatPair) (ks : List RatPair) (out : List Coeff) → Some out ≡ whole l (k ∷ ks) → (c : ℤ) × (rest : List Coeff) × (Some c ≡ whole_number l k.value) × (Some rest ≡ whole l ks) × (out ≡ record { x = k.x; c = c } ∷ rest)
whole-step l k ks out e =
    let a = bind-some (whole_number l k.value) (λ c. whole l ks >>= (λ rest. Some (record { x = k.x; c = c } ∷ rest))) out e in
    let b = bind-some (whole l ks) (λ rest. Some (record { x = k.x; c = a.0 } ∷ rest)) out a.2 in
    let same : out ≡ record { x = k.x; c = a.0 } ∷ b.0 = cc in
    (a.0, b.0, a.1, b.1, same)

whole-each : (z : ℕ) (l : ℤ) (ks : List RatPair) (out : List Coeff) → Some out ≡ whole l ks → Each (λ j. z < j.x) ks → Each (λ j. z < j.x) out
whole-each z l [] out e h = subst (λ (o : List Coeff). Each (λ j. z < j.x) o) (let same : [] ≡ out = cc in same) tt
whole-each z l (k ∷ ks) out e h =
    let s = whole-step l k ks out e in
    subst (λ (o : List Coeff). Each (λ j. z < j.x) o) (sym s.4) (h.0, whole-each z l ks s.1 s.3 h.1)

pub whole-Ascends : (l : ℤ) (ks : List RatPair) (out : List Coeff) → Some out ≡ whole l ks → Rises ks → Ascends out
whole-Ascends l [] out e h = subst (λ (o : List Coeff). Ascends o) (let same : [] ≡ out = cc in same) tt
whole-Ascends l (k ∷ ks) out e h =
    let s = whole-step l k ks out e in
    subst (λ (o : List Coeff). Ascends o) (sym s.4) (whole-each k.x l ks s.1 s.3 h.0, whole-Ascends l ks s.1 s.3 h.1)

whole_number-is : (l c : ℤ) (q : Number) → Some c ≡ whole_number l q → (c ≡ q.num *ℤ int_div l (pos (unsigned_abs q.den))) × InRange c
whole_number-is l c q e = within-some c (q.num *ℤ int_div l (pos (unsigned_abs q.den))) e

pub whole-range : (l : ℤ) (ks : List RatPair) (out : List Coeff) → Some out ≡ whole l ks → Each (λ k. InRange k.c) out
whole-range l [] out e = subst (λ (o : List Coeff). Each (λ k. InRange k.c) o) (let same : [] ≡ out = cc in same) tt
whole-range l (k ∷ ks) out e =
    let s = whole-step l k ks out e in
    subst (λ (o : List Coeff). Each (λ k. InRange k.c) o) (sym s.4) ((whole_number-is l s.0 k.value s.2).1, whole-range l ks s.1 s.3)

-- ---- the sums have the same multiples

IsTimes-sum : (p q r : Number) (l z w : ℤ) → IsFraction r (p.num *ℤ q.den +ℤ q.num *ℤ p.den) (p.den *ℤ q.den) → IsTimes l p z → IsTimes l q w → IsTimes l r (z +ℤ w)
IsTimes-sum p q r l z w f a b =
    let k = p.den *ℤ q.den in
    let n = p.num *ℤ q.den +ℤ q.num *ℤ p.den in
    let left : z *ℤ k ≡ (p.num *ℤ q.den) *ℤ l = sym (*ℤ_assoc z p.den q.den) ∙ ap (λ y. y *ℤ q.den) a ∙ *ℤ_right_comm p.num l q.den in
    let right : w *ℤ k ≡ (q.num *ℤ p.den) *ℤ l = ap (λ y. w *ℤ y) (*ℤ_comm p.den q.den) ∙ sym (*ℤ_assoc w q.den p.den) ∙ ap (λ y. y *ℤ p.den) b ∙ *ℤ_right_comm q.num l p.den in
    let all : (z +ℤ w) *ℤ k ≡ n *ℤ l = +ℤ-*ℤ z w k ∙ (λ i. left i +ℤ right i) ∙ sym (+ℤ-*ℤ (p.num *ℤ q.den) (q.num *ℤ p.den) l) in
    *ℤ-cancel ((z +ℤ w) *ℤ r.den) (r.num *ℤ l) k (times-pos p.den q.den p.reduced.positive q.reduced.positive)
    (*ℤ_right_comm (z +ℤ w) r.den k ∙ ap (λ y. y *ℤ r.den) all ∙ *ℤ_right_comm n l r.den ∙ ap (λ y. y *ℤ l) (sym f) ∙ *ℤ_right_comm r.num k l)

-- some terms are l times the pairs, and weigh so
abbrev HasTimes : (ℕ → ℤ) → ℤ → List RatPair → ℤ → Type 0
HasTimes m l ps z = (ks : List Coeff) × AreTimes l ps ks × (weighted m ks ≡ z)

added-times : (m : ℕ → ℤ) (l : ℤ) (x : ℕ) (v : Number) (z : ℤ) → IsTimes l v z → (ps out : List RatPair) → Some out ≡ added x v ps → (ks : List Coeff) → AreTimes l ps ks → HasTimes m l out (weighted m ks +ℤ z *ℤ m x)
added-times m l x v z t = added-cases (λ ps out. (ks : List Coeff) → AreTimes l ps ks → HasTimes m l out (weighted m ks +ℤ z *ℤ m x)) x v none below at above
  where
    none : (ks : List Coeff) → AreTimes l [] ks → HasTimes m l (record { x = x; value = v } ∷ []) (weighted m ks +ℤ z *ℤ m x)
    none [] a = (record { x = x; c = z } ∷ [], (refl, t, tt), +ℤ_comm (z *ℤ m x) (pos 0))
    none (k ∷ ks) a = absurd a

    below : (p : RatPair) (ps rest : List RatPair) → p.x < x → Some rest ≡ added x v ps → ((ks : List Coeff) → AreTimes l ps ks → HasTimes m l rest (weighted m ks +ℤ z *ℤ m x)) → (ks : List Coeff) → AreTimes l (p ∷ ps) ks → HasTimes m l (p ∷ rest) (weighted m ks +ℤ z *ℤ m x)
    below p ps rest b e i [] a = absurd a
    below p ps rest b e i (k ∷ ks) a =
        let r = i ks a.2 in
        (k ∷ r.0, (a.0, a.1, r.1), ap (λ w. k.c *ℤ m k.x +ℤ w) r.2 ∙ sym (+ℤ_assoc (k.c *ℤ m k.x) (weighted m ks) (z *ℤ m x)))

    at : (p : RatPair) (ps : List RatPair) (s : Number) → p.x ≡ x → Some s ≡ sum_of p.value v → (ks : List Coeff) → AreTimes l (p ∷ ps) ks → HasTimes m l (record { x = x; value = s } ∷ ps) (weighted m ks +ℤ z *ℤ m x)
    at p ps s e f [] a = absurd a
    at p ps s e f (k ∷ ks) a =
        let name : k.x ≡ x = a.0 ∙ e in (
          record { x = x; c = k.c +ℤ z } ∷ ks,
          (refl, IsTimes-sum p.value v s l k.c z (sum_of-exact p.value v s f) a.1 t, a.2),
          ap (λ w. w +ℤ weighted m ks) (+ℤ-*ℤ k.c z (m x)) ∙ ap (λ y. (k.c *ℤ m y +ℤ z *ℤ m x) +ℤ weighted m ks) (sym name) ∙ +ℤ_assoc (k.c *ℤ m k.x) (z *ℤ m x) (weighted m ks) ∙ ap (λ w. k.c *ℤ m k.x +ℤ w) (+ℤ_comm (z *ℤ m x) (weighted m ks)) ∙ sym (+ℤ_assoc (k.c *ℤ m k.x) (weighted m ks) (z *ℤ m x)),
        )

    above : (p : RatPair) (ps : List RatPair) → x < p.x → (ks : List Coeff) → AreTimes l (p ∷ ps) ks → HasTimes m l (record { x = x; value = v } ∷ p ∷ ps) (weighted m ks +ℤ z *ℤ m x)
    above p ps b ks a = (record { x = x; c = z } ∷ ks, (refl, t, a), +ℤ_comm (z *ℤ m x) (weighted m ks))

summed-times : (m : ℕ → ℤ) (l : ℤ) (sums pairs out : List RatPair) → Some out ≡ summed sums pairs → (ks js : List Coeff) → AreTimes l sums ks → AreTimes l pairs js → HasTimes m l out (weighted m ks +ℤ weighted m js)
summed-times m l sums [] out e ks [] a b = subst (λ (o : List RatPair). HasTimes m l o (weighted m ks +ℤ pos 0)) (let same : sums ≡ out = cc in same) (ks, a, sym (+ℤ_idr (weighted m ks)))
summed-times m l sums [] out e ks (j ∷ js) a b = absurd b
summed-times m l sums (p ∷ ps) out e ks [] a b = absurd b
summed-times m l sums (p ∷ ps) out e ks (j ∷ js) a b =
    let s = bind-some (added p.x p.value sums) (λ next. summed next ps) out e in
    let t = added-times m l p.x p.value j.c b.1 sums s.0 s.1 ks a in
    let r = summed-times m l s.0 ps out s.2 t.0 js t.1 b.2 in
    (r.0, r.1, r.2 ∙ ap (λ w. w +ℤ weighted m js) (t.2 ∙ ap (λ y. weighted m ks +ℤ j.c *ℤ m y) (sym b.0)) ∙ +ℤ_assoc (weighted m ks) (j.c *ℤ m j.x) (weighted m js))

-- ---- the least common multiple is one

pub multiple-step : (l d : ℤ) → (unsigned_abs l ∣ unsigned_abs (l *ℤ int_div d (pos (gcd (unsigned_abs l) (unsigned_abs d))))) × (unsigned_abs d ∣ unsigned_abs (l *ℤ int_div d (pos (gcd (unsigned_abs l) (unsigned_abs d)))))
multiple-step l d =
    let a = unsigned_abs l in
    let b = unsigned_abs d in
    let g = gcd a b in
    let size : unsigned_abs (l *ℤ int_div d (pos g)) ≡ a * (b / g) = unsigned_abs-mul l (int_div d (pos g)) ∙ ap (λ x. a * x) (unsigned_abs-over d g) in
    let other : b * (a / g) ≡ a * (b / g) =
    ap (λ x. x * (a / g)) (sym (mul-div_cancel' g (gcd-is a b).1)) ∙ regroup g (b / g) (a / g) ∙ ap (λ x. x * (b / g)) (mul-div_cancel' g (gcd-is a b).0) in
    (subst (λ x. a ∣ x) (sym size) (dvd-mul_right a (b / g)), subst (λ x. b ∣ x) (other ∙ sym size) (dvd-mul_right b (a / g)))
  where
    regroup : (g x y : ℕ) → g * x * y ≡ g * y * x
    regroup g x y = omega arith

multiple-is : (l : ℤ) (ps : List RatPair) (out : ℤ) → Some out ≡ multiple l ps → pos 0 <ℤ l → (pos 0 <ℤ out) × (unsigned_abs l ∣ unsigned_abs out) × Each (λ p. unsigned_abs p.value.den ∣ unsigned_abs out) ps
multiple-is l [] out e h =
    let same : l ≡ out = cc in
    (subst (λ x. pos 0 <ℤ x) same h, subst (λ x. unsigned_abs l ∣ unsigned_abs x) same (dvd_refl (unsigned_abs l)), tt)
multiple-is l (p ∷ ps) out e h =
    let d = p.value.den in
    let g = gcd (unsigned_abs l) (unsigned_abs d) in
    let next = l *ℤ int_div d (pos g) in
    let a = bind-some (within next) (λ n. multiple n ps) out e in
    let is : a.0 ≡ next = (within-some a.0 next a.1).0 in
    let above : pos 0 <ℤ a.0 = subst (λ x. pos 0 <ℤ x) (sym is) (times-pos l (int_div d (pos g)) h (over-pos d g p.value.reduced.positive (gcd-is (unsigned_abs l) (unsigned_abs d)).1)) in
    let r = multiple-is a.0 ps out a.2 above in
    let s = multiple-step l d in
    let to : unsigned_abs next ∣ unsigned_abs out = subst (λ x. unsigned_abs x ∣ unsigned_abs out) is r.1 in
    (r.0, dvd_trans (unsigned_abs l) s.0 to, (dvd_trans (unsigned_abs d) s.1 to, r.2))

pub size-pos : (d : ℤ) → pos 0 <ℤ d → pos (unsigned_abs d) ≡ d
size-pos (pos n) h = refl
size-pos (negsuc n) h = absurd (omega (arith, ints))

whole_number-times : (l c : ℤ) (q : Number) → Some c ≡ whole_number l q → unsigned_abs q.den ∣ unsigned_abs l → IsTimes l q c
whole_number-times l c q e d =
    let k = unsigned_abs q.den in
    ap (λ x. x *ℤ q.den) (whole_number-is l c q e).0 ∙ *ℤ_assoc q.num (int_div l (pos k)) q.den ∙ ap (λ x. q.num *ℤ x) (ap (λ x. int_div l (pos k) *ℤ x) (sym (size-pos q.den q.reduced.positive)) ∙ over-times l k d)

whole-times : (l : ℤ) (ps : List RatPair) (out : List Coeff) → Some out ≡ whole l ps → Each (λ p. unsigned_abs p.value.den ∣ unsigned_abs l) ps → AreTimes l ps out
whole-times l [] out e d = subst (λ (o : List Coeff). AreTimes l [] o) (let same : [] ≡ out = cc in same) tt
whole-times l (p ∷ ps) out e d =
    let s = whole-step l p ps out e in
    subst (λ (o : List Coeff). AreTimes l (p ∷ ps) o) (sym s.4) (refl, whole_number-times l s.0 p.value s.2 d.0, whole-times l ps s.1 s.3 d.1)

-- ---- two multiples of the same numbers

cross-one : (l n z c : ℤ) (q : Number) → IsTimes l q z → IsTimes n q c → z *ℤ n ≡ c *ℤ l
cross-one l n z c q a b =
    *ℤ-cancel (z *ℤ n) (c *ℤ l) q.den q.reduced.positive (*ℤ_right_comm z n q.den ∙ ap (λ x. x *ℤ n) a ∙ *ℤ_right_comm q.num l n ∙ ap (λ x. x *ℤ l) (sym b) ∙ *ℤ_right_comm c q.den l)

cross-all : (m : ℕ → ℤ) (l n : ℤ) (ps : List RatPair) (zs cs : List Coeff) → AreTimes l ps zs → AreTimes n ps cs → weighted m zs *ℤ n ≡ weighted m cs *ℤ l
cross-all m l n [] [] [] a b = zero-*ℤ n ∙ sym (zero-*ℤ l)
cross-all m l n [] (z ∷ zs) cs a b = absurd a
cross-all m l n [] [] (c ∷ cs) a b = absurd b
cross-all m l n (p ∷ ps) [] cs a b = absurd a
cross-all m l n (p ∷ ps) (z ∷ zs) [] a b = absurd b
cross-all m l n (p ∷ ps) (z ∷ zs) (c ∷ cs) a b =
    let one = cross-one l n z.c c.c p.value a.1 b.1 in
    +ℤ-*ℤ (z.c *ℤ m z.x) (weighted m zs) n ∙ (λ i. (*ℤ_right_comm z.c (m z.x) n ∙ ap (λ x. x *ℤ m z.x) one ∙ *ℤ_right_comm c.c l (m z.x) ∙ ap (λ y. (c.c *ℤ m y) *ℤ l) (a.0 ∙ sym b.0)) i +ℤ cross-all m l n ps zs cs a.2 b.2 i) ∙ sym (+ℤ-*ℤ (c.c *ℤ m c.x) (weighted m cs) l)

pub normal_of-meets : (pairs : List RatPair) (q : Number) (op : Op) (row : Linear) → Some row ≡ normal_of pairs q op → (m : ℕ → ℤ) (d l : ℤ) (ks : List Coeff) (z : ℤ) → pos 0 <ℤ l → AreTimes l pairs ks → IsTimes l q z → Meets m d row ↔ Compares op (weighted m ks +ℤ z *ℤ d)
unfolding normal_of
normal_of-meets pairs q op row e m d l ks z above times last =
    let f = λ (coeffs : List Coeff) (constant : ℤ). Some (normal_form (record { coeffs = coeffs; constant = constant; op = op })) in
    let s = bind-some (summed [] pairs) (λ sums. multiple q.den sums >>= (λ n. whole n sums >>= (λ cs. whole_number n q >>= (λ c. f cs c)))) row e in
    let n = bind-some (multiple q.den s.0) (λ n. whole n s.0 >>= (λ cs. whole_number n q >>= (λ c. f cs c))) row s.2 in
    let w = bind-some (whole n.0 s.0) (λ cs. whole_number n.0 q >>= (λ c. f cs c)) row n.2 in
    let c = bind-some (whole_number n.0 q) (λ c. f w.0 c) row w.2 in
    let made : row ≡ normal_form (record { coeffs = w.0; constant = c.0; op = op }) = cc in
    let is = multiple-is q.den s.0 n.0 n.1 q.reduced.positive in
    let t = summed-times m l [] pairs s.0 s.1 [] ks tt times in
    let terms : weighted m w.0 *ℤ l ≡ weighted m ks *ℤ n.0 =
    cross-all m n.0 l s.0 w.0 t.0 (whole-times n.0 s.0 w.0 w.1 is.2) t.1 ∙ ap (λ x. x *ℤ n.0) (t.2 ∙ +ℤ_idl (weighted m ks)) in
    let rest : (c.0 *ℤ d) *ℤ l ≡ (z *ℤ d) *ℤ n.0 =
    *ℤ_right_comm c.0 d l ∙ ap (λ x. x *ℤ d) (cross-one n.0 l c.0 z q (whole_number-times n.0 c.0 q c.1 is.1) last) ∙ *ℤ_right_comm z n.0 d in
    let all : (weighted m w.0 +ℤ c.0 *ℤ d) *ℤ l ≡ (weighted m ks +ℤ z *ℤ d) *ℤ n.0 =
    +ℤ-*ℤ (weighted m w.0) (c.0 *ℤ d) l ∙ (λ i. terms i +ℤ rest i) ∙ sym (+ℤ-*ℤ (weighted m ks) (z *ℤ d) n.0) in
    let a = compares-scaled op (weighted m w.0 +ℤ c.0 *ℤ d) l above in
    let b = compares-scaled op (weighted m ks +ℤ z *ℤ d) n.0 is.0 in
    let r = normal_form-meets_of (record { coeffs = w.0; constant = c.0; op = op }) row made m d in
    (λ x. b.1 (subst (λ y. Compares op y) all (a.0 (r.0 x))), λ x. r.1 (a.1 (subst (λ y. Compares op y) (sym all) (b.0 x))))
