-- What the bounded operations compute is the exact fraction, and they have a result exactly where their integers lie in range.
use Rattle.std.proofs.Common.{Result, Ok, Err, ◌≡◌, ℕ, suc, ◌*◌, ◌/◌, ◌^◌, ◌<◌, ◌≤◌, ◌≢◌, Bool, true, false, ◌&&◌, nat_lt, ℤ, pos, negsuc, ◌+ℤ◌, ◌-ℤ◌, ◌*ℤ◌, neg_ℤ, unsigned_abs, int_div, Option, Some, None, is_some, is_ok, refl, sym, ap, subst, ◌∙◌, arith}
use Rattle.std.specs.Prelude.{if◌then◌else◌, IfOk}
use Rattle.std.specs.Result.{result_ok}
use Rattle.std.specs.List.{list_all}
use Rattle.std.specs.Int.{◌∣◌}
use Rattle.std.proofs.Math.Nat.{div-mul_cancel, div-le_self, div-one}
use Rattle.std.proofs.Math.IntN.{*ℤ_comm}
use Rattle.std.proofs.lemmas.Int.{unsigned_abs-mul}
use Rattle.scasp_num.specs.Gcd.{gcd}
use Rattle.scasp_num.specs.Number.{Number, IsReduced, IsFraction, InRange}
use Rattle.scasp_num.specs.Arithmetic.{◌>>=◌, in_range, within, number, signed, signs_differ, lowest, sum_of, product_of, quotient_of, difference_of, negation_of, lowest_integers, sum_integers, product_integers, quotient_integers}
use Rattle.scasp_num.proofs.Gcds.{gcd-is, gcd_comm}
use Rattle.scasp_num.proofs.Integers.{*ℤ_assoc, +ℤ-*ℤ, *ℤ_right_comm, *ℤ_shuffle, *ℤ-cancel, neg-*ℤ}
use Rattle.scasp_num.proofs.Numbers.{IsLowest, IsLowest-exact, within-some, number-parts, number-of, lowest-IsReduced, unsigned_abs-signed, unsigned_abs-over, ltb_lt, lt_ltb, ne_from-pos, sum-den_pos, product-IsReduced}

-- what a step that gave a value was
pub bind-some : {A B : Type 0} (o : Option A) (f : A → Option B) (y : B) → Some y ≡ (o >>= f) → (x : A) × (Some x ≡ o) × (Some y ≡ f x)
bind-some None f y e = cc
bind-some (Some x) f y e = (x, refl, e)

pub lowest-exact : (q : Number) (n d : ℤ) → Some q ≡ lowest n d → IsFraction q n d
unfolding lowest
lowest-exact q n d e =
    let g = gcd (unsigned_abs n) (unsigned_abs d) in
    let f = λ (num den : ℤ). number num den in
    let a = bind-some (within (signed (signs_differ n d) (unsigned_abs n / g))) (λ num. within (pos (unsigned_abs d / g)) >>= f num) q e in
    let b = bind-some (within (pos (unsigned_abs d / g))) (f a.0) q a.2 in
    let l : IsLowest n d a.0 b.0 = record { num_is = a.1; den_is = b.1 } in
    let p = number-parts q a.0 b.0 b.2 in
    ap (λ x. x *ℤ d) p.0 ∙ IsLowest-exact n d a.0 b.0 l ∙ ap (λ x. n *ℤ x) (sym p.1)

-- an exact quotient times its divisor
pub over-times : (z : ℤ) (g : ℕ) → g ∣ unsigned_abs z → int_div z (pos g) *ℤ pos g ≡ z
over-times (pos n) g h = ap pos (div-mul_cancel g h)
over-times (negsuc n) g h = neg-*ℤ (pos (suc n / g)) (pos g) ∙ ap (λ x. neg_ℤ (pos x)) (div-mul_cancel g h)

-- a fraction, with both of its integers multiplied
IsFraction-times : (q : Number) (n d n' d' g : ℤ) → n *ℤ g ≡ n' → d *ℤ g ≡ d' → IsFraction q n d → IsFraction q n' d'
IsFraction-times q n d n' d' g e f h =
    ap (λ x. q.num *ℤ x) (sym f) ∙ sym (*ℤ_assoc q.num d g) ∙ ap (λ x. x *ℤ g) h ∙ *ℤ_right_comm n q.den g ∙ ap (λ x. x *ℤ q.den) e

pub sum_of-exact : (p q r : Number) → Some r ≡ sum_of p q → IsFraction r (p.num *ℤ q.den +ℤ q.num *ℤ p.den) (p.den *ℤ q.den)
unfolding sum_of
sum_of-exact p q r e =
    let k = gcd (unsigned_abs p.den) (unsigned_abs q.den) in
    let g = pos k in
    let x = int_div q.den g in
    let y = int_div p.den g in
    let a = bind-some (within (p.num *ℤ x)) (λ left. within (q.num *ℤ y) >>= (λ right. within (left +ℤ right) >>= (λ num. within (p.den *ℤ x) >>= (λ den. lowest num den)))) r e in
    let b = bind-some (within (q.num *ℤ y)) (λ right. within (a.0 +ℤ right) >>= (λ num. within (p.den *ℤ x) >>= (λ den. lowest num den))) r a.2 in
    let c = bind-some (within (a.0 +ℤ b.0)) (λ num. within (p.den *ℤ x) >>= (λ den. lowest num den)) r b.2 in
    let d = bind-some (within (p.den *ℤ x)) (λ den. lowest c.0 den) r c.2 in
    let num : c.0 ≡ p.num *ℤ x +ℤ q.num *ℤ y = (within-some c.0 (a.0 +ℤ b.0) c.1).0 ∙ (λ i. (within-some a.0 (p.num *ℤ x) a.1).0 i +ℤ (within-some b.0 (q.num *ℤ y) b.1).0 i) in
    let den : d.0 ≡ p.den *ℤ x = (within-some d.0 (p.den *ℤ x) d.1).0 in
    let xg : x *ℤ g ≡ q.den = over-times q.den k (gcd-is (unsigned_abs p.den) (unsigned_abs q.den)).1 in
    let yg : y *ℤ g ≡ p.den = over-times p.den k (gcd-is (unsigned_abs p.den) (unsigned_abs q.den)).0 in
    IsFraction-times r c.0 d.0 (p.num *ℤ q.den +ℤ q.num *ℤ p.den) (p.den *ℤ q.den) g
    (ap (λ z. z *ℤ g) num ∙ +ℤ-*ℤ (p.num *ℤ x) (q.num *ℤ y) g ∙ (λ i. (*ℤ_assoc p.num x g ∙ ap (λ z. p.num *ℤ z) xg) i +ℤ (*ℤ_assoc q.num y g ∙ ap (λ z. q.num *ℤ z) yg) i))
    (ap (λ z. z *ℤ g) den ∙ *ℤ_assoc p.den x g ∙ ap (λ z. p.den *ℤ z) xg)
    (lowest-exact r c.0 d.0 d.2)

-- from what an operation computes, on its results
pub ok_from-computed : {E : Type 0} (r : Result Number E) (o : Option Number) (P : Number → Type 0) → ((q : Number) → Some q ≡ o → P q) → result_ok r ≡ o → IfOk r P
ok_from-computed (Ok q) o P f e = f q e
ok_from-computed (Err x) o P f e = tt

-- ---- products and quotients

product_regroup : (a b c d g h : ℤ) → (a *ℤ b) *ℤ ((c *ℤ h) *ℤ (d *ℤ g)) ≡ ((a *ℤ g) *ℤ (b *ℤ h)) *ℤ (c *ℤ d)
product_regroup a b c d g h =
    ap (λ x. (a *ℤ b) *ℤ x) (*ℤ_shuffle c h d g ∙ ap (λ x. (c *ℤ d) *ℤ x) (*ℤ_comm h g)) ∙ sym (*ℤ_assoc (a *ℤ b) (c *ℤ d) (g *ℤ h)) ∙ *ℤ_right_comm (a *ℤ b) (c *ℤ d) (g *ℤ h) ∙ ap (λ x. x *ℤ (c *ℤ d)) (*ℤ_shuffle a b g h)

pub product_of-exact : (p q r : Number) → Some r ≡ product_of p q → IsFraction r (p.num *ℤ q.num) (p.den *ℤ q.den)
unfolding product_of
product_of-exact p q r e =
    let k = gcd (unsigned_abs p.num) (unsigned_abs q.den) in
    let l = gcd (unsigned_abs q.num) (unsigned_abs p.den) in
    let x = int_div p.num (pos k) in
    let y = int_div q.num (pos l) in
    let z = int_div p.den (pos l) in
    let w = int_div q.den (pos k) in
    let a = bind-some (within (x *ℤ y)) (λ num. within (z *ℤ w) >>= (λ den. number num den)) r e in
    let b = bind-some (within (z *ℤ w)) (λ den. number a.0 den) r a.2 in
    let n : r.num ≡ x *ℤ y = (number-parts r a.0 b.0 b.2).0 ∙ (within-some a.0 (x *ℤ y) a.1).0 in
    let d : r.den ≡ z *ℤ w = (number-parts r a.0 b.0 b.2).1 ∙ (within-some b.0 (z *ℤ w) b.1).0 in
    let g = gcd-is (unsigned_abs p.num) (unsigned_abs q.den) in
    let h = gcd-is (unsigned_abs q.num) (unsigned_abs p.den) in
    (λ i. n i *ℤ (sym (over-times p.den l h.1) i *ℤ sym (over-times q.den k g.1) i)) ∙ product_regroup x y z w (pos k) (pos l) ∙ (λ i. (over-times p.num k g.0 i *ℤ over-times q.num l h.0 i) *ℤ sym d i)

pub quotient_of-exact : (p q r : Number) → Some r ≡ quotient_of p q → IsFraction r (p.num *ℤ q.den) (p.den *ℤ q.num)
unfolding quotient_of
quotient_of-exact p q r e =
    let a = bind-some (lowest q.den q.num) (product_of p) r e in
    let t = a.0 in
    let turned : t.num *ℤ q.num ≡ q.den *ℤ t.den = lowest-exact t q.den q.num a.1 in
    let all : r.num *ℤ (p.den *ℤ t.den) ≡ (p.num *ℤ t.num) *ℤ r.den = product_of-exact p t r a.2 in
    *ℤ-cancel (r.num *ℤ (p.den *ℤ q.num)) ((p.num *ℤ q.den) *ℤ r.den) t.den t.reduced.positive (by r.num p.den q.num t.den p.num t.num r.den q.den turned all)
  where
    by : (rn pd qn td pn tn rd qd : ℤ) → tn *ℤ qn ≡ qd *ℤ td → rn *ℤ (pd *ℤ td) ≡ (pn *ℤ tn) *ℤ rd → (rn *ℤ (pd *ℤ qn)) *ℤ td ≡ ((pn *ℤ qd) *ℤ rd) *ℤ td
    by rn pd qn td pn tn rd qd f g =
        *ℤ_assoc rn (pd *ℤ qn) td ∙ ap (λ x. rn *ℤ x) (*ℤ_right_comm pd qn td) ∙ sym (*ℤ_assoc rn (pd *ℤ td) qn) ∙ ap (λ x. x *ℤ qn) g ∙ *ℤ_right_comm (pn *ℤ tn) rd qn ∙ ap (λ x. x *ℤ rd) (*ℤ_assoc pn tn qn ∙ ap (λ x. pn *ℤ x) f ∙ sym (*ℤ_assoc pn qd td)) ∙ *ℤ_right_comm (pn *ℤ qd) td rd

pub difference_of-exact : (p q r : Number) → Some r ≡ difference_of p q → IsFraction r (p.num *ℤ q.den -ℤ q.num *ℤ p.den) (p.den *ℤ q.den)
unfolding difference_of
difference_of-exact p q r e =
    sum_of-exact p (negation_of q) r e ∙ ap (λ x. (p.num *ℤ q.den +ℤ x) *ℤ r.den) (neg-*ℤ q.num p.den)

pub difference_of-is : (p q n : Number) → n ≡ negation_of q → sum_of p n ≡ difference_of p q
unfolding difference_of
difference_of-is p q n e = ap (sum_of p) e

-- ---- where there is a result

pub within-and : {A : Type 0} (z : ℤ) (f : ℤ → Option A) (rest : Bool) → (in_range z ≡ true → is_some (f z) ≡ rest) → is_some (within z >>= f) ≡ (in_range z && rest)
within-and z f rest h = by (in_range z) refl
  where
    by : (t : Bool) → in_range z ≡ t → is_some ((if t then Some z else None) >>= f) ≡ (t && rest)
    by true e = h e
    by false e = refl

in_range-same : (a b : ℤ) → unsigned_abs a ≡ unsigned_abs b → in_range a ≡ in_range b
in_range-same a b e = ap (λ x. nat_lt x (2 ^ 127)) e

number-some : (num den : ℤ) → IsReduced num den → is_some (number num den) ≡ true
number-some num den r = ap is_some (sym (number-of (record { num = num; den = den; reduced = r })))

pub lowest-fits : (n d : ℤ) → d ≢ pos 0 → is_some (lowest n d) ≡ list_all in_range (lowest_integers n d)
unfolding lowest
lowest-fits n d h =
    let g = gcd (unsigned_abs n) (unsigned_abs d) in
    let a = signed (signs_differ n d) (unsigned_abs n / g) in
    let b = pos (unsigned_abs d / g) in
    let num : in_range a ≡ in_range (int_div n (pos g)) = in_range-same a (int_div n (pos g)) (unsigned_abs-signed (signs_differ n d) (unsigned_abs n / g) ∙ sym (unsigned_abs-over n g)) in
    let den : in_range b ≡ in_range (int_div d (pos g)) = in_range-same b (int_div d (pos g)) (sym (unsigned_abs-over d g)) in
    within-and a (λ x. within b >>= (λ y. number x y)) (in_range b && true) (λ _. within-and b (λ y. number a y) true (λ _. number-some a b (lowest-IsReduced n d h))) ∙ (λ i. num i && (den i && true))

over-in_range : (z : ℤ) (g : ℕ) → in_range z ≡ true → in_range (int_div z (pos g)) ≡ true
over-in_range z g h =
    let below : unsigned_abs z < 2 ^ 127 = ltb_lt h in
    let less : unsigned_abs (int_div z (pos g)) ≤ unsigned_abs z = subst (λ x. x ≤ unsigned_abs z) (sym (unsigned_abs-over z g)) (div-le_self (unsigned_abs z) g) in
    lt_ltb (omega arith)

lowest-some : (n d : ℤ) → in_range n ≡ true → in_range d ≡ true → d ≢ pos 0 → is_some (lowest n d) ≡ true
lowest-some n d e f h =
    let g = gcd (unsigned_abs n) (unsigned_abs d) in
    lowest-fits n d h ∙ (λ i. over-in_range n g e i && (over-in_range d g f i && true))

pub sum_of-fits : (p q : Number) → is_some (sum_of p q) ≡ list_all in_range (sum_integers p q)
unfolding sum_of
sum_of-fits p q =
    let g = pos (gcd (unsigned_abs p.den) (unsigned_abs q.den)) in
    let l = p.num *ℤ int_div q.den g in
    let r = q.num *ℤ int_div p.den g in
    let d = p.den *ℤ int_div q.den g in
    within-and l (λ left. within r >>= (λ right. within (left +ℤ right) >>= (λ num. within d >>= (λ den. lowest num den)))) (in_range r && (in_range (l +ℤ r) && (in_range d && true)))
    (λ _. within-and r (λ right. within (l +ℤ right) >>= (λ num. within d >>= (λ den. lowest num den))) (in_range (l +ℤ r) && (in_range d && true))
    (λ _. within-and (l +ℤ r) (λ num. within d >>= (λ den. lowest num den)) (in_range d && true)
    (λ e. within-and d (λ den. lowest (l +ℤ r) den) true (λ f. lowest-some (l +ℤ r) d e f (ne_from-pos d (sum-den_pos p q))))))

pub product_of-fits : (p q : Number) → is_some (product_of p q) ≡ list_all in_range (product_integers p q)
unfolding product_of
product_of-fits p q =
    let g = pos (gcd (unsigned_abs p.num) (unsigned_abs q.den)) in
    let h = pos (gcd (unsigned_abs q.num) (unsigned_abs p.den)) in
    let n = int_div p.num g *ℤ int_div q.num h in
    let d = int_div p.den h *ℤ int_div q.den g in
    within-and n (λ num. within d >>= (λ den. number num den)) (in_range d && true) (λ _. within-and d (λ den. number n den) true (λ _. number-some n d (product-IsReduced p q n d refl refl)))

pub ok_as_computed : {E : Type 0} (r : Result Number E) (o : Option Number) (b : Bool) → is_some o ≡ b → result_ok r ≡ o → is_ok r ≡ b
ok_as_computed r o b e f = is_ok-result_ok r ∙ ap is_some f ∙ e
  where
    is_ok-result_ok : {E : Type 0} (r : Result Number E) → is_ok r ≡ is_some (result_ok r)
    is_ok-result_ok (Ok q) = refl
    is_ok-result_ok (Err x) = refl

abs-entry : (a b : ℤ) (g h : ℕ) → unsigned_abs (int_div a (pos g) *ℤ int_div b (pos h)) ≡ unsigned_abs a / g * (unsigned_abs b / h)
abs-entry a b g h = unsigned_abs-mul (int_div a (pos g)) (int_div b (pos h)) ∙ (λ i. unsigned_abs-over a g i * unsigned_abs-over b h i)

-- a number turned over has its two sizes the other way round
turned-sizes : (q t : Number) → Some t ≡ lowest q.den q.num → (unsigned_abs t.num ≡ unsigned_abs q.den) × (unsigned_abs t.den ≡ unsigned_abs q.num)
unfolding lowest
turned-sizes q t e =
    let n = q.den in
    let d = q.num in
    let g = gcd (unsigned_abs n) (unsigned_abs d) in
    let one : g ≡ 1 = gcd_comm (unsigned_abs n) (unsigned_abs d) ∙ q.reduced.lowest in
    let f = λ (num den : ℤ). number num den in
    let a = bind-some (within (signed (signs_differ n d) (unsigned_abs n / g))) (λ num. within (pos (unsigned_abs d / g)) >>= f num) t e in
    let b = bind-some (within (pos (unsigned_abs d / g))) (f a.0) t a.2 in
    let p = number-parts t a.0 b.0 b.2 in (
      ap unsigned_abs (p.0 ∙ (within-some a.0 (signed (signs_differ n d) (unsigned_abs n / g)) a.1).0) ∙ unsigned_abs-signed (signs_differ n d) (unsigned_abs n / g) ∙ ap (λ x. unsigned_abs n / x) one ∙ div-one (unsigned_abs n),
      ap unsigned_abs (p.1 ∙ (within-some b.0 (pos (unsigned_abs d / g)) b.1).0) ∙ ap (λ x. unsigned_abs d / x) one ∙ div-one (unsigned_abs d),
    )

pub quotient_of-fits : (p q t : Number) → Some t ≡ lowest q.den q.num → is_some (quotient_of p q) ≡ list_all in_range (quotient_integers p q)
unfolding quotient_of
quotient_of-fits p q t e =
    let s = turned-sizes q t e in
    let pn = unsigned_abs p.num in
    let pd = unsigned_abs p.den in
    let tn = unsigned_abs t.num in
    let td = unsigned_abs t.den in
    let qn = unsigned_abs q.num in
    let qd = unsigned_abs q.den in
    let num : unsigned_abs (int_div p.num (pos (gcd pn td)) *ℤ int_div t.num (pos (gcd tn pd))) ≡ unsigned_abs (int_div p.num (pos (gcd pn qn)) *ℤ int_div q.den (pos (gcd qd pd))) =
    abs-entry p.num t.num (gcd pn td) (gcd tn pd) ∙ (λ i. pn / gcd pn (s.1 i) * (s.0 i / gcd (s.0 i) pd)) ∙ sym (abs-entry p.num q.den (gcd pn qn) (gcd qd pd)) in
    let den : unsigned_abs (int_div p.den (pos (gcd tn pd)) *ℤ int_div t.den (pos (gcd pn td))) ≡ unsigned_abs (int_div p.den (pos (gcd qd pd)) *ℤ int_div q.num (pos (gcd pn qn))) =
    abs-entry p.den t.den (gcd tn pd) (gcd pn td) ∙ (λ i. pd / gcd (s.0 i) pd * (s.1 i / gcd pn (s.1 i))) ∙ sym (abs-entry p.den q.num (gcd qd pd) (gcd pn qn)) in
    ap (λ o. is_some (o >>= product_of p)) (sym e) ∙ product_of-fits p t ∙ (λ i. nat_lt (num i) (2 ^ 127) && (nat_lt (den i) (2 ^ 127) && true))

pub turned-some : (q : Number) → InRange q.num → InRange q.den → q.num ≢ pos 0 → None ≡ lowest q.den q.num → ⊥
turned-some q n d h e =
    let some : is_some (lowest q.den q.num) ≡ true = lowest-some q.den q.num (lt_ltb d) (lt_ltb n) h in
    let none : false ≡ is_some (lowest q.den q.num) = ap is_some e in
    cc

pub quotient_of-is : (p q t : Number) → Some t ≡ lowest q.den q.num → product_of p t ≡ quotient_of p q
unfolding quotient_of
quotient_of-is p q t e = ap (λ o. o >>= product_of p) e
