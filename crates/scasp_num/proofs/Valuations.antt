-- Values with one common denominator, and the rows under any values.
use Rattle.std.proofs.Common.{◌≡◌, ◌↔◌, ℕ, Bool, true, false, ◌==◌, ℤ, pos, ◌+ℤ◌, ◌*ℤ◌, ◌<ℤ◌, unsigned_abs, int_div, Some, List, [], ◌∷◌, ◌++◌, sym, ap, subst, ◌∙◌, arith}
use Rattle.std.specs.Prelude.{if◌then◌else◌}
use Rattle.std.specs.Int.{◌∣◌}
use Rattle.std.proofs.lemmas.Int.{ints, unsigned_abs-mul}
use Rattle.std.proofs.Math.Nat.{dvd_trans, dvd-mul_left, dvd-mul_right}
use Rattle.std.proofs.Math.IntN.{*ℤ_comm, zero-*ℤ}
use Rattle.scasp_num.specs.declared.linear.Coeff.{Coeff}
use Rattle.scasp_num.specs.Number.{Number, IsFraction}
use Rattle.scasp_list.specs.Each.{Each}
use Rattle.scasp_list.proofs.EachLemmas.{Each-map, Each-left, Each-right}
use Rattle.scasp_num.specs.Linear.{Linear, Ascends, weighted, Compares, Meets, put_of, join_of, negation, replaced}
use Rattle.scasp_num.specs.Values.{row_sum, Holds, with_value, HaveDenominator}
use Rattle.scasp_num.proofs.Integers.{*ℤ_assoc, *ℤ_right_comm, +ℤ-*ℤ}
use Rattle.scasp_num.proofs.Numbers.{times-pos}
use Rattle.scasp_num.proofs.Exact.{over-times}
use Rattle.scasp_num.proofs.Meaning.{negation-meets, compares-scaled}
use Rattle.scasp_num.proofs.Puts.{put_of-meets}
use Rattle.scasp_num.proofs.Joins.{join_of-meets}
use Rattle.scasp_num.proofs.Wholes.{size-pos}

row_sum-times : (v : ℕ → Number) (m : ℕ → ℤ) (d : ℤ) (ks : List Coeff) → HaveDenominator v m d ks → weighted m ks *ℤ (row_sum v ks).1 ≡ (row_sum v ks).0 *ℤ d
row_sum-times v m d [] h = zero-*ℤ (pos 1) ∙ sym (zero-*ℤ d)
row_sum-times v m d (k ∷ ks) h = by k.c (m k.x) (v k.x).num (v k.x).den (weighted m ks) (row_sum v ks).0 (row_sum v ks).1 h.0 (row_sum-times v m d ks h.1)
  where
    by : (c x qn qd w r s : ℤ) → qn *ℤ d ≡ x *ℤ qd → w *ℤ s ≡ r *ℤ d → (c *ℤ x +ℤ w) *ℤ (qd *ℤ s) ≡ (c *ℤ qn *ℤ s +ℤ r *ℤ qd) *ℤ d
    by c x qn qd w r s e f =
        +ℤ-*ℤ (c *ℤ x) w (qd *ℤ s) ∙ (λ i. (sym (*ℤ_assoc (c *ℤ x) qd s) ∙ ap (λ y. y *ℤ s) (*ℤ_assoc c x qd ∙ ap (λ y. c *ℤ y) (sym e) ∙ sym (*ℤ_assoc c qn d)) ∙ *ℤ_right_comm (c *ℤ qn) d s) i +ℤ (ap (λ y. w *ℤ y) (*ℤ_comm qd s) ∙ sym (*ℤ_assoc w s qd) ∙ ap (λ y. y *ℤ qd) f ∙ *ℤ_right_comm r d qd) i) ∙ sym (+ℤ-*ℤ (c *ℤ qn *ℤ s) (r *ℤ qd) d)

pub row_sum-pos : (v : ℕ → Number) (ks : List Coeff) → pos 0 <ℤ (row_sum v ks).1
row_sum-pos v [] = omega (arith, ints)
row_sum-pos v (k ∷ ks) = times-pos (v k.x).den (row_sum v ks).1 (v k.x).reduced.positive (row_sum-pos v ks)

-- under values with one common denominator, a row's truth compares whole numbers
pub Holds-Meets : (v : ℕ → Number) (m : ℕ → ℤ) (d : ℤ) (r : Linear) → pos 0 <ℤ d → HaveDenominator v m d r.coeffs → Holds v r ↔ Meets m d r
Holds-Meets v m d r h e =
    let w = weighted m r.coeffs in
    let n = (row_sum v r.coeffs).0 in
    let s = (row_sum v r.coeffs).1 in
    let all : (w +ℤ r.constant *ℤ d) *ℤ s ≡ (n +ℤ r.constant *ℤ s) *ℤ d =
    +ℤ-*ℤ w (r.constant *ℤ d) s ∙ (λ i. row_sum-times v m d r.coeffs e i +ℤ *ℤ_right_comm r.constant d s i) ∙ sym (+ℤ-*ℤ n (r.constant *ℤ s) d) in
    let a = compares-scaled r.op (w +ℤ r.constant *ℤ d) s (row_sum-pos v r.coeffs) in
    let b = compares-scaled r.op (n +ℤ r.constant *ℤ s) d h in
    (λ x. a.1 (subst (λ y. Compares r.op y) (sym all) (b.0 x)), λ x. b.1 (subst (λ y. Compares r.op y) all (a.0 x)))

row_sum-dvd : (v : ℕ → Number) (ks : List Coeff) → Each (λ k. unsigned_abs (v k.x).den ∣ unsigned_abs (row_sum v ks).1) ks
row_sum-dvd v [] = tt
row_sum-dvd v (k ∷ ks) =
    let d = (v k.x).den in
    let s = (row_sum v ks).1 in
    let size = unsigned_abs-mul d s in (
      subst (λ x. unsigned_abs d ∣ x) (sym size) (dvd-mul_right (unsigned_abs d) (unsigned_abs s)),
      Each-map (λ j. unsigned_abs (v j.x).den ∣ unsigned_abs s) (λ j. unsigned_abs (v j.x).den ∣ unsigned_abs (d *ℤ s)) (λ j e. subst (λ x. unsigned_abs (v j.x).den ∣ x) (sym size) (dvd_trans (unsigned_abs (v j.x).den) e (dvd-mul_left (unsigned_abs s) (unsigned_abs d)))) ks (row_sum-dvd v ks),
    )

-- the numerators of the values over a common denominator
abbrev pub numerators : (ℕ → Number) → List Coeff → ℕ → ℤ
numerators v ks x = (v x).num *ℤ int_div (row_sum v ks).1 (pos (unsigned_abs (v x).den))

pub numerators-are : (v : ℕ → Number) (ks : List Coeff) → HaveDenominator v (numerators v ks) (row_sum v ks).1 ks
numerators-are v ks = Each-map (λ k. unsigned_abs (v k.x).den ∣ unsigned_abs (row_sum v ks).1) (λ k. IsFraction (v k.x) (numerators v ks k.x) (row_sum v ks).1) (λ k e. one (v k.x) (row_sum v ks).1 e) ks (row_sum-dvd v ks)
  where
    one : (q : Number) (s : ℤ) → unsigned_abs q.den ∣ unsigned_abs s → q.num *ℤ s ≡ (q.num *ℤ int_div s (pos (unsigned_abs q.den))) *ℤ q.den
    one q s e = ap (λ x. q.num *ℤ x) (sym (ap (λ x. int_div s (pos (unsigned_abs q.den)) *ℤ x) (sym (size-pos q.den q.reduced.positive)) ∙ over-times s (unsigned_abs q.den) e)) ∙ sym (*ℤ_assoc q.num (int_div s (pos (unsigned_abs q.den))) q.den)

-- some whole numbers and one denominator above 0 are the values of all these terms
pub denominator-exists : (v : ℕ → Number) (ks : List Coeff) → (m : ℕ → ℤ) × (d : ℤ) × (pos 0 <ℤ d) × HaveDenominator v m d ks
denominator-exists v ks = (numerators v ks, (row_sum v ks).1, row_sum-pos v ks, numerators-are v ks)

-- ---- the operations, under any values

pub negation-holds : (r row : Linear) → row ≡ negation r → (v : ℕ → Number) → Holds v row ↔ (¬ Holds v r)
negation-holds r row e v =
    let all = row.coeffs ++ r.coeffs in
    let c = denominator-exists v all in
    let a = Holds-Meets v c.0 c.1 row c.2 (Each-left (λ k. IsFraction (v k.x) (c.0 k.x) c.1) row.coeffs r.coeffs c.3) in
    let b = Holds-Meets v c.0 c.1 r c.2 (Each-right (λ k. IsFraction (v k.x) (c.0 k.x) c.1) row.coeffs r.coeffs c.3) in
    let n = negation-meets r row e c.0 c.1 in
    (λ x y. n.0 (a.0 x) (b.0 y), λ x. a.1 (n.1 (λ y. x (b.1 y))))

put-denominator : (v : ℕ → Number) (m : ℕ → ℤ) (d : ℤ) (x : ℕ) (q : Number) (ks : List Coeff) → HaveDenominator v m d ks → HaveDenominator (with_value v x q) (replaced (λ y. m y *ℤ q.den) x (q.num *ℤ d)) (d *ℤ q.den) ks
put-denominator v m d x q = Each-map (λ k. IsFraction (v k.x) (m k.x) d) (λ k. IsFraction (with_value v x q k.x) (replaced (λ y. m y *ℤ q.den) x (q.num *ℤ d) k.x) (d *ℤ q.den)) (λ k e. by (k.x == x) (v k.x) (m k.x) e)
  where
    by : (t : Bool) (p : Number) (n : ℤ) → IsFraction p n d → IsFraction (if t then q else p) (if t then q.num *ℤ d else n *ℤ q.den) (d *ℤ q.den)
    by true p n e = sym (*ℤ_assoc q.num d q.den)
    by false p n e = sym (*ℤ_assoc p.num d q.den) ∙ ap (λ y. y *ℤ q.den) e ∙ *ℤ_right_comm n p.den q.den

pub put_of-holds : (r row : Linear) (x : ℕ) (q : Number) → Ascends r.coeffs → Some row ≡ put_of r x q → (v : ℕ → Number) → Holds v row ↔ Holds (with_value v x q) r
put_of-holds r row x q asc e v =
    let all = row.coeffs ++ r.coeffs in
    let c = denominator-exists v all in
    let m = c.0 in
    let d = c.1 in
    let a = Holds-Meets v m d row c.2 (Each-left (λ k. IsFraction (v k.x) (m k.x) d) row.coeffs r.coeffs c.3) in
    let b = Holds-Meets (with_value v x q) (replaced (λ y. m y *ℤ q.den) x (q.num *ℤ d)) (d *ℤ q.den) r (times-pos d q.den c.2 q.reduced.positive) (put-denominator v m d x q r.coeffs (Each-right (λ k. IsFraction (v k.x) (m k.x) d) row.coeffs r.coeffs c.3)) in
    let n = put_of-meets r row x q asc e m d in
    (λ h. b.1 (n.0 (a.0 h)), λ h. a.1 (n.1 (b.0 h)))

join-denominator : (v : ℕ → Number) (m : ℕ → ℤ) (d : ℤ) (x y : ℕ) (ks : List Coeff) → IsFraction (v y) (m y) d → HaveDenominator v m d ks → HaveDenominator (with_value v x (v y)) (replaced m x (m y)) d ks
join-denominator v m d x y ks f = Each-map (λ k. IsFraction (v k.x) (m k.x) d) (λ k. IsFraction (with_value v x (v y) k.x) (replaced m x (m y) k.x) d) (λ k e. by (k.x == x) (v k.x) (m k.x) e) ks
  where
    by : (t : Bool) (p : Number) (n : ℤ) → IsFraction p n d → IsFraction (if t then v y else p) (if t then m y else n) d
    by true p n e = f
    by false p n e = e

pub join_of-holds : (r row : Linear) (x y : ℕ) → Ascends r.coeffs → Some row ≡ join_of r x y → (v : ℕ → Number) → Holds v row ↔ Holds (with_value v x (v y)) r
join_of-holds r row x y asc e v =
    let named : Coeff = record { x = y; c = pos 0 } in
    let c = denominator-exists v (named ∷ row.coeffs ++ r.coeffs) in
    let m = c.0 in
    let d = c.1 in
    let a = Holds-Meets v m d row c.2 (Each-left (λ k. IsFraction (v k.x) (m k.x) d) row.coeffs r.coeffs c.3.1) in
    let b = Holds-Meets (with_value v x (v y)) (replaced m x (m y)) d r c.2 (join-denominator v m d x y r.coeffs c.3.0 (Each-right (λ k. IsFraction (v k.x) (m k.x) d) row.coeffs r.coeffs c.3.1)) in
    let n = join_of-meets r row x y asc e m d in
    (λ h. b.1 (n.0 (a.0 h)), λ h. a.1 (n.1 (b.0 h)))
