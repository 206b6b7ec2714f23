-- A row made of pairs is true exactly where their sum compares so.
use Rattle.std.proofs.Common.{◌≡◌, ◌↔◌, ℕ, ℤ, pos, ◌+ℤ◌, ◌*ℤ◌, ◌<ℤ◌, Some, List, [], ◌∷◌, ◌++◌, map, refl, sym, ap, subst, ◌∙◌, arith}
use Rattle.std.proofs.lemmas.Int.{ints}
use Rattle.std.proofs.Math.IntN.{*ℤ_comm}
use Rattle.scasp_list.proofs.EachLemmas.{Each-left, Each-right}
use Rattle.scasp_num.specs.declared.linear.Coeff.{Coeff}
use Rattle.scasp_num.specs.declared.linear.Op.{Op}
use Rattle.scasp_num.specs.declared.linear.RatPair.{RatPair}
use Rattle.scasp_num.specs.Number.{Number, IsFraction}
use Rattle.scasp_num.specs.Linear.{Linear, Compares}
use Rattle.scasp_num.specs.Sums.{normal_of, IsTimes, AreTimes, pair_sum, SumHolds}
use Rattle.scasp_num.specs.Values.{row_sum, Holds}
use Rattle.scasp_num.proofs.Integers.{*ℤ_assoc, *ℤ_shuffle, +ℤ-*ℤ, *ℤ-+ℤ}
use Rattle.scasp_num.proofs.Numbers.{times-pos}
use Rattle.scasp_num.proofs.Meaning.{compares-scaled}
use Rattle.scasp_num.proofs.Wholes.{normal_of-meets}
use Rattle.scasp_num.proofs.Valuations.{row_sum-pos, Holds-Meets, denominator-exists}

-- ---- some multiples of pairs and of a number are whole

abbrev scaled : ℤ → List Coeff → List Coeff
scaled n ks = map (λ k. record { x = k.x; c = n *ℤ k.c }) ks

IsTimes-scaled : (n l z : ℤ) (q : Number) → IsTimes l q z → IsTimes (n *ℤ l) q (n *ℤ z)
IsTimes-scaled n l z q e =
    *ℤ_assoc n z q.den ∙ ap (λ y. n *ℤ y) e ∙ sym (*ℤ_assoc n q.num l) ∙ ap (λ y. y *ℤ l) (*ℤ_comm n q.num) ∙ *ℤ_assoc q.num n l

AreTimes-scaled : (n l : ℤ) (ps : List RatPair) (ks : List Coeff) → AreTimes l ps ks → AreTimes (n *ℤ l) ps (scaled n ks)
AreTimes-scaled n l [] [] a = tt
AreTimes-scaled n l [] (k ∷ ks) a = absurd a
AreTimes-scaled n l (p ∷ ps) [] a = absurd a
AreTimes-scaled n l (p ∷ ps) (k ∷ ks) a = (a.0, IsTimes-scaled n l k.c p.value a.1, AreTimes-scaled n l ps ks a.2)

record Multiples (ps : List RatPair) (q : Number) : Type 0 where
  l : ℤ
  above : pos 0 <ℤ l
  terms : List Coeff
  last : ℤ
  are : AreTimes l ps terms
  is : IsTimes l q last

multiples : (ps : List RatPair) (q : Number) → Multiples ps q
multiples [] q = record { l = q.den; above = q.reduced.positive; terms = []; last = q.num; are = tt; is = refl }
multiples (p ∷ ps) q =
    let r = multiples ps q in
    let d = p.value.den in
    record {
      l = d *ℤ r.l;
      above = times-pos d r.l p.value.reduced.positive r.above;
      terms = record { x = p.x; c = p.value.num *ℤ r.l } ∷ scaled d r.terms;
      last = d *ℤ r.last;
      are = (refl, *ℤ_assoc p.value.num r.l d ∙ ap (λ y. p.value.num *ℤ y) (*ℤ_comm r.l d), AreTimes-scaled d r.l ps r.terms r.are);
      is = IsTimes-scaled d r.l r.last q r.is;
    }

-- ---- their sums

pair_sum-pos : (v : ℕ → Number) (ps : List RatPair) → pos 0 <ℤ (pair_sum v ps).1
pair_sum-pos v [] = omega (arith, ints)
pair_sum-pos v (p ∷ ps) =
    times-pos (p.value.den *ℤ (v p.x).den) (pair_sum v ps).1 (times-pos p.value.den (v p.x).den p.value.reduced.positive (v p.x).reduced.positive) (pair_sum-pos v ps)

sums-times : (v : ℕ → Number) (l : ℤ) (ps : List RatPair) (ks : List Coeff) → AreTimes l ps ks → (row_sum v ks).0 *ℤ (pair_sum v ps).1 ≡ (l *ℤ (pair_sum v ps).0) *ℤ (row_sum v ks).1
sums-times v l [] [] t = omega (arith, ints)
sums-times v l [] (k ∷ ks) t = absurd t
sums-times v l (p ∷ ps) [] t = absurd t
sums-times v l (p ∷ ps) (k ∷ ks) t =
    let r = row_sum v ks in
    let s = pair_sum v ps in
    ap (λ y. (k.c *ℤ (v y).num *ℤ r.1 +ℤ r.0 *ℤ (v y).den) *ℤ ((p.value.den *ℤ (v p.x).den) *ℤ s.1)) t.0
    ∙ by k.c (v p.x).num (v p.x).den p.value.num p.value.den r.0 r.1 s.0 s.1 t.1 (sums-times v l ps ks t.2)
    ∙ ap (λ y. (l *ℤ ((p.value.num *ℤ (v p.x).num) *ℤ s.1 +ℤ s.0 *ℤ (p.value.den *ℤ (v p.x).den))) *ℤ ((v y).den *ℤ r.1)) (sym t.0)
  where
    by : (c qn qd pn pd a b n s : ℤ) → c *ℤ pd ≡ pn *ℤ l → a *ℤ s ≡ (l *ℤ n) *ℤ b
        → (c *ℤ qn *ℤ b +ℤ a *ℤ qd) *ℤ ((pd *ℤ qd) *ℤ s) ≡ (l *ℤ ((pn *ℤ qn) *ℤ s +ℤ n *ℤ (pd *ℤ qd))) *ℤ (qd *ℤ b)
    by c qn qd pn pd a b n s e f =
        let first : (c *ℤ qn *ℤ b) *ℤ ((pd *ℤ qd) *ℤ s) ≡ (l *ℤ ((pn *ℤ qn) *ℤ s)) *ℤ (qd *ℤ b) =
        *ℤ_shuffle (c *ℤ qn) b (pd *ℤ qd) s ∙ ap (λ y. y *ℤ (b *ℤ s)) (*ℤ_shuffle c qn pd qd ∙ ap (λ y. y *ℤ (qn *ℤ qd)) (e ∙ *ℤ_comm pn l) ∙ sym (*ℤ_assoc (l *ℤ pn) qn qd) ∙ ap (λ y. y *ℤ qd) (*ℤ_assoc l pn qn)) ∙ ap (λ y. ((l *ℤ (pn *ℤ qn)) *ℤ qd) *ℤ y) (*ℤ_comm b s) ∙ sym (*ℤ_shuffle (l *ℤ (pn *ℤ qn)) s qd b) ∙ ap (λ y. y *ℤ (qd *ℤ b)) (*ℤ_assoc l (pn *ℤ qn) s) in
        let second : (a *ℤ qd) *ℤ ((pd *ℤ qd) *ℤ s) ≡ (l *ℤ (n *ℤ (pd *ℤ qd))) *ℤ (qd *ℤ b) =
        ap (λ y. (a *ℤ qd) *ℤ y) (*ℤ_comm (pd *ℤ qd) s) ∙ *ℤ_shuffle a qd s (pd *ℤ qd) ∙ (λ i. f i *ℤ *ℤ_comm qd (pd *ℤ qd) i) ∙ *ℤ_shuffle (l *ℤ n) b (pd *ℤ qd) qd ∙ (λ i. *ℤ_assoc l n (pd *ℤ qd) i *ℤ *ℤ_comm b qd i) in
        +ℤ-*ℤ (c *ℤ qn *ℤ b) (a *ℤ qd) ((pd *ℤ qd) *ℤ s) ∙ (λ i. first i +ℤ second i) ∙ sym (+ℤ-*ℤ (l *ℤ ((pn *ℤ qn) *ℤ s)) (l *ℤ (n *ℤ (pd *ℤ qd))) (qd *ℤ b)) ∙ ap (λ y. y *ℤ (qd *ℤ b)) (sym (*ℤ-+ℤ l ((pn *ℤ qn) *ℤ s) (n *ℤ (pd *ℤ qd))))

-- the whole multiples compare as the pairs do
multiples-hold : (v : ℕ → Number) (ps : List RatPair) (q : Number) (op : Op) (w : Multiples ps q) → Holds v (record { coeffs = w.terms; constant = w.last; op = op }) ↔ SumHolds v ps q op
multiples-hold v ps q op w =
    let a = (row_sum v w.terms).0 in
    let b = (row_sum v w.terms).1 in
    let n = (pair_sum v ps).0 in
    let s = (pair_sum v ps).1 in
    let f = sums-times v w.l ps w.terms w.are in
    let first : a *ℤ (s *ℤ q.den) ≡ (n *ℤ q.den) *ℤ (w.l *ℤ b) =
    sym (*ℤ_assoc a s q.den) ∙ ap (λ y. y *ℤ q.den) f ∙ *ℤ_assoc (w.l *ℤ n) b q.den ∙ (λ i. *ℤ_comm w.l n i *ℤ *ℤ_comm b q.den i) ∙ *ℤ_shuffle n w.l q.den b in
    let second : (w.last *ℤ b) *ℤ (s *ℤ q.den) ≡ (q.num *ℤ s) *ℤ (w.l *ℤ b) =
    ap (λ y. (w.last *ℤ b) *ℤ y) (*ℤ_comm s q.den) ∙ *ℤ_shuffle w.last b q.den s ∙ (λ i. w.is i *ℤ *ℤ_comm b s i) ∙ *ℤ_shuffle q.num w.l s b in
    let all : (a +ℤ w.last *ℤ b) *ℤ (s *ℤ q.den) ≡ (n *ℤ q.den +ℤ q.num *ℤ s) *ℤ (w.l *ℤ b) =
    +ℤ-*ℤ a (w.last *ℤ b) (s *ℤ q.den) ∙ (λ i. first i +ℤ second i) ∙ sym (+ℤ-*ℤ (n *ℤ q.den) (q.num *ℤ s) (w.l *ℤ b)) in
    let x = compares-scaled op (a +ℤ w.last *ℤ b) (s *ℤ q.den) (times-pos s q.den (pair_sum-pos v ps) q.reduced.positive) in
    let y = compares-scaled op (n *ℤ q.den +ℤ q.num *ℤ s) (w.l *ℤ b) (times-pos w.l b w.above (row_sum-pos v w.terms)) in
    (λ h. y.1 (subst (Compares op) all (x.0 h)), λ h. x.1 (subst (Compares op) (sym all) (y.0 h)))

pub normal_of-holds : (pairs : List RatPair) (q : Number) (op : Op) (row : Linear) → Some row ≡ normal_of pairs q op → (v : ℕ → Number) → Holds v row ↔ SumHolds v pairs q op
normal_of-holds pairs q op row e v =
    let w = multiples pairs q in
    let c = denominator-exists v (row.coeffs ++ w.terms) in
    let m = c.0 in
    let d = c.1 in
    let P = λ (k : Coeff). IsFraction (v k.x) (m k.x) d in
    let a = Holds-Meets v m d row c.2 (Each-left P row.coeffs w.terms c.3) in
    let b = Holds-Meets v m d (record { coeffs = w.terms; constant = w.last; op = op }) c.2 (Each-right P row.coeffs w.terms c.3) in
    let n = normal_of-meets pairs q op row e m d w.l w.terms w.last w.above w.are w.is in
    let t = multiples-hold v pairs q op w in
    (λ h. t.0 (b.1 (n.0 (a.0 h))), λ h. a.1 (n.1 (b.0 (t.1 h))))
