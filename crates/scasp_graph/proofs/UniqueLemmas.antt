-- A program has one list of odd rules, and its map one level for each predicate.
use Rattle.std.proofs.Common.{◌≡◌, ◌∙◌, ◌∷◌, ℕ, zero, suc, ◌+◌, ◌<◌, ◌≤◌, Bool, true, false, ◌||◌, not, nat_eq, nat_lt, map, List, [], refl, ap, sym, subst, inl, inr, arith}
use Rattle.std.specs.List.{list_any, list_all}
use Rattle.std.proofs.lemmas.Bool.{cases_Bool, true≢false, false≢true, and_parts, or_left, or_right, cond-true, cond-false, not-true}
use Rattle.std.proofs.lemmas.Bool.Decides.{Decides-eqb, Decides-ltb}
use Rattle.scasp_syntax.specs.Programs.{predicates}
use Rattle.scasp_syntax.specs.Same.{same_pred}
use Rattle.scasp_syntax.specs.WellFormed.{ascends}
use Rattle.scasp_syntax.specs.declared.atom.Pred.{Pred}
use Rattle.scasp_syntax.specs.declared.predicate_map.PredMap.{PredMap}
use Rattle.scasp_syntax.specs.declared.program.Program.{Program}
use Rattle.scasp_graph.specs.Analyses.{IsAnalysis}
use Rattle.scasp_graph.specs.Map.{entry_of}
use Rattle.scasp_graph.specs.Numbering.{place_in}
use Rattle.scasp_graph.specs.RightMap.{pred_in, level_of, plus_of, comes_before, Together, IsFirst, IsBelow, IsRightMap}
use Rattle.scasp_graph.specs.Walks.{Walk, stays, goes, Reaches, Depends}
use Rattle.scasp_graph.specs.declared.analysis.Analysis.{Analysis}
use Rattle.scasp_graph.proofs.AnalysisLemmas.{known-distinct}
use Rattle.scasp_graph.proofs.NumberingLemmas.{among, are_distinct}
use Rattle.scasp_graph.proofs.PredLemmas.{pred_is, pred_same}
use Rattle.scasp_graph.proofs.WalkLemmas.{differ, joined, edge-walk, reaches-trans}

-- what stands in a list of numbers is not below all of it
not-below : (x y : ℕ) (ys : List ℕ) → list_all (nat_lt x) ys ≡ true → list_any (nat_eq y) ys ≡ true → x < y
not-below x y [] a h = absurd (false≢true h)
not-below x y (z ∷ zs) a h =
    let p = and_parts (nat_lt x z) (list_all (nat_lt x) zs) a in
    elim (cases_Bool (nat_eq y z)) [
      | inl e ↦ (let q = (Decides-eqb y z).0 e in let l = (Decides-ltb x z).0 p.0 in omega (arith, q, l))
      | inr e ↦ not-below x y zs p.1 (sym (ap (λ b. b || list_any (nat_eq y) zs) e) ∙ h)
    ]

head-in : (x : ℕ) (xs : List ℕ) → list_any (nat_eq x) (x ∷ xs) ≡ true
head-in x xs = or_left (nat_eq x x) (list_any (nat_eq x) xs) ((Decides-eqb x x).1 refl)

-- ascending lists with the same numbers are equal
same-numbers : (xs ys : List ℕ) → ascends xs ≡ true → ascends ys ≡ true → ((k : ℕ) → list_any (nat_eq k) xs ≡ true → list_any (nat_eq k) ys ≡ true) → ((k : ℕ) → list_any (nat_eq k) ys ≡ true → list_any (nat_eq k) xs ≡ true) → xs ≡ ys
same-numbers [] [] a b f g = refl
same-numbers [] (y ∷ ys) a b f g = absurd (false≢true (g y (head-in y ys)))
same-numbers (x ∷ xs) [] a b f g = absurd (false≢true (f x (head-in x xs)))
same-numbers (x ∷ xs) (y ∷ ys) a b f g =
    let p = and_parts (list_all (nat_lt x) xs) (ascends xs) a in
    let q = and_parts (list_all (nat_lt y) ys) (ascends ys) b in
    let e : x ≡ y = heads p.0 q.0 in
    let rest = same-numbers xs ys p.1 q.1 (λ k h. later x y xs ys p.0 e f k h) (λ k h. later y x ys xs q.0 (sym e) g k h) in
    ap (λ z. z ∷ xs) e ∙ ap (λ z. y ∷ z) rest
  where
    heads : list_all (nat_lt x) xs ≡ true → list_all (nat_lt y) ys ≡ true → x ≡ y
    heads ax ay =
        elim (cases_Bool (nat_eq x y)) [
          | inl e ↦ (Decides-eqb x y).0 e
          | inr e ↦
              elim (cases_Bool (nat_eq y x)) [
                | inl d ↦ sym ((Decides-eqb y x).0 d)
                | inr d ↦
                    (let in-ys : list_any (nat_eq x) ys ≡ true = sym (ap (λ z. z || list_any (nat_eq x) ys) e) ∙ f x (head-in x xs) in
                    let in-xs : list_any (nat_eq y) xs ≡ true = sym (ap (λ z. z || list_any (nat_eq y) xs) d) ∙ g y (head-in y ys) in
                    let l = not-below y x ys ay in-ys in
                    let m = not-below x y xs ax in-xs in
                    absurd (omega (arith, l, m)))
              ]
        ]

    later : (u v : ℕ) (us vs : List ℕ) → list_all (nat_lt u) us ≡ true → u ≡ v → ((k : ℕ) → list_any (nat_eq k) (u ∷ us) ≡ true → list_any (nat_eq k) (v ∷ vs) ≡ true) → (k : ℕ) → list_any (nat_eq k) us ≡ true → list_any (nat_eq k) vs ≡ true
    later u v us vs au e h k m =
        let l = not-below u k us au m in
        let t = h k (or_right (nat_eq k u) (list_any (nat_eq k) us) m) in
        elim (cases_Bool (nat_eq k v)) [
          | inl c ↦ (let q = (Decides-eqb k v).0 c in absurd (omega (arith, l, e, q)))
          | inr c ↦ sym (ap (λ z. z || list_any (nat_eq k) vs) c) ∙ t
        ]

pub odd-unique : (p : Program) (a b : Analysis) → IsAnalysis p a → IsAnalysis p b → a.odd_rules ≡ b.odd_rules
odd-unique p a b x y =
    same-numbers a.odd_rules b.odd_rules x.odd.ascending y.odd.ascending
    (λ k h. (y.odd.exactly k).1 ((x.odd.exactly k).0 h))
    (λ k h. (x.odd.exactly k).1 ((y.odd.exactly k).0 h))

-- a level never rises along a walk
falling : (program : Program) (entries : List PredMap) → IsRightMap program entries → {p q : Pred} {b : Bool} → Walk (Depends program) p q b → level_of entries q ≤ level_of entries p
falling program entries r (stays p) = omega arith
falling program entries r (goes p m q c d e w) =
    let rest = falling program entries r w in
    elim (r.falls p m c e) [
      | inl s ↦ (let t = s.1 in omega (arith, rest, t))
      | inr l ↦ omega (arith, rest, l)
    ]

level-below : (program : Program) (xs ys : List PredMap) → IsRightMap program xs → IsRightMap program ys → (n : ℕ) (p : Pred) → level_of xs p ≡ n → level_of xs p ≤ level_of ys p
level-below program xs ys r s zero p h = omega (arith, h)
level-below program xs ys r s (suc n) p h =
    elim (r.least p) [
      | inl z ↦ absurd (omega (arith, z, h))
      | inr c ↦
          (let k = c.1.1 in
          let below = level-below program xs ys r s n c.0 (omega (arith, k, h)) in
          higher c.0 c.1.0 k below)
    ]
  where
    higher : (q : Pred) → IsBelow program p q → level_of xs p ≡ level_of xs q + 1 → level_of xs q ≤ level_of ys q → level_of xs p ≤ level_of ys p
    higher q i k below =
        let up = falling program ys s i.together.0.1 in
        elim (s.falls i.from q i.negated i.edge) [
          | inr l ↦ omega (arith, up, l, k, below)
          | inl back ↦
              (let x = falling program xs r back.0.1 in
              let y = falling program xs r i.together.1.1 in
              absurd (omega (arith, x, y, k)))
        ]

pub levels-unique : (p : Program) (a b : Analysis) → IsAnalysis p a → IsAnalysis p b → (q : Pred) → level_of a.map q ≡ level_of b.map q
levels-unique p a b x y q =
    let u = level-below p a.map b.map x.right y.right (level_of a.map q) q refl in
    let v = level-below p b.map a.map y.right x.right (level_of b.map q) q refl in
    omega (arith, u, v)

-- an odd closed walk through the one of two predicates makes one through the other
odd-through : (program : Program) (p m : Pred) (c d : Bool) → Walk (Depends program) p m c → Walk (Depends program) m p d → Walk (Depends program) m m true → Walk (Depends program) p p true
odd-through program p m c d there back w =
    elim (cases_Bool (differ c d)) [
      | inl e ↦ subst (Walk (Depends program) p p) e (joined there p d back)
      | inr e ↦ subst (Walk (Depends program) p p) (turned c d e) (joined there p (differ true d) (joined w p d back))
    ]
  where
    turned : (c d : Bool) → differ c d ≡ false → differ c (differ true d) ≡ true
    turned true true e = refl
    turned true false e = absurd (true≢false e)
    turned false true e = absurd (true≢false e)
    turned false false e = refl

-- where no odd closed walk is, signs that agree at a predicate agree along a walk within its component
agreeing : (program : Program) (xs ys : List PredMap) → IsRightMap program xs → IsRightMap program ys → {p q : Pred} {b : Bool} → Walk (Depends program) p q b → Reaches (Depends program) q p → (Walk (Depends program) p p true → ⊥) → plus_of xs p ≡ plus_of ys p → plus_of xs q ≡ plus_of ys q
agreeing program xs ys r s (stays p) back never h = h
agreeing program xs ys r s (goes p m q c d e w) back never h =
    let there : Walk (Depends program) p m c = edge-walk p m c e in
    let home : Reaches (Depends program) m p = reaches-trans (d, w) back in
    let here : plus_of xs m ≡ plus_of ys m = r.signs p m c e home never ∙ ap (differ c) h ∙ sym (s.signs p m c e home never) in
    agreeing program xs ys r s w (reaches-trans back (c, there)) (λ o. never (odd-through program p m c home.0 there home.1 o)) here

before-lower : (xs : List Pred) (q p : Pred) → comes_before xs q p ≡ true → place_in xs q < place_in xs p
before-lower [] q p h = absurd (false≢true h)
before-lower (x ∷ xs) q p h =
    elim (cases_Bool (same_pred p x)) [
      | inl e ↦ absurd (false≢true (sym (cond-true (same_pred p x) false (same_pred q x || comes_before xs q p) e) ∙ h))
      | inr e ↦
          (let k : (same_pred q x || comes_before xs q p) ≡ true = sym (cond-false (same_pred p x) false (same_pred q x || comes_before xs q p) e) ∙ h in
          let pp = cond-false (same_pred p x) 0 (place_in xs p + 1) e in
          elim (cases_Bool (same_pred q x)) [
            | inl f ↦ (let qq = cond-true (same_pred q x) 0 (place_in xs q + 1) f in omega (arith, pp, qq))
            | inr f ↦
                (let l = before-lower xs q p (sym (ap (λ z. z || comes_before xs q p) f) ∙ k) in
                let qq = cond-false (same_pred q x) 0 (place_in xs q + 1) f in
                omega (arith, pp, qq, l))
          ])
    ]

-- where signs differ at q, no predicate of its component is below a place
none-agrees : (program : Program) (xs ys : List PredMap) → IsRightMap program xs → IsRightMap program ys → (q : Pred) → (plus_of xs q ≡ plus_of ys q → ⊥) → (Walk (Depends program) q q true → ⊥) → (n : ℕ) (t : Pred) → place_in (predicates program) t < n → Together program t q → ⊥
none-agrees program xs ys r s q d never zero t l g = absurd (omega (arith, l))
none-agrees program xs ys r s q d never (suc n) t l g =
    let first : IsFirst program t = λ u b k.
    (let lower = before-lower (predicates program) u t b in
    none-agrees program xs ys r s q d never n u (omega (arith, lower, l)) (reaches-trans k.0 g.0, reaches-trans g.1 k.1)) in
    let here : plus_of xs t ≡ plus_of ys t = r.first t first ∙ sym (s.first t first) in
    d (agreeing program xs ys r s g.0.1 g.1 (λ o. never (odd-through program q t g.1.0 g.0.0 g.1.1 g.0.1 o)) here)

agree-or : (a b : Bool) → ((a ≡ b → ⊥) → ⊥) → a ≡ b
agree-or true true h = refl
agree-or true false h = absurd (h true≢false)
agree-or false true h = absurd (h false≢true)
agree-or false false h = refl

signs-unique : (program : Program) (xs ys : List PredMap) → IsRightMap program xs → IsRightMap program ys → (q : Pred) → plus_of xs q ≡ plus_of ys q
signs-unique program xs ys r s q =
    agree-or (plus_of xs q) (plus_of ys q)
    (λ d. none-agrees program xs ys r s q d (λ o. d (r.odd q o ∙ sym (s.odd q o))) (place_in (predicates program) q + 1) q (omega arith) ((false, stays q), (false, stays q)))

-- the entry of a predicate that the map lacks
lacks-entry : (zs : List PredMap) (q : Pred) → among (map pred_in zs) q ≡ false → entry_of zs q ≡ record { pred = q; level = 0; plus = true }
lacks-entry [] q n = refl
lacks-entry (z ∷ zs) q n =
    elim (cases_Bool (same_pred q z.pred)) [
      | inl t ↦ absurd (false≢true (sym n ∙ or_left (same_pred q z.pred) (among (map pred_in zs) q) t))
      | inr f ↦ cond-false (same_pred q z.pred) z (entry_of zs q) f ∙ lacks-entry zs q (sym (ap (λ b. b || among (map pred_in zs) q) f) ∙ n)
    ]

-- maps of the same distinct predicates with the same entries are equal
same-maps : (xs ys : List PredMap) → are_distinct (map pred_in xs) ≡ true → map pred_in xs ≡ map pred_in ys → ((q : Pred) → (level_of xs q ≡ level_of ys q) × (plus_of xs q ≡ plus_of ys q)) → xs ≡ ys
same-maps [] [] d e h = refl
same-maps [] (y ∷ ys) d e h = cc
same-maps (x ∷ xs) [] d e h = cc
same-maps (x ∷ xs) (y ∷ ys) d e h =
    let p = and_parts (not (among (map pred_in xs) x.pred)) (are_distinct (map pred_in xs)) d in
    let heads : x.pred ≡ y.pred = cc in
    let tails : map pred_in xs ≡ map pred_in ys = cc in
    let hx : entry_of (x ∷ xs) x.pred ≡ x = cond-true (same_pred x.pred x.pred) x (entry_of xs x.pred) (pred_same x.pred) in
    let hy : entry_of (y ∷ ys) x.pred ≡ y = ap (entry_of (y ∷ ys)) heads ∙ cond-true (same_pred y.pred y.pred) y (entry_of ys y.pred) (pred_same y.pred) in
    let l : x.level ≡ y.level = sym (ap (λ (m : PredMap). m.level) hx) ∙ (h x.pred).0 ∙ ap (λ (m : PredMap). m.level) hy in
    let s : x.plus ≡ y.plus = sym (ap (λ (m : PredMap). m.plus) hx) ∙ (h x.pred).1 ∙ ap (λ (m : PredMap). m.plus) hy in
    let first : x ≡ y = λ i. record { pred = heads i; level = l i; plus = s i } in
    ap (λ z. z ∷ xs) first ∙ ap (λ z. y ∷ z) (same-maps xs ys p.1 tails (λ q. rest q p.0 heads tails))
  where
    rest : (q : Pred) → not (among (map pred_in xs) x.pred) ≡ true → x.pred ≡ y.pred → map pred_in xs ≡ map pred_in ys → (level_of xs q ≡ level_of ys q) × (plus_of xs q ≡ plus_of ys q)
    rest q n heads tails =
        elim (cases_Bool (same_pred q x.pred)) [
          | inl t ↦
              (let e : q ≡ x.pred = pred_is q x.pred t in
              let nx : among (map pred_in xs) q ≡ false = ap (among (map pred_in xs)) e ∙ not-true (among (map pred_in xs) x.pred) n in
              let ny : among (map pred_in ys) q ≡ false = ap (λ z. among z q) (sym tails) ∙ nx in
              let u = lacks-entry xs q nx ∙ sym (lacks-entry ys q ny) in
              (ap (λ (m : PredMap). m.level) u, ap (λ (m : PredMap). m.plus) u))
          | inr f ↦
              (let fy : same_pred q y.pred ≡ false = ap (same_pred q) (sym heads) ∙ f in
              let ux : entry_of (x ∷ xs) q ≡ entry_of xs q = cond-false (same_pred q x.pred) x (entry_of xs q) f in
              let uy : entry_of (y ∷ ys) q ≡ entry_of ys q = cond-false (same_pred q y.pred) y (entry_of ys q) fy in (
                sym (ap (λ (m : PredMap). m.level) ux) ∙ (h q).0 ∙ ap (λ (m : PredMap). m.level) uy,
                sym (ap (λ (m : PredMap). m.plus) ux) ∙ (h q).1 ∙ ap (λ (m : PredMap). m.plus) uy,
              ))
        ]

pub maps-unique : (p : Program) (a b : Analysis) → IsAnalysis p a → IsAnalysis p b → a.map ≡ b.map
maps-unique p a b x y =
    same-maps a.map b.map (ap are_distinct x.right.listed ∙ known-distinct p (predicates p) refl) (x.right.listed ∙ sym y.right.listed)
    (λ q. (levels-unique p a b x y q, signs-unique p a.map b.map x.right y.right q))
