-- Entries and odd clauses, as lists are made of them.
use Rattle.std.proofs.Common.{◌≡◌, ◌∙◌, ◌∷◌, ℕ, zero, suc, ◌+◌, ◌<◌, Bool, true, false, ◌||◌, nat_eq, nat_lt, List, [], map, Some, slice_get, refl, ap, sym, subst, inl, inr, arith}
use Rattle.std.specs.List.{list_any, list_all}
use Rattle.std.proofs.lemmas.Bool.{cases_Bool, false≢true, and_from, or_left, or_right, cond-true, cond-false}
use Rattle.std.proofs.lemmas.Bool.Decides.{Decides-eqb, Decides-ltb}
use Rattle.scasp_syntax.specs.Same.{same_pred}
use Rattle.scasp_syntax.specs.WellFormed.{ascends}
use Rattle.scasp_syntax.specs.declared.atom.Pred.{Pred}
use Rattle.scasp_syntax.specs.declared.clause.Clause.{Clause}
use Rattle.scasp_graph.specs.Map.{entry_of}
use Rattle.scasp_graph.specs.Numbering.{place_in}
use Rattle.scasp_graph.specs.Inside.Places.{entry_at, entries_from, is_odd_body, odd_from}
use Rattle.scasp_graph.specs.RightMap.{pred_in}
use Rattle.scasp_graph.specs.declared.components.Member.{Member}
use Rattle.scasp_graph.proofs.NumberingLemmas.{among}
use Rattle.scasp_graph.proofs.PredLemmas.{pred_is, pred_same}

pub entries-preds : (ms : List Member) (ls : List ℕ) (odd : List Bool) (k : ℕ) (ps : List Pred) → map pred_in (entries_from ms ls odd k ps) ≡ ps
entries-preds ms ls odd k [] = refl
entries-preds ms ls odd k (p ∷ ps) = ap (λ z. p ∷ z) (entries-preds ms ls odd (k + 1) ps)

-- the entry of a predicate of the list is made by its place
pub entry-among : (ms : List Member) (ls : List ℕ) (odd : List Bool) (k : ℕ) (ps : List Pred) (p : Pred) → among ps p ≡ true → entry_of (entries_from ms ls odd k ps) p ≡ entry_at ms ls odd (k + place_in ps p) p
entry-among ms ls odd k [] p h = absurd (false≢true h)
entry-among ms ls odd k (x ∷ ps) p h =
    elim (cases_Bool (same_pred p x)) [
      | inl s ↦
          (let e : p ≡ x = pred_is p x s in
          let z : k + place_in (x ∷ ps) p ≡ k = let c = cond-true (same_pred p x) 0 (place_in ps p + 1) s in omega (arith, c) in
          cond-true (same_pred p x) (entry_at ms ls odd k x) (entry_of (entries_from ms ls odd (k + 1) ps) p) s
          ∙ ap (entry_at ms ls odd k) (sym e) ∙ ap (λ n. entry_at ms ls odd n p) (sym z))
      | inr s ↦
          (let rest : among ps p ≡ true = sym (ap (λ z. z || among ps p) s) ∙ h in
          let z : (k + 1) + place_in ps p ≡ k + place_in (x ∷ ps) p = let c = cond-false (same_pred p x) 0 (place_in ps p + 1) s in omega (arith, c) in
          cond-false (same_pred p x) (entry_at ms ls odd k x) (entry_of (entries_from ms ls odd (k + 1) ps) p) s
          ∙ entry-among ms ls odd (k + 1) ps p rest ∙ ap (λ n. entry_at ms ls odd n p) z)
    ]

-- that of another predicate has level 0 and `+`
pub entry-lacking : (ms : List Member) (ls : List ℕ) (odd : List Bool) (k : ℕ) (ps : List Pred) (p : Pred) → among ps p ≡ false → entry_of (entries_from ms ls odd k ps) p ≡ record { pred = p; level = 0; plus = true }
entry-lacking ms ls odd k [] p h = refl
entry-lacking ms ls odd k (x ∷ ps) p h =
    elim (cases_Bool (same_pred p x)) [
      | inl s ↦ absurd (false≢true (sym h ∙ or_left (same_pred p x) (among ps p) s))
      | inr s ↦
          cond-false (same_pred p x) (entry_at ms ls odd k x) (entry_of (entries_from ms ls odd (k + 1) ps) p) s
          ∙ entry-lacking ms ls odd (k + 1) ps p (sym (ap (λ z. z || among ps p) s) ∙ h)
    ]

-- a predicate of the list that passes the test
pub any-pred : (f : Pred → Bool) (xs : List Pred) → list_any f xs ≡ true → (q : Pred) × ((among xs q ≡ true) × (f q ≡ true))
any-pred f [] h = absurd (false≢true h)
any-pred f (x ∷ xs) h =
    elim (cases_Bool (f x)) [
      | inl t ↦ (x, (or_left (same_pred x x) (among xs x) (pred_same x), t))
      | inr n ↦
          (let r = any-pred f xs (sym (ap (λ z. z || list_any f xs) n) ∙ h) in
          (r.0, (or_right (same_pred r.0 x) (among xs r.0) r.1.0, r.1.1)))
    ]

pub any-from : (f : Pred → Bool) (xs : List Pred) (q : Pred) → among xs q ≡ true → f q ≡ true → list_any f xs ≡ true
any-from f [] q h t = absurd (false≢true h)
any-from f (x ∷ xs) q h t =
    elim (cases_Bool (same_pred q x)) [
      | inl s ↦ or_left (f x) (list_any f xs) (ap f (sym (pred_is q x s)) ∙ t)
      | inr s ↦ or_right (f x) (list_any f xs) (any-from f xs q (sym (ap (λ z. z || among xs q) s) ∙ h) t)
    ]

module _ (preds : List Pred) (ms : List Member) (odd : List Bool) where
  abbrev odd_clause : Clause → Bool
  odd_clause c = is_odd_body preds ms odd c.head c.body

  -- the numbers of odd clauses are those of the list
  pub odd-found : (n k : ℕ) (cs : List Clause) → list_any (nat_eq k) (odd_from preds ms odd n cs) ≡ true → (i : ℕ) × ((c : Clause) × ((k ≡ n + i) × ((slice_get cs i ≡ Some c) × (is_odd_body preds ms odd c.head c.body ≡ true))))
  odd-found n k [] h = absurd (false≢true h)
  odd-found n k (c ∷ cs) h = by (is_odd_body preds ms odd c.head c.body) refl (odd-found (n + 1) k cs)
    where
      later : ((i : ℕ) × ((d : Clause) × ((k ≡ (n + 1) + i) × ((slice_get cs i ≡ Some d) × (is_odd_body preds ms odd d.head d.body ≡ true))))) → (i : ℕ) × ((d : Clause) × ((k ≡ n + i) × ((slice_get (c ∷ cs) i ≡ Some d) × (is_odd_body preds ms odd d.head d.body ≡ true))))
      later r = let e = r.1.1.0 in (suc r.0, (r.1.0, (omega (arith, e), (r.1.1.1.0, r.1.1.1.1))))

      by : (b : Bool) → is_odd_body preds ms odd c.head c.body ≡ b → (list_any (nat_eq k) (odd_from preds ms odd (n + 1) cs) ≡ true → (i : ℕ) × ((d : Clause) × ((k ≡ (n + 1) + i) × ((slice_get cs i ≡ Some d) × (is_odd_body preds ms odd d.head d.body ≡ true))))) → (i : ℕ) × ((d : Clause) × ((k ≡ n + i) × ((slice_get (c ∷ cs) i ≡ Some d) × (is_odd_body preds ms odd d.head d.body ≡ true))))
      by true e r =
          let m : list_any (nat_eq k) (n ∷ odd_from preds ms odd (n + 1) cs) ≡ true =
          sym (ap (list_any (nat_eq k)) (cond-true (is_odd_body preds ms odd c.head c.body) (n ∷ odd_from preds ms odd (n + 1) cs) (odd_from preds ms odd (n + 1) cs) e)) ∙ h in
          elim (cases_Bool (nat_eq k n)) [
            | inl s ↦ (let q = (Decides-eqb k n).0 s in (0, (c, (omega (arith, q), (refl, e)))))
            | inr s ↦ later (r (sym (ap (λ z. z || list_any (nat_eq k) (odd_from preds ms odd (n + 1) cs)) s) ∙ m))
          ]
      by false e r =
          later (r (sym (ap (list_any (nat_eq k)) (cond-false (is_odd_body preds ms odd c.head c.body) (n ∷ odd_from preds ms odd (n + 1) cs) (odd_from preds ms odd (n + 1) cs) e)) ∙ h))

  pub odd-listed : (n i : ℕ) (c : Clause) (cs : List Clause) → slice_get cs i ≡ Some c → is_odd_body preds ms odd c.head c.body ≡ true → list_any (nat_eq (n + i)) (odd_from preds ms odd n cs) ≡ true
  odd-listed n i c [] s o = cc
  odd-listed n zero c (x ∷ cs) s o =
      let e : x ≡ c = cc in
      let P : Clause → Type 0 = λ z. is_odd_body preds ms odd z.head z.body ≡ true in
      let z : n + 0 ≡ n = omega arith in
      ap (list_any (nat_eq (n + 0))) (cond-true (is_odd_body preds ms odd x.head x.body) (n ∷ odd_from preds ms odd (n + 1) cs) (odd_from preds ms odd (n + 1) cs) (subst P (sym e) o))
      ∙ or_left (nat_eq (n + 0) n) (list_any (nat_eq (n + 0)) (odd_from preds ms odd (n + 1) cs)) ((Decides-eqb (n + 0) n).1 z)
  odd-listed n (suc i) c (x ∷ cs) s o =
      let z : (n + 1) + i ≡ n + suc i = omega arith in
      let r : list_any (nat_eq (n + suc i)) (odd_from preds ms odd (n + 1) cs) ≡ true =
      ap (λ k. list_any (nat_eq k) (odd_from preds ms odd (n + 1) cs)) (sym z) ∙ odd-listed (n + 1) i c cs s o in
      by (is_odd_body preds ms odd x.head x.body) refl r
    where
      by : (b : Bool) → is_odd_body preds ms odd x.head x.body ≡ b → list_any (nat_eq (n + suc i)) (odd_from preds ms odd (n + 1) cs) ≡ true → list_any (nat_eq (n + suc i)) (odd_from preds ms odd n (x ∷ cs)) ≡ true
      by true e r =
          ap (list_any (nat_eq (n + suc i))) (cond-true (is_odd_body preds ms odd x.head x.body) (n ∷ odd_from preds ms odd (n + 1) cs) (odd_from preds ms odd (n + 1) cs) e)
          ∙ or_right (nat_eq (n + suc i) n) (list_any (nat_eq (n + suc i)) (odd_from preds ms odd (n + 1) cs)) r
      by false e r =
          ap (list_any (nat_eq (n + suc i))) (cond-false (is_odd_body preds ms odd x.head x.body) (n ∷ odd_from preds ms odd (n + 1) cs) (odd_from preds ms odd (n + 1) cs) e) ∙ r

  above : (m n : ℕ) (cs : List Clause) → m < n → list_all (nat_lt m) (odd_from preds ms odd n cs) ≡ true
  above m n [] h = refl
  above m n (c ∷ cs) h = by (is_odd_body preds ms odd c.head c.body) refl (above m (n + 1) cs (omega (arith, h)))
    where
      by : (b : Bool) → is_odd_body preds ms odd c.head c.body ≡ b → list_all (nat_lt m) (odd_from preds ms odd (n + 1) cs) ≡ true → list_all (nat_lt m) (odd_from preds ms odd n (c ∷ cs)) ≡ true
      by true e r =
          ap (list_all (nat_lt m)) (cond-true (is_odd_body preds ms odd c.head c.body) (n ∷ odd_from preds ms odd (n + 1) cs) (odd_from preds ms odd (n + 1) cs) e)
          ∙ and_from (nat_lt m n) (list_all (nat_lt m) (odd_from preds ms odd (n + 1) cs)) ((Decides-ltb m n).1 h) r
      by false e r =
          ap (list_all (nat_lt m)) (cond-false (is_odd_body preds ms odd c.head c.body) (n ∷ odd_from preds ms odd (n + 1) cs) (odd_from preds ms odd (n + 1) cs) e) ∙ r

  pub odd-ascends : (n : ℕ) (cs : List Clause) → ascends (odd_from preds ms odd n cs) ≡ true
  odd-ascends n [] = refl
  odd-ascends n (c ∷ cs) = by (is_odd_body preds ms odd c.head c.body) refl (odd-ascends (n + 1) cs)
    where
      by : (b : Bool) → is_odd_body preds ms odd c.head c.body ≡ b → ascends (odd_from preds ms odd (n + 1) cs) ≡ true → ascends (odd_from preds ms odd n (c ∷ cs)) ≡ true
      by true e r =
          ap ascends (cond-true (is_odd_body preds ms odd c.head c.body) (n ∷ odd_from preds ms odd (n + 1) cs) (odd_from preds ms odd (n + 1) cs) e)
          ∙ and_from (list_all (nat_lt n) (odd_from preds ms odd (n + 1) cs)) (ascends (odd_from preds ms odd (n + 1) cs)) (above n (n + 1) cs (omega arith)) r
      by false e r =
          ap ascends (cond-false (is_odd_body preds ms odd c.head c.body) (n ∷ odd_from preds ms odd (n + 1) cs) (odd_from preds ms odd (n + 1) cs) e) ∙ r
