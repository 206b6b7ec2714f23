-- The checks are found beside the ascending numbers of the odd rules.
use Rattle.std.proofs.Common.{◌≡◌, ◌∙◌, ◌∷◌, ◌++◌, append_assoc, ℕ, ◌+◌, ◌<◌, ◌≤◌, Bool, true, false, ◌||◌, cond, is_some, is_none, List, [], Option, Some, None, nat_eq, nat_lt, refl, ap, sym, subst, inl, inr, arith}
use Rattle.std.specs.List.{list_any, list_all}
use Rattle.std.proofs.lemmas.Bool.{cases_Bool, true≢false, false≢true, and_parts, cond-true, cond-false}
use Rattle.std.proofs.lemmas.Bool.Decides.{Decides-eqb, Decides-ltb}
use Rattle.scasp_syntax.specs.WellFormed.{ascends}
use Rattle.scasp_syntax.specs.declared.atom.Atom.{Atom}
use Rattle.scasp_syntax.specs.declared.clause.Clause.{Clause}
use Rattle.scasp_syntax.specs.declared.program.Program.{Program}
use Rattle.scasp_graph.specs.Analyses.{IsAnalysis, is_checked}
use Rattle.scasp_graph.specs.declared.analysis.Analysis.{Analysis}
use Rattle.scasp_nmr.specs.Inside.Beside.{begins_with, behind}
use Rattle.scasp_nmr.specs.Checks.{checks_from}
use Rattle.scasp_nmr.specs.declared.items.CheckItem.{CheckItem}

-- the numbers ascend, and none is below n
pub record Coming (n : ℕ) (odd : List ℕ) : Type 0 where
  pub ascending : ascends odd ≡ true
  pub none_below : (k : ℕ) → k < n → list_any (nat_eq k) odd ≡ false

unequal : (a b : ℕ) → (a ≡ b → ⊥) → nat_eq a b ≡ false
unequal a b d =
    elim (cases_Bool (nat_eq a b)) [ inl e ↦ absurd (d ((Decides-eqb a b).0 e)) | inr e ↦ e ]

equal : (a : ℕ) → nat_eq a a ≡ true
equal a = (Decides-eqb a a).1 refl

-- no number that is not below k is among those above x, where k is not above x
above-lacks : (k x : ℕ) (xs : List ℕ) → list_all (nat_lt x) xs ≡ true → k ≤ x → list_any (nat_eq k) xs ≡ false
above-lacks k x [] a h = refl
above-lacks k x (y ∷ ys) a h =
    let p = and_parts (nat_lt x y) (list_all (nat_lt x) ys) a in
    let l : x < y = (Decides-ltb x y).0 p.0 in
    let e : nat_eq k y ≡ false = unequal k y (λ s. omega (arith, s, l, h)) in
    ap (λ z. z || list_any (nat_eq k) ys) e ∙ above-lacks k x ys p.1 h

-- the list has n where it begins with it
pub first-is : (n : ℕ) (odd : List ℕ) → Coming n odd → list_any (nat_eq n) odd ≡ begins_with n odd
first-is n [] c = refl
first-is n (x ∷ xs) c =
    let p = and_parts (list_all (nat_lt x) xs) (ascends xs) c.ascending in
    elim (cases_Bool (nat_eq n x)) [
      | inl e ↦ ap (λ z. z || list_any (nat_eq n) xs) e ∙ sym e
      | inr e ↦
          ap (λ z. z || list_any (nat_eq n) xs) e
          ∙ above-lacks n x xs p.0 (low e) ∙ sym e
    ]
  where
    low : nat_eq n x ≡ false → n ≤ x
    low e =
        elim (cases_Bool (nat_lt x n)) [
          | inl l ↦
              (let h : list_any (nat_eq x) (x ∷ xs) ≡ true = ap (λ z. z || list_any (nat_eq x) xs) (equal x) in
              absurd (false≢true (sym (c.none_below x ((Decides-ltb x n).0 l)) ∙ h)))
          | inr l ↦ (let m : x < n → ⊥ = λ g. true≢false (sym ((Decides-ltb x n).1 g) ∙ l) in omega (arith, m))
        ]

-- without their first where it is n, none is below n + 1
pub coming-more : (n : ℕ) (odd : List ℕ) → Coming n odd → Coming (n + 1) (behind n odd)
coming-more n [] c = record { ascending = refl; none_below = λ k h. refl }
coming-more n (x ∷ xs) c =
    let p = and_parts (list_all (nat_lt x) xs) (ascends xs) c.ascending in
    elim (cases_Bool (nat_eq n x)) [
      | inl e ↦
          (let s : behind n (x ∷ xs) ≡ xs = cond-true (nat_eq n x) xs (x ∷ xs) e in
          let i : n ≡ x = (Decides-eqb n x).0 e in
          subst (Coming (n + 1)) (sym s) (record { ascending = p.1; none_below = λ k h. above-lacks k x xs p.0 (omega (arith, h, i)) }))
      | inr e ↦
          (let s : behind n (x ∷ xs) ≡ x ∷ xs = cond-false (nat_eq n x) xs (x ∷ xs) e in
          subst (Coming (n + 1)) (sym s)
          (record {
            ascending = c.ascending;
            none_below =
                λ k h.
                elim (cases_Bool (nat_eq k n)) [
                  | inl q ↦ ap (λ z. list_any (nat_eq z) (x ∷ xs)) ((Decides-eqb k n).0 q) ∙ first-is n (x ∷ xs) c ∙ e
                  | inr q ↦ c.none_below k (let d : k ≡ n → ⊥ = λ g. true≢false (sym ((Decides-eqb k n).1 g) ∙ q) in omega (arith, h, d))
                ];
          }))
    ]

-- later checks do not need the number
passed : (n m : ℕ) (xs : List ℕ) (cs : List Clause) → n < m → checks_from (n ∷ xs) m cs ≡ checks_from xs m cs
passed n m xs [] h = refl
passed n m xs (c ∷ cs) h =
    let e : nat_eq m n ≡ false = unequal m n (λ s. omega (arith, s, h)) in
    let t : is_checked (n ∷ xs) m c ≡ is_checked xs m c = ap (λ z. is_none c.head || (z || list_any (nat_eq m) xs)) e in
    let r = passed n (m + 1) xs cs (omega (arith, h)) in
    ap (λ z. cond z (record { clause = m; head = is_some c.head } ∷ checks_from (n ∷ xs) (m + 1) cs) (checks_from (n ∷ xs) (m + 1) cs)) t
    ∙ ap (λ z. cond (is_checked xs m c) (record { clause = m; head = is_some c.head } ∷ z) z) r

behind-same : (n : ℕ) (odd : List ℕ) (cs : List Clause) → checks_from odd (n + 1) cs ≡ checks_from (behind n odd) (n + 1) cs
behind-same n [] cs = refl
behind-same n (x ∷ xs) cs =
    elim (cases_Bool (nat_eq n x)) [
      | inl e ↦
          (let i : x ≡ n = sym ((Decides-eqb n x).0 e) in
          passed x (n + 1) xs cs (omega (arith, i)) ∙ ap (λ z. checks_from z (n + 1) cs) (sym (cond-true (nat_eq n x) xs (x ∷ xs) e)))
      | inr e ↦ ap (λ z. checks_from z (n + 1) cs) (sym (cond-false (nat_eq n x) xs (x ∷ xs) e))
    ]

checked-is : (n : ℕ) (odd : List ℕ) (c : Clause) → Coming n odd → is_checked odd n c ≡ (is_none c.head || begins_with n odd)
checked-is n odd c k = ap (λ z. is_none c.head || z) (first-is n odd k)

module _ (n : ℕ) (odd : List ℕ) (c : Clause) (cs : List Clause) (k : Coming n odd) where
  pub check-made : (is_none c.head || begins_with n odd) ≡ true → checks_from odd n (c ∷ cs) ≡ record { clause = n; head = is_some c.head } ∷ checks_from (behind n odd) (n + 1) cs
  check-made h =
      cond-true (is_checked odd n c) (record { clause = n; head = is_some c.head } ∷ checks_from odd (n + 1) cs) (checks_from odd (n + 1) cs) (checked-is n odd c k ∙ h)
      ∙ ap (λ z. record { clause = n; head = is_some c.head } ∷ z) (behind-same n odd cs)

  pub check-skipped : (is_none c.head || begins_with n odd) ≡ false → checks_from odd n (c ∷ cs) ≡ checks_from (behind n odd) (n + 1) cs
  check-skipped h =
      cond-false (is_checked odd n c) (record { clause = n; head = is_some c.head } ∷ checks_from odd (n + 1) cs) (checks_from odd (n + 1) cs) (checked-is n odd c k ∙ h)
      ∙ behind-same n odd cs

pub coming-first : (p : Program) (a : Analysis) → IsAnalysis p a → Coming 1 a.odd_rules
coming-first p a is =
    record {
      ascending = is.odd.ascending;
      none_below =
          λ k h.
          elim (cases_Bool (list_any (nat_eq k) a.odd_rules)) [
            | inl e ↦
                (let z : k ≡ 0 = omega (arith, h) in
                let r = (is.odd.exactly 0).0 (ap (λ i. list_any (nat_eq i) a.odd_rules) (sym z) ∙ e) in
                let s = r.stands in
                cc)
            | inr e ↦ e
          ];
    }

pub none-is : (o : Option Atom) → is_some o ≡ false → is_none o ≡ true
none-is None h = refl
none-is (Some a) h = absurd (true≢false h)

pub some-is : (o : Option Atom) → is_some o ≡ true → is_none o ≡ false
some-is None h = absurd (false≢true h)
some-is (Some a) h = refl

module _ (n : ℕ) (odd rest : List ℕ) (c : Clause) (cs : List Clause) (items after all : List CheckItem) (head : Bool) (k : Coming n odd) (r : rest ≡ behind n odd) (h : items ++ checks_from odd n (c ∷ cs) ≡ all) where
  -- a check is put at the end, and what is left is smaller by it
  pub listed-made : head ≡ is_some c.head → (is_none c.head || begins_with n odd) ≡ true → after ≡ items ++ record { clause = n; head = head } ∷ [] → after ++ checks_from rest (n + 1) cs ≡ all
  listed-made e t a =
      let x : CheckItem = record { clause = n; head = is_some c.head } in
      ap (λ z. z ++ checks_from rest (n + 1) cs) a
      ∙ append_assoc items (record { clause = n; head = head } ∷ []) (checks_from rest (n + 1) cs)
      ∙ ap (λ z. items ++ (record { clause = n; head = z } ∷ checks_from rest (n + 1) cs)) e
      ∙ ap (λ z. items ++ (record { clause = n; head = is_some c.head } ∷ checks_from z (n + 1) cs)) r
      ∙ ap (λ z. items ++ z) (sym (check-made n odd c cs k t)) ∙ h

  pub listed-skipped : (is_none c.head || begins_with n odd) ≡ false → after ≡ items → after ++ checks_from rest (n + 1) cs ≡ all
  listed-skipped t a =
      ap (λ z. z ++ checks_from rest (n + 1) cs) a ∙ ap (λ z. items ++ checks_from z (n + 1) cs) r
      ∙ ap (λ z. items ++ z) (sym (check-skipped n odd c cs k t)) ∙ h
