-- The checks are of the clauses that cover the map, of denials and of odd rules.
use Rattle.std.proofs.Common.{◌≡◌, ◌∙◌, ◌∷◌, ◌↔◌, ℕ, zero, suc, ◌+◌, Bool, true, false, ◌||◌, is_some, is_none, List, [], map, Option, Some, None, slice_get, nat_eq, refl, ap, sym, subst, inl, inr, arith}
use Rattle.std.specs.List.{Contains, list_any}
use Rattle.std.proofs.lemmas.Bool.{true≢false, false≢true, or_left, or_right, cond-true, cond-false}
use Rattle.scasp_list.proofs.MemberLemmas.{Contains-cases, Contains-here, Contains-none, Contains-there}
use Rattle.scasp_syntax.specs.Programs.{numbered}
use Rattle.scasp_syntax.specs.declared.atom.Atom.{Atom}
use Rattle.scasp_syntax.specs.declared.clause.Clause.{Clause}
use Rattle.scasp_syntax.specs.declared.program.Program.{Program}
use Rattle.scasp_graph.specs.Analyses.{IsAnalysis, is_checked, checked_from, checked}
use Rattle.scasp_graph.specs.Map.{MapHolds}
use Rattle.scasp_graph.specs.OddRules.{IsOddRule}
use Rattle.scasp_graph.specs.declared.analysis.Analysis.{Analysis}
use Rattle.scasp_graph.proofs.CheckedLemmas.{analysed-holds}
use Rattle.scasp_nmr.specs.Checks.{checks_from, checks_of, clause_in, IsDenial, HasCheck}
use Rattle.scasp_nmr.specs.declared.items.CheckItem.{CheckItem}

-- the check of a clause
abbrev check : ℕ → Clause → CheckItem
check n c = record { clause = n; head = is_some c.head }

clauses-same : (odd : List ℕ) (n : ℕ) (cs : List Clause) → map clause_in (checks_from odd n cs) ≡ checked_from odd n cs
clauses-same odd n [] = refl
clauses-same odd n (c ∷ cs) = by (is_checked odd n c) refl (clauses-same odd (n + 1) cs)
  where
    by : (b : Bool) → is_checked odd n c ≡ b → map clause_in (checks_from odd (n + 1) cs) ≡ checked_from odd (n + 1) cs → map clause_in (checks_from odd n (c ∷ cs)) ≡ checked_from odd n (c ∷ cs)
    by true e h =
        ap (map clause_in) (cond-true (is_checked odd n c) (check n c ∷ checks_from odd (n + 1) cs) (checks_from odd (n + 1) cs) e)
        ∙ ap (λ z. n ∷ z) h ∙ sym (cond-true (is_checked odd n c) (n ∷ checked_from odd (n + 1) cs) (checked_from odd (n + 1) cs) e)
    by false e h =
        ap (map clause_in) (cond-false (is_checked odd n c) (check n c ∷ checks_from odd (n + 1) cs) (checks_from odd (n + 1) cs) e)
        ∙ h ∙ sym (cond-false (is_checked odd n c) (n ∷ checked_from odd (n + 1) cs) (checked_from odd (n + 1) cs) e)

-- the map of the analysis holds where the clauses of the checks are covered
pub checks-cover : (program : Program) (a : Analysis) (items : List CheckItem) → IsAnalysis program a → items ≡ checks_of program a.odd_rules → MapHolds program (map clause_in items) a.map
checks-cover program a items is e =
    let s : map clause_in items ≡ checked program a.odd_rules = ap (map clause_in) e ∙ clauses-same a.odd_rules 1 program.clauses in
    let P : List ℕ → Type 0 = λ z. MapHolds program z a.map in subst P (sym s) (analysed-holds program a is)

-- a clause that is to be checked, numbered from n, whose check this is
abbrev IsFor : List ℕ → ℕ → List Clause → ℕ → Bool → Type 0
IsFor odd n cs k h = (i : ℕ) × ((c : Clause) × ((k ≡ n + i) × ((slice_get cs i ≡ Some c) × ((is_checked odd k c ≡ true) × (is_some c.head ≡ h)))))

-- a check of the list is of a clause that is to be checked
found : (odd : List ℕ) (n k : ℕ) (h : Bool) (cs : List Clause) → HasCheck (checks_from odd n cs) k h → IsFor odd n cs k h
found odd n k h [] s = absurd (Contains-none (record { clause = k; head = h }) s)
found odd n k h (c ∷ cs) s = by (is_checked odd n c) refl (λ t. found odd (n + 1) k h cs t)
  where
    later : IsFor odd (n + 1) cs k h → IsFor odd n (c ∷ cs) k h
    later r = let x = r.1.1.0 in (suc r.0, (r.1.0, (omega (arith, x), (r.1.1.1.0, r.1.1.1.1))))

    here : is_checked odd n c ≡ true → check n c ≡ record { clause = k; head = h } → IsFor odd n (c ∷ cs) k h
    here t e =
        let kn : n ≡ k = ap clause_in e in
        let hn : is_some c.head ≡ h = ap (λ (y : CheckItem). y.head) e in
        (0, (c, (omega (arith, kn), (refl, (ap (λ z. is_checked odd z c) (sym kn) ∙ t, hn)))))

    by : (b : Bool) → is_checked odd n c ≡ b → (HasCheck (checks_from odd (n + 1) cs) k h → IsFor odd (n + 1) cs k h) → IsFor odd n (c ∷ cs) k h
    by true t rec =
        let all = subst (λ z. HasCheck z k h) (cond-true (is_checked odd n c) (check n c ∷ checks_from odd (n + 1) cs) (checks_from odd (n + 1) cs) t) s in
        elim (Contains-cases (check n c) (checks_from odd (n + 1) cs) (record { clause = k; head = h }) all) [
          | inl e ↦ here t e
          | inr i ↦ later (rec i)
        ]
    by false t rec =
        later (rec (subst (λ z. HasCheck z k h) (cond-false (is_checked odd n c) (check n c ∷ checks_from odd (n + 1) cs) (checks_from odd (n + 1) cs) t) s))

-- a clause that is to be checked has its check in the list
listed : (odd : List ℕ) (n i : ℕ) (c : Clause) (cs : List Clause) → slice_get cs i ≡ Some c → is_checked odd (n + i) c ≡ true → HasCheck (checks_from odd n cs) (n + i) (is_some c.head)
listed odd n i c [] s t = cc
listed odd n zero c (x ∷ cs) s t =
    let e : x ≡ c = cc in
    let z : n + 0 ≡ n = omega arith in
    let t' : is_checked odd n x ≡ true = ap (is_checked odd n) e ∙ ap (λ k. is_checked odd k c) (sym z) ∙ t in
    subst (λ l. HasCheck l (n + 0) (is_some c.head)) (sym (cond-true (is_checked odd n x) (check n x ∷ checks_from odd (n + 1) cs) (checks_from odd (n + 1) cs) t'))
    (subst (Contains (check n x ∷ checks_from odd (n + 1) cs)) (λ i. record { clause = sym z i; head = is_some (e i).head }) (Contains-here (check n x) (checks_from odd (n + 1) cs)))
listed odd n (suc i) c (x ∷ cs) s t =
    let z : (n + 1) + i ≡ n + suc i = omega arith in
    let r = listed odd (n + 1) i c cs s (ap (λ k. is_checked odd k c) z ∙ t) in
    by (is_checked odd n x) refl (subst (λ k. HasCheck (checks_from odd (n + 1) cs) k (is_some c.head)) z r)
  where
    by : (b : Bool) → is_checked odd n x ≡ b → HasCheck (checks_from odd (n + 1) cs) (n + suc i) (is_some c.head) → HasCheck (checks_from odd n (x ∷ cs)) (n + suc i) (is_some c.head)
    by true e r =
        subst (λ l. HasCheck l (n + suc i) (is_some c.head)) (sym (cond-true (is_checked odd n x) (check n x ∷ checks_from odd (n + 1) cs) (checks_from odd (n + 1) cs) e))
        (Contains-there (check n x) (checks_from odd (n + 1) cs) (record { clause = n + suc i; head = is_some c.head }) r)
    by false e r =
        subst (λ l. HasCheck l (n + suc i) (is_some c.head)) (sym (cond-false (is_checked odd n x) (check n x ∷ checks_from odd (n + 1) cs) (checks_from odd (n + 1) cs) e)) r

headless : (o : Option Atom) → is_some o ≡ false → o ≡ None
headless None h = refl
headless (Some a) h = absurd (true≢false h)

not-none : (o : Option Atom) → is_some o ≡ true → is_none o ≡ false
not-none None h = absurd (false≢true h)
not-none (Some a) h = refl

pub denials-checked : (p : Program) (a : Analysis) → IsAnalysis p a → (k : ℕ) → HasCheck (checks_of p a.odd_rules) k false ↔ IsDenial p k
denials-checked p a is k = (to k, from k)
  where
    to : (k : ℕ) → HasCheck (checks_of p a.odd_rules) k false → IsDenial p k
    to k h =
        let f = found a.odd_rules 1 k false p.clauses h in
        let z : k ≡ suc f.0 = let x = f.1.1.0 in omega (arith, x) in
        let stands : numbered p.clauses k ≡ Some f.1.0 = ap (numbered p.clauses) z ∙ f.1.1.1.0 in
        record { denial = f.1.0; stands = stands; headless = headless f.1.0.head f.1.1.1.1.1 }

    from : (k : ℕ) → IsDenial p k → HasCheck (checks_of p a.odd_rules) k false
    from zero d = let s = d.stands in cc
    from (suc i) d =
        let z : 1 + i ≡ suc i = omega arith in
        let t : is_checked a.odd_rules (1 + i) d.denial ≡ true = or_left (is_none d.denial.head) (list_any (nat_eq (1 + i)) a.odd_rules) (ap is_none d.headless) in
        let r = listed a.odd_rules 1 i d.denial p.clauses d.stands t in
        subst (Contains (checks_of p a.odd_rules)) (λ j. record { clause = z j; head = is_some (d.headless j) }) r

pub rules-checked : (p : Program) (a : Analysis) → IsAnalysis p a → (k : ℕ) → HasCheck (checks_of p a.odd_rules) k true ↔ IsOddRule p k
rules-checked p a is k = (to, from k)
  where
    to : HasCheck (checks_of p a.odd_rules) k true → IsOddRule p k
    to h =
        let f = found a.odd_rules 1 k true p.clauses h in
        let n : is_none f.1.0.head ≡ false = not-none f.1.0.head f.1.1.1.1.1 in
        let m : list_any (nat_eq k) a.odd_rules ≡ true = sym (ap (λ z. z || list_any (nat_eq k) a.odd_rules) n) ∙ f.1.1.1.1.0 in
        (is.odd.exactly k).0 m

    from : (k : ℕ) → IsOddRule p k → HasCheck (checks_of p a.odd_rules) k true
    from zero o = let s = o.stands in cc
    from (suc i) o =
        let z : 1 + i ≡ suc i = omega arith in
        let m : list_any (nat_eq (1 + i)) a.odd_rules ≡ true = ap (λ k. list_any (nat_eq k) a.odd_rules) z ∙ (is.odd.exactly (suc i)).1 o in
        let t : is_checked a.odd_rules (1 + i) o.rule ≡ true = or_right (is_none o.rule.head) (list_any (nat_eq (1 + i)) a.odd_rules) m in
        let r = listed a.odd_rules 1 i o.rule p.clauses o.stands t in
        subst (Contains (checks_of p a.odd_rules)) (λ j. record { clause = z j; head = is_some (o.head_is j) }) r
