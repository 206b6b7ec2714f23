-- Rules of a predicate with other numbers.
use Rattle.std.proofs.Common.{◌≡◌, ◌∙◌, ℕ, zero, suc, ◌+◌, ◌<◌, ◌≤◌, Bool, true, false, ◌&&◌, ◌||◌, not, nat_eq, List, [], ◌∷◌, drop, length, Option, None, Some, refl, ap, sym, inl, inr, arith, add-one}
use Rattle.std.specs.List.{slice_get}
use Rattle.std.specs.Cmp.Lexicographic.{pointwise}
use Rattle.std.proofs.Math.Seq.{drop-nil}
use Rattle.std.proofs.lemmas.List.{drop_all}
use Rattle.std.proofs.Math.Bool.{or-false}
use Rattle.std.proofs.lemmas.Bool.{cond-true, cond-false, cases_Bool}
use Rattle.std.proofs.lemmas.Bool.Decides.{Decides-eqb}
use Rattle.scasp_syntax.specs.Programs.{is_rule_of, rules_from}
use Rattle.scasp_syntax.specs.Same.{same_bool, same_pred}
use Rattle.scasp_syntax.specs.declared.atom.Pred.{Pred}
use Rattle.scasp_syntax.specs.declared.clause.Clause.{Clause}
use Rattle.scasp_graph.specs.Inside.Growing.{with_pred}
use Rattle.scasp_graph.proofs.PredLemmas.{pred_is}
use Rattle.scasp_touched.specs.Inside.{among}
use Rattle.scasp_touched.specs.Moved.{agree, is_rule_at}
use Rattle.scasp_touched.proofs.SetLemmas.{any-one}

-- ---- numbers of rules

apart : (n m : ℕ) → n < m → nat_eq n m ≡ false
apart n m h =
    elim (cases_Bool (nat_eq n m)) [
      | inl e ↦ (let same : n ≡ m = (Decides-eqb n m).0 e in absurd (omega (arith, h, same)))
      | inr e ↦ e
    ]

apart-back : (n m : ℕ) → n < m → nat_eq m n ≡ false
apart-back n m h =
    elim (cases_Bool (nat_eq m n)) [
      | inl e ↦ (let same : m ≡ n = (Decides-eqb m n).0 e in absurd (omega (arith, h, same)))
      | inr e ↦ e
    ]

-- with the number in front where the clause is a rule
abbrev numbers : Bool → ℕ → List ℕ → List ℕ
numbers true n ks = n ∷ ks
numbers false n ks = ks

numbers-are : (p : Pred) (n : ℕ) (c : Clause) (cs : List Clause) → rules_from n (c ∷ cs) p ≡ numbers (is_rule_of p c) n (rules_from (n + 1) cs p)
numbers-are p n c cs = by (is_rule_of p c) refl
  where
    by : (b : Bool) → is_rule_of p c ≡ b → rules_from n (c ∷ cs) p ≡ numbers (is_rule_of p c) n (rules_from (n + 1) cs p)
    by true e = cond-true (is_rule_of p c) (n ∷ rules_from (n + 1) cs p) (rules_from (n + 1) cs p) e ∙ ap (λ b. numbers b n (rules_from (n + 1) cs p)) (sym e)
    by false e = cond-false (is_rule_of p c) (n ∷ rules_from (n + 1) cs p) (rules_from (n + 1) cs p) e ∙ ap (λ b. numbers b n (rules_from (n + 1) cs p)) (sym e)

first-apart : (b : Bool) (n m : ℕ) (ks js : List ℕ) → n < m → pointwise nat_eq (n ∷ ks) js ≡ false → pointwise nat_eq (n ∷ ks) (numbers b m js) ≡ false
first-apart true n m ks js h e = ap (λ z. z && pointwise nat_eq ks js) (apart n m h)
first-apart false n m ks js h e = e

second-apart : (b : Bool) (n m : ℕ) (ks js : List ℕ) → n < m → pointwise nat_eq js (n ∷ ks) ≡ false → pointwise nat_eq (numbers b m js) (n ∷ ks) ≡ false
second-apart true n m ks js h e = ap (λ z. z && pointwise nat_eq js ks) (apart-back n m h)
second-apart false n m ks js h e = e

-- a number below those of the rules is none of them
not-first : (p : Pred) (n m : ℕ) (ks : List ℕ) (cs : List Clause) → n < m → pointwise nat_eq (n ∷ ks) (rules_from m cs p) ≡ false
not-first p n m ks [] h = refl
not-first p n m ks (c ∷ cs) h =
    let next : n < m + 1 = omega (arith, h) in
    ap (pointwise nat_eq (n ∷ ks)) (numbers-are p m c cs)
    ∙ first-apart (is_rule_of p c) n m ks (rules_from (m + 1) cs p) h (not-first p n (m + 1) ks cs next)

not-second : (p : Pred) (n m : ℕ) (ks : List ℕ) (cs : List Clause) → n < m → pointwise nat_eq (rules_from m cs p) (n ∷ ks) ≡ false
not-second p n m ks [] h = refl
not-second p n m ks (c ∷ cs) h =
    let next : n < m + 1 = omega (arith, h) in
    ap (λ z. pointwise nat_eq z (n ∷ ks)) (numbers-are p m c cs)
    ∙ second-apart (is_rule_of p c) n m ks (rules_from (m + 1) cs p) h (not-second p n (m + 1) ks cs next)

none-agree : (b : Bool) (n : ℕ) (js : List ℕ) (a : Bool) → pointwise nat_eq [] js ≡ a → pointwise nat_eq [] (numbers b n js) ≡ (not b && a)
none-agree true n js a h = refl
none-agree false n js a h = h

agree-none : (b : Bool) (n : ℕ) (js : List ℕ) (a : Bool) → pointwise nat_eq js [] ≡ a → pointwise nat_eq (numbers b n js) [] ≡ (not b && a)
agree-none true n js a h = refl
agree-none false n js a h = h

both-agree : (a b : Bool) (n : ℕ) (ks js : List ℕ) (r : Bool) → pointwise nat_eq ks js ≡ r → pointwise nat_eq (n ∷ ks) js ≡ false → pointwise nat_eq ks (n ∷ js) ≡ false
    → pointwise nat_eq (numbers a n ks) (numbers b n js) ≡ (same_bool a b && r)
both-agree true true n ks js r h e f = ap (λ z. z && pointwise nat_eq ks js) ((Decides-eqb n n).1 refl) ∙ h
both-agree true false n ks js r h e f = e
both-agree false true n ks js r h e f = f
both-agree false false n ks js r h e f = h

-- the rules have the same numbers exactly where the two lists agree
pub agree-numbers : (p : Pred) (n : ℕ) (cs ds : List Clause) → pointwise nat_eq (rules_from n cs p) (rules_from n ds p) ≡ agree p cs ds
agree-numbers p n [] [] = refl
agree-numbers p n [] (d ∷ ds) =
    ap (pointwise nat_eq []) (numbers-are p n d ds)
    ∙ none-agree (is_rule_of p d) n (rules_from (n + 1) ds p) (agree p [] ds) (agree-numbers p (n + 1) [] ds)
agree-numbers p n (c ∷ cs) [] =
    ap (λ z. pointwise nat_eq z []) (numbers-are p n c cs)
    ∙ agree-none (is_rule_of p c) n (rules_from (n + 1) cs p) (agree p cs []) (agree-numbers p (n + 1) cs [])
agree-numbers p n (c ∷ cs) (d ∷ ds) =
    let more : n < n + 1 = omega arith in
    (λ i. pointwise nat_eq (numbers-are p n c cs i) (numbers-are p n d ds i))
    ∙ both-agree (is_rule_of p c) (is_rule_of p d) n (rules_from (n + 1) cs p) (rules_from (n + 1) ds p) (agree p cs ds) (agree-numbers p (n + 1) cs ds)
    (not-first p n (n + 1) (rules_from (n + 1) cs p) ds more) (not-second p n (n + 1) (rules_from (n + 1) ds p) cs more)

-- ---- one number after another

abbrev there : Option Clause → List Clause → List Clause
there None cs = cs
there (Some c) cs = c ∷ cs

drop-there : (cs : List Clause) (i : ℕ) → drop i cs ≡ there (slice_get cs i) (drop (suc i) cs)
drop-there [] i = drop-nil i ∙ sym (drop-nil (suc i))
drop-there (c ∷ cs) zero = refl
drop-there (c ∷ cs) (suc i) = drop-there cs i

past : (cs : List Clause) (i : ℕ) → slice_get cs i ≡ None → drop (suc i) cs ≡ []
past [] i e = drop-nil (suc i)
past (c ∷ cs) zero e = cc
past (c ∷ cs) (suc i) e = past cs i e

same-right : (b : Bool) → same_bool b false ≡ not b
same-right true = refl
same-right false = refl

agree-there : (p : Pred) (a b : Option Clause) (cs ds : List Clause) → (a ≡ None → cs ≡ []) → (b ≡ None → ds ≡ [])
    → agree p (there a cs) (there b ds) ≡ (same_bool (is_rule_at p a) (is_rule_at p b) && agree p cs ds)
agree-there p None None cs ds x y = refl
agree-there p None (Some d) cs ds x y =
    ap (λ z. agree p z (d ∷ ds)) (x refl) ∙ ap (λ z. not (is_rule_of p d) && agree p z ds) (sym (x refl))
agree-there p (Some c) None cs ds x y =
    ap (agree p (c ∷ cs)) (y refl) ∙ ap (λ z. not (is_rule_of p c) && agree p cs z) (sym (y refl))
    ∙ ap (λ z. z && agree p cs ds) (sym (same-right (is_rule_of p c)))
agree-there p (Some c) (Some d) cs ds x y = refl

-- what is left of the lists from one number on, and from the next
pub agree-next : (p : Pred) (cs ds : List Clause) (i : ℕ)
    → agree p (drop i cs) (drop i ds)
    ≡ (same_bool (is_rule_at p (slice_get cs i)) (is_rule_at p (slice_get ds i)) && agree p (drop (i + 1) cs) (drop (i + 1) ds))
agree-next p cs ds i =
    (λ j. agree p (drop-there cs i j) (drop-there ds i j))
    ∙ agree-there p (slice_get cs i) (slice_get ds i) (drop (suc i) cs) (drop (suc i) ds) (past cs i) (past ds i)
    ∙ ap (λ n. same_bool (is_rule_at p (slice_get cs i)) (is_rule_at p (slice_get ds i)) && agree p (drop n cs) (drop n ds)) (sym (add-one i))

-- ---- predicates that are put in

pub put-in : (moved more : List Pred) (a : Pred) (other : Option Clause) (p : Pred) → more ≡ with_pred moved a → is_rule_at a other ≡ false
    → among more p ≡ (among moved p || (same_pred p a && not (is_rule_at p other)))
put-in moved more a other p e f =
    ap (λ z. among z p) e ∙ any-one same_pred pred_is (same_pred p) moved a ∙ ap (λ z. among moved p || z) (by (same_pred p a) refl)
  where
    by : (b : Bool) → same_pred p a ≡ b → same_pred p a ≡ (same_pred p a && not (is_rule_at p other))
    by true s =
        let same : p ≡ a = pred_is p a s in
        let n : not (is_rule_at p other) ≡ true = ap not (ap (λ z. is_rule_at z other) same ∙ f) in
        rw (s, n) refl
    by false s = rw s refl

pub left-out : (moved : List Pred) (a : Pred) (other : Option Clause) (p : Pred) → is_rule_at a other ≡ true
    → among moved p ≡ (among moved p || (same_pred p a && not (is_rule_at p other)))
left-out moved a other p f = sym (or-false (among moved p)) ∙ ap (λ z. among moved p || z) (by (same_pred p a) refl)
  where
    by : (b : Bool) → same_pred p a ≡ b → false ≡ (same_pred p a && not (is_rule_at p other))
    by true s =
        let same : p ≡ a = pred_is p a s in
        let n : not (is_rule_at p other) ≡ false = ap not (ap (λ z. is_rule_at z other) same ∙ f) in
        rw (s, n) refl
    by false s = rw s refl

pub both-ways : (m h t a : Bool) → (((m || (h && not t)) || (t && not h)) || not a) ≡ (m || not (same_bool h t && a))
both-ways true h t a = refl
both-ways false true true a = refl
both-ways false true false a = refl
both-ways false false true a = refl
both-ways false false false a = refl

-- ---- the predicates that were put in, one number after another

pub moved-next : (p : Pred) (m n l : Bool) (cs ds : List Clause) (i : ℕ) (a b c d : Option Clause) → a ≡ slice_get cs i → b ≡ slice_get ds i → c ≡ slice_get ds i → d ≡ slice_get cs i
    → n ≡ (m || (is_rule_at p a && not (is_rule_at p b))) → l ≡ (n || (is_rule_at p c && not (is_rule_at p d)))
    → (m || not (agree p (drop i cs) (drop i ds))) ≡ not (agree p cs ds) → (l || not (agree p (drop (i + 1) cs) (drop (i + 1) ds))) ≡ not (agree p cs ds)
moved-next p m n l cs ds i a b c d ea eb ec ed e f h =
    let first = is_rule_at p (slice_get cs i) in
    let second = is_rule_at p (slice_get ds i) in
    let rest = agree p (drop (i + 1) cs) (drop (i + 1) ds) in
    let en : n ≡ (m || (first && not second)) = e ∙ (λ j. m || (is_rule_at p (ea j) && not (is_rule_at p (eb j)))) in
    let el : l ≡ ((m || (first && not second)) || (second && not first)) = f ∙ (λ j. en j || (is_rule_at p (ec j) && not (is_rule_at p (ed j)))) in
    ap (λ z. z || not rest) el ∙ both-ways m first second rest ∙ ap (λ z. m || not z) (sym (agree-next p cs ds i)) ∙ h

pub moved-all : (p : Pred) (m : Bool) (cs ds : List Clause) (i : ℕ) → length cs ≤ i → length ds ≤ i
    → (m || not (agree p (drop i cs) (drop i ds))) ≡ not (agree p cs ds) → m ≡ not (pointwise nat_eq (rules_from 1 cs p) (rules_from 1 ds p))
moved-all p m cs ds i x y h =
    let first : drop i cs ≡ [] = drop_all i cs x in
    let second : drop i ds ≡ [] = drop_all i ds y in
    sym (or-false m) ∙ sym (λ j. m || not (agree p (first j) (second j))) ∙ h ∙ ap not (sym (agree-numbers p 1 cs ds))
