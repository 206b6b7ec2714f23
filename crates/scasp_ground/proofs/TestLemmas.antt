-- Tests in the range of the numbers are the tests of a clause, where none overflows.
use Rattle.std.proofs.Common.{◌≡◌, ◌∷◌, ◌++◌, ◌∙◌, ◌⊎◌, ℕ, Bool, true, false, ◌&&◌, ◌||◌, not, nat_eq, List, [], map, filter, Option, None, Some, refl, sym, ap, inl, inr}
use Rattle.std.specs.Prelude.{if◌then◌else◌}
use Rattle.std.specs.List.{list_all, list_any, flat_map}
use Rattle.std.specs.Option.{option_map}
use Rattle.std.proofs.lemmas.Bool.{true≢false, and_parts, or_cases, cond-true, cond-false, cond_both, cases_Bool}
use Rattle.std.proofs.lemmas.Bool.Decides.{Decides-eqb}
use Rattle.std.proofs.lemmas.List.Folds.{list_all-append, list_any-append}
use Rattle.scasp_checker_rules.specs.BoundedTruth.{bounded_sum}
use Rattle.scasp_model.specs.Grounding.{is_test_true}
use Rattle.scasp_num.specs.Arithmetic.{◌>>=◌}
use Rattle.scasp_num.specs.Linear.{Linear, compares}
use Rattle.scasp_num.specs.Number.{Number}
use Rattle.scasp_syntax.specs.Constraints.{holds, is_number}
use Rattle.scasp_syntax.specs.Flat.{flat_after, flat_body, number_test, unseen}
use Rattle.scasp_syntax.specs.RowTruth.{row_holds}
use Rattle.scasp_syntax.specs.Values.{Sub}
use Rattle.scasp_syntax.specs.declared.clause.Clause.{Clause}
use Rattle.scasp_syntax.specs.declared.clause.FlatItem.{FlatItem}
use Rattle.scasp_syntax.specs.declared.clause.FlatItem.TheVariants as flat
use Rattle.scasp_syntax.specs.declared.clause.Item.{Item}
use Rattle.scasp_syntax.specs.declared.clause.Item.TheVariants as item
use Rattle.scasp_syntax.specs.declared.con.Con.{Con}
use Rattle.scasp_syntax.specs.declared.con.Con.TheVariants as con
use Rattle.scasp_ground.specs.Bounded.{tested, all_tested, test_of, body_tests}
use Rattle.scasp_ground.proofs.RowLemmas.{row-tested}

some_is : (a b : Bool) → Some a ≡ Some b → a ≡ b
some_is a b e = cc

pub tested-holds : (v : Sub) (c : Con) (b : Bool) → tested v c ≡ Some b → b ≡ holds v c
tested-holds v (con.Row r) b e = by (bounded_sum v r) refl e
  where
    by : (o : Option Number) → o ≡ bounded_sum v r → option_map (λ (sum : Number). compares r.op sum.num) o ≡ Some b → b ≡ holds v (con.Row r)
    by None h e = cc
    by (Some sum) h e = sym (some_is (compares r.op sum.num) b e) ∙ row-tested v r sum h
tested-holds v (con.Eq t u) b e = sym (some_is (holds v (con.Eq t u)) b e)
tested-holds v (con.Neq t u) b e = sym (some_is (holds v (con.Neq t u)) b e)
tested-holds v (con.NotShape x f n) b e = sym (some_is (holds v (con.NotShape x f n)) b e)
tested-holds v (con.Num t) b e = sym (some_is (holds v (con.Num t)) b e)
tested-holds v (con.NotNum t) b e = sym (some_is (holds v (con.NotNum t)) b e)

abbrev rest_tested : Sub → List Con → Bool → Option Bool
rest_tested v cs b = if b then all_tested v cs else Some false

pub all-hold : (v : Sub) (cs : List Con) (b : Bool) → all_tested v cs ≡ Some b → b ≡ list_all (holds v) cs
all-hold v [] b e = sym (some_is true b e)
all-hold v (c ∷ cs) b e = by (tested v c) refl e (λ k. all-hold v cs b k)
  where
    by : (o : Option Bool) → tested v c ≡ o → (o >>= rest_tested v cs) ≡ Some b → (all_tested v cs ≡ Some b → b ≡ list_all (holds v) cs) → b ≡ list_all (holds v) (c ∷ cs)
    by None h e f = cc
    by (Some true) h e f = f e ∙ ap (λ z. z && list_all (holds v) cs) (tested-holds v c true h)
    by (Some false) h e f = sym (some_is false b e) ∙ ap (λ z. z && list_all (holds v) cs) (tested-holds v c false h)

-- ---- flat bodies

tests-append : (xs ys : List FlatItem) → flat_map test_of (xs ++ ys) ≡ flat_map test_of xs ++ flat_map test_of ys
tests-append [] ys = refl
tests-append (flat.Call l ∷ xs) ys = tests-append xs ys
tests-append (flat.Test c ∷ xs) ys = ap (λ z. c ∷ z) (tests-append xs ys)

numbers-hold : (v : Sub) (xs : List ℕ) → list_all (holds v) (flat_map test_of (map number_test xs)) ≡ list_all (λ x. is_number (v x)) xs
numbers-hold v [] = refl
numbers-hold v (x ∷ xs) = ap (λ b. is_number (v x) && b) (numbers-hold v xs)

-- the variables that were tested before are numbers, so the others are enough
unseen-enough : (p : ℕ → Bool) (seen xs : List ℕ) → ((x : ℕ) → list_any (nat_eq x) seen ≡ true → p x ≡ true) → list_all p (unseen seen xs) ≡ list_all p xs
unseen-enough p seen [] n = refl
unseen-enough p seen (x ∷ xs) n =
    let rest : List ℕ = unseen seen xs in
    elim (cases_Bool (list_any (nat_eq x) seen)) [
      | inl t ↦
          ap (list_all p) (cond-false (not (list_any (nat_eq x) seen)) (x ∷ rest) rest (ap not t))
          ∙ unseen-enough p seen xs n ∙ ap (λ b. b && list_all p xs) (sym (n x t))
      | inr f ↦
          ap (list_all p) (cond-true (not (list_any (nat_eq x) seen)) (x ∷ rest) rest (ap not f))
          ∙ ap (λ b. p x && b) (unseen-enough p seen xs n)
    ]

all-member : (p : ℕ → Bool) (xs : List ℕ) (x : ℕ) → list_all p xs ≡ true → list_any (nat_eq x) xs ≡ true → p x ≡ true
all-member p [] x a i = absurd (true≢false (sym i))
all-member p (y ∷ xs) x a i =
    let q = and_parts (p y) (list_all p xs) a in
    elim (or_cases (nat_eq x y) (list_any (nat_eq x) xs) i) [
      | inl e ↦ ap p ((Decides-eqb x y).0 e) ∙ q.0
      | inr j ↦ all-member p xs x q.1 j
    ]

flat-tests : (v : Sub) (seen : List ℕ) (body : List Item) → ((x : ℕ) → list_any (nat_eq x) seen ≡ true → is_number (v x) ≡ true) → list_all (holds v) (flat_map test_of (flat_after seen body)) ≡ list_all (is_test_true v) body
flat-tests v seen [] n = refl
flat-tests v seen (item.Call l ∷ body) n = flat-tests v seen body n
flat-tests v seen (item.Equal t u ∷ body) n = ap (λ b. holds v (con.Eq t u) && b) (flat-tests v seen body n)
flat-tests v seen (item.Differ t u ∷ body) n = ap (λ b. holds v (con.Neq t u) && b) (flat-tests v seen body n)
flat-tests v seen (item.Linear l ∷ body) n =
    let new = map number_test (unseen seen l.vars) in
    let later = flat_after (seen ++ l.vars) body in
    let are : Bool = list_all (λ x. is_number (v x)) l.vars in
    let row : Bool = row_holds v l.row in
    let parts : list_all (holds v) (flat_map test_of (new ++ flat.Test (con.Row l.row) ∷ later)) ≡ (are && (row && list_all (holds v) (flat_map test_of later))) =
    ap (list_all (holds v)) (tests-append new (flat.Test (con.Row l.row) ∷ later))
    ∙ list_all-append (holds v) (flat_map test_of new) (con.Row l.row ∷ flat_map test_of later)
    ∙ ap (λ b. b && (row && list_all (holds v) (flat_map test_of later)))
    (numbers-hold v (unseen seen l.vars) ∙ unseen-enough (λ x. is_number (v x)) seen l.vars n) in
    parts ∙ by are refl (λ k. flat-tests v (seen ++ l.vars) body k)
  where
    by : (b : Bool) → list_all (λ x. is_number (v x)) l.vars ≡ b
        → (((x : ℕ) → list_any (nat_eq x) (seen ++ l.vars) ≡ true → is_number (v x) ≡ true)
        → list_all (holds v) (flat_map test_of (flat_after (seen ++ l.vars) body)) ≡ list_all (is_test_true v) body)
        → (b && (row_holds v l.row && list_all (holds v) (flat_map test_of (flat_after (seen ++ l.vars) body))))
        ≡ ((list_all (λ x. is_number (v x)) l.vars && row_holds v l.row) && list_all (is_test_true v) body)
    by false e f = ap (λ z. (z && row_holds v l.row) && list_all (is_test_true v) body) (sym e)
    by true e f =
        ap (λ z. row_holds v l.row && z) (f later)
        ∙ ap (λ z. (z && row_holds v l.row) && list_all (is_test_true v) body) (sym e)
      where
        later : (x : ℕ) → list_any (nat_eq x) (seen ++ l.vars) ≡ true → is_number (v x) ≡ true
        later x i =
            elim (or_cases (list_any (nat_eq x) seen) (list_any (nat_eq x) l.vars) (sym (list_any-append (nat_eq x) seen l.vars) ∙ i)) [
              | inl j ↦ n x j
              | inr j ↦ all-member (λ y. is_number (v y)) l.vars x e j
            ]

-- the tests of an instance, where none overflows
pub body-tested : (v : Sub) (c : Clause) (b : Bool) → all_tested v (body_tests c) ≡ Some b → b ≡ list_all (is_test_true v) c.body
body-tested v c b e = all-hold v (body_tests c) b e ∙ flat-tests v [] c.body (λ x i. absurd (true≢false (sym i)))
