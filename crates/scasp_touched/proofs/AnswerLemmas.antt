-- Answers for each number.
use Rattle.std.proofs.Common.{◌≡◌, ◌∙◌, ℕ, zero, suc, ◌+◌, ◌<◌, ◌≤◌, Bool, true, List, [], ◌∷◌, ◌++◌, length, max, Option, None, Some, refl, ap, sym, inl, inr, arith, below_more, length-append}
use Rattle.std.specs.List.{slice_get}
use Rattle.std.specs.Option.{option_eq}
use Rattle.std.proofs.lemmas.Bool.{cases_lt}
use Rattle.std.proofs.lemmas.Option.{slice_get_past}
use Rattle.scasp_syntax.specs.Programs.{numbered}
use Rattle.scasp_touched.specs.Told.{answer_in, told}

pub get-before : {A : Type 0} (xs : List A) (x : A) (n : ℕ) → n < length xs → slice_get (xs ++ x ∷ []) n ≡ slice_get xs n
get-before [] x n h = absurd (omega (arith, h))
get-before (y ∷ ys) x zero h = refl
get-before (y ∷ ys) x (suc n) h = get-before ys x n (omega (arith, h))

pub get-last : {A : Type 0} (xs : List A) (x : A) → slice_get (xs ++ x ∷ []) (length xs) ≡ Some x
get-last [] x = refl
get-last (y ∷ ys) x = get-last ys x

module _ {A : Type 0} (E : A → A → Bool) (xs ys : List A) where
  -- the answer at a place
  abbrev pub at_place : ℕ → Bool
  at_place n = option_eq E (slice_get xs n) (slice_get ys n)

  -- the first answers
  pub record Answered (answers : List Bool) (i : ℕ) : Type 0 where
    pub count : length answers ≡ i
    pub are : (n : ℕ) → n < i → slice_get answers n ≡ Some (at_place n)

  pub answered-none : (answers : List Bool) → answers ≡ [] → Answered answers 0
  answered-none answers e = record { count = ap length e; are = λ n h. absurd (omega (arith, h)) }

  pub answered-more : (answers more : List Bool) (i : ℕ) (answer : Bool) → Answered answers i → answer ≡ at_place i → more ≡ answers ++ answer ∷ []
      → Answered more (i + 1)
  answered-more answers more i answer a e f = record {
    count = ap length f ∙ length-append answers (answer ∷ []) ∙ ap (λ n. n + 1) a.count;
    are = below_more (λ n. slice_get more n ≡ Some (at_place n)) i
        (λ n h. (let below : n < length answers = omega (arith, h, a.count) in ap (λ z. slice_get z n) f ∙ get-before answers answer n below ∙ a.are n h))
        (ap (λ z. slice_get z i) f ∙ ap (slice_get (answers ++ answer ∷ [])) (sym a.count) ∙ get-last answers answer ∙ ap Some e);
  }

  pub answered-all : (answers : List Bool) (i : ℕ) → Answered answers i → length xs ≤ i → length ys ≤ i
      → (n : ℕ) → told answers n ≡ option_eq E (numbered xs n) (numbered ys n)
  answered-all answers i a left right zero = refl
  answered-all answers i a left right (suc n) =
      elim (cases_lt n i) [
        | inl before ↦ ap answer_in (a.are n before)
        | inr after ↦
            (let none : slice_get answers n ≡ None = slice_get_past answers n (omega (arith, after, a.count)) in
            let first : slice_get xs n ≡ None = slice_get_past xs n (omega (arith, after, left)) in
            let second : slice_get ys n ≡ None = slice_get_past ys n (omega (arith, after, right)) in
            ap answer_in none ∙ sym (λ k. option_eq E (first k) (second k)))
      ]
