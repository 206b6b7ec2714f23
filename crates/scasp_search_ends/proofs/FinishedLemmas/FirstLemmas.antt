-- Numbers at their first places.
use Rattle.std.specs.Prelude.{◌≡◌, ℕ, nat_eq, Bool, true, false, not, ◌&&◌, ◌||◌, if◌then◌else◌, List, [], ◌∷◌, ◌++◌, filter, refl}
use Rattle.std.proofs.Common.{append_assoc, arith, sym, ap, ◌∙◌}
use Rattle.std.proofs.lemmas.Bool.Decides.{nat_tests}
use Rattle.std.proofs.lemmas.List.Folds.{list_any-append}
use Rattle.scasp_search_rules.specs.Successors.Numbering.{firsts}
use Rattle.scasp_search_rules.specs.Successors.Reading.{among}

-- those of the numbers that are not among these
abbrev pub left_of : List ℕ → List ℕ → List ℕ
left_of made xs = filter (λ y. not (among y made)) xs

-- those that are not x
abbrev pub but : ℕ → List ℕ → List ℕ
but x ys = filter (λ y. not (nat_eq x y)) ys

twice : (p q r : ℕ → Bool) (xs : List ℕ) → ((y : ℕ) → r y ≡ (q y && p y)) → filter q (filter p xs) ≡ filter r xs
twice p q r [] h = refl
twice p q r (x ∷ xs) h = by (p x) (q x) refl refl (twice p q r xs h)
  where
    by : (a b : Bool) → p x ≡ a → q x ≡ b → filter q (filter p xs) ≡ filter r xs → filter q (filter p (x ∷ xs)) ≡ filter r (x ∷ xs)
    by true true e f rest = let g : r x ≡ true = rw h (rw f e) in rw e (rw f (rw g (ap (λ ys. x ∷ ys) rest)))
    by true false e f rest = let g : r x ≡ false = rw h (rw f refl) in rw e (rw f (rw g rest))
    by false true e f rest = let g : r x ≡ false = rw h (rw f e) in rw e (rw g rest)
    by false false e f rest = let g : r x ≡ false = rw h (rw f refl) in rw e (rw g rest)

among_same : (made : List ℕ) (x y : ℕ) → among x made ≡ true → not (among y made) ≡ (not (among y made) && not (nat_eq x y))
among_same made x y h = by (nat_eq x y) refl
  where
    by : (b : Bool) → nat_eq x y ≡ b → not (among y made) ≡ (not (among y made) && not b)
    by true e = let f : x ≡ y = grind (arith, nat_tests, e) in let g : among y made ≡ true = rw (← f) h in rw g refl
    by false e = and-true (among y made)
      where
        and-true : (a : Bool) → not a ≡ (not a && true)
        and-true true = refl
        and-true false = refl

among_more : (made : List ℕ) (x y : ℕ) → not (among y (made ++ x ∷ [])) ≡ (not (among y made) && not (nat_eq x y))
among_more made x y = rw (list_any-append (nat_eq y) made (x ∷ [])) (by (among y made) (nat_eq y x) (nat_eq x y) (turned x y))
  where
    turned : (a b : ℕ) → nat_eq b a ≡ nat_eq a b
    turned a b = grind (arith, nat_tests)

    by : (a b c : Bool) → b ≡ c → not (a || (b || false)) ≡ (not a && not c)
    by true b c e = refl
    by false true c e = rw (← e) refl
    by false false c e = rw (← e) refl

-- the first is among those that were made
pub first_repeated : (made : List ℕ) (x : ℕ) (ys : List ℕ) → among x made ≡ true → left_of made (x ∷ but x ys) ≡ left_of made ys
first_repeated made x ys h = rw h (twice _ _ _ ys (λ y. among_same made x y h))

-- it is not
pub first_added : (made : List ℕ) (x : ℕ) (ys : List ℕ) → among x made ≡ false → left_of made (x ∷ but x ys) ≡ x ∷ left_of (made ++ x ∷ []) ys
first_added made x ys h = rw h (ap (λ zs. x ∷ zs) (twice _ _ _ ys (λ y. among_more made x y)))

-- ---- one number after the other

pub left-none : (ys : List ℕ) → left_of [] ys ≡ ys
left-none [] = refl
left-none (y ∷ ys) = ap (λ zs. y ∷ zs) (left-none ys)

pub first-next : (made new all : List ℕ) (x : ℕ) (ys : List ℕ) → new ≡ (if among x made then made else made ++ x ∷ []) → made ++ left_of made (firsts (x ∷ ys)) ≡ all
    → new ++ left_of new (firsts ys) ≡ all
first-next made new all x ys e i = by (among x made) refl e
  where
    by : (b : Bool) → among x made ≡ b → new ≡ (if b then made else made ++ x ∷ []) → new ++ left_of new (firsts ys) ≡ all
    by true h e = ap (λ ms. ms ++ left_of ms (firsts ys)) e ∙ ap (λ zs. made ++ zs) (sym (first_repeated made x (firsts ys) h)) ∙ i
    by false h e =
        ap (λ ms. ms ++ left_of ms (firsts ys)) e
        ∙ append_assoc made (x ∷ []) (left_of (made ++ x ∷ []) (firsts ys))
        ∙ ap (λ zs. made ++ zs) (sym (first_added made x (firsts ys) h)) ∙ i
