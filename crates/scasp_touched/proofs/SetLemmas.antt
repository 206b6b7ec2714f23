-- A test of some item of a set that grew by a list.
use Rattle.std.proofs.Common.{◌≡◌, ◌∙◌, Bool, true, false, ◌||◌, List, [], ◌∷◌, ◌++◌, refl, ap, sym, inl, inr}
use Rattle.std.specs.List.{list_any}
use Rattle.std.proofs.Math.Bool.{or-false}
use Rattle.std.proofs.lemmas.Bool.{cond-true, cond-false, false≢true, or_cases, or_left, or_right}
use Rattle.std.proofs.lemmas.List.Folds.{list_any-append}
use Rattle.indexmap.specs.IndexSet.{insert_all, insert_key}

already : (a b : Bool) → (b ≡ true → a ≡ true) → a ≡ (a || b)
already true b h = refl
already false true h = h refl
already false false h = refl

or-assoc : (a b c : Bool) → ((a || b) || c) ≡ (a || (b || c))
or-assoc true b c = refl
or-assoc false b c = refl

module _ {A : Type 0} (eq : A → A → Bool) (is : (x y : A) → eq x y ≡ true → x ≡ y) (f : A → Bool) where
  known : (k : A) (seen : List A) → list_any (eq k) seen ≡ true → f k ≡ true → list_any f seen ≡ true
  known k [] h e = h
  known k (x ∷ xs) h e =
      elim (or_cases (eq k x) (list_any (eq k) xs) h) [
        | inl s ↦ or_left (f x) (list_any f xs) (ap f (sym (is k x s)) ∙ e)
        | inr r ↦ or_right (f x) (list_any f xs) (known k xs r e)
      ]

  -- one more
  pub any-one : (seen : List A) (k : A) → list_any f (insert_key eq seen k) ≡ (list_any f seen || f k)
  any-one seen k = by (list_any (eq k) seen) refl
    where
      by : (b : Bool) → list_any (eq k) seen ≡ b → list_any f (insert_key eq seen k) ≡ (list_any f seen || f k)
      by true e = ap (list_any f) (cond-true (list_any (eq k) seen) seen (seen ++ k ∷ []) e) ∙ already (list_any f seen) (f k) (known k seen e)
      by false e =
          ap (list_any f) (cond-false (list_any (eq k) seen) seen (seen ++ k ∷ []) e) ∙ list_any-append f seen (k ∷ [])
          ∙ ap (λ z. list_any f seen || z) (or-false (f k))

  pub any-all : (seen ks : List A) → list_any f (insert_all eq seen ks) ≡ (list_any f seen || list_any f ks)
  any-all seen [] = sym (or-false (list_any f seen))
  any-all seen (k ∷ ks) =
      any-all (insert_key eq seen k) ks ∙ ap (λ z. z || list_any f ks) (any-one seen k) ∙ or-assoc (list_any f seen) (f k) (list_any f ks)
