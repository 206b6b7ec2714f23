-- Items of a list and of its front.
use Rattle.std.proofs.Common.{◌≡◌, ℕ, zero, suc, ◌+◌, ◌<◌, ◌≤◌, List, [], ◌∷◌, ◌++◌, length, take, Some, slice_get, ◌⊎◌, inl, inr, refl, ap, arith}

module _ {A : Type 0} where
  pub slice_get-front : (xs ys : List A) (i : ℕ) → i < length xs → slice_get (xs ++ ys) i ≡ slice_get xs i
  slice_get-front [] ys i h = absurd (omega (arith, h))
  slice_get-front (x ∷ xs) ys zero h = refl
  slice_get-front (x ∷ xs) ys (suc i) h = slice_get-front xs ys i (omega (arith, h))

  pub slice_get-end : (xs : List A) (x : A) → slice_get (xs ++ x ∷ []) (length xs) ≡ Some x
  slice_get-end [] x = refl
  slice_get-end (y ∷ ys) x = slice_get-end ys x

  -- an item is one of the front, or the last one
  pub front_or_end : (xs : List A) (x y : A) (i : ℕ) → slice_get (xs ++ x ∷ []) i ≡ Some y → ((i < length xs) × (slice_get xs i ≡ Some y)) ⊎ ((i ≡ length xs) × (y ≡ x))
  front_or_end [] x y zero e = inr (refl, cc)
  front_or_end [] x y (suc i) e = cc
  front_or_end (z ∷ zs) x y zero e = inl (omega arith, e)
  front_or_end (z ∷ zs) x y (suc i) e = by (front_or_end zs x y i e)
    where
      by : ((i < length zs) × (slice_get zs i ≡ Some y)) ⊎ ((i ≡ length zs) × (y ≡ x)) → ((suc i < length (z ∷ zs)) × (slice_get zs i ≡ Some y)) ⊎ ((suc i ≡ length (z ∷ zs)) × (y ≡ x))
      by (inl p) = inl (omega (arith, p.0), p.1)
      by (inr p) = inr (ap suc p.0, p.1)

  -- an item of the first n is an item
  pub slice_get-take : (xs : List A) (n i : ℕ) (x : A) → slice_get (take n xs) i ≡ Some x → (i < n) × (slice_get xs i ≡ Some x)
  slice_get-take [] zero i x e = cc
  slice_get-take [] (suc n) i x e = cc
  slice_get-take (y ∷ ys) zero i x e = cc
  slice_get-take (y ∷ ys) (suc n) zero x e = (omega arith, e)
  slice_get-take (y ∷ ys) (suc n) (suc i) x e = let p = slice_get-take ys n i x e in (omega (arith, p.0), p.1)

  pub take-take : (xs : List A) (m n : ℕ) → m ≤ n → take m (take n xs) ≡ take m xs
  take-take [] zero n h = refl
  take-take [] (suc m) zero h = refl
  take-take [] (suc m) (suc n) h = refl
  take-take (x ∷ xs) zero n h = refl
  take-take (x ∷ xs) (suc m) zero h = absurd (omega (arith, h))
  take-take (x ∷ xs) (suc m) (suc n) h = ap (λ l. x ∷ l) (take-take xs m n (omega (arith, h)))

  pub take_short : (xs : List A) (n : ℕ) → length xs ≤ n → take n xs ≡ xs
  take_short [] zero h = refl
  take_short [] (suc n) h = refl
  take_short (x ∷ xs) zero h = absurd (omega (arith, h))
  take_short (x ∷ xs) (suc n) h = ap (λ l. x ∷ l) (take_short xs n (omega (arith, h)))

  -- a list is its front and its last item
  pub front_and_last : (xs : List A) (n : ℕ) (x : A) → slice_get xs n ≡ Some x → length xs ≡ n + 1 → xs ≡ take n xs ++ x ∷ []
  front_and_last [] n x e h = cc
  front_and_last (y ∷ []) zero x e h = let s : y ≡ x = cc in ap (λ z. z ∷ []) s
  front_and_last (y ∷ []) (suc n) x e h = cc
  front_and_last (y ∷ z ∷ zs) zero x e h = absurd (omega (arith, h))
  front_and_last (y ∷ z ∷ zs) (suc n) x e h = ap (λ l. y ∷ l) (front_and_last (z ∷ zs) n x e (omega (arith, h)))
