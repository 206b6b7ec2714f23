-- Lists that are made by functions and tests that agree on the members.
use Rattle.std.proofs.Common.{◌≡◌, ◌∷◌, ◌++◌, Bool, true, false, cond, List, [], refl, inl, inr}
use Rattle.std.specs.List.{Contains, list_any, filter, flat_map}
use Rattle.std.proofs.lemmas.Bool.{cases_Bool}
use Rattle.scasp_list.proofs.MemberLemmas.{Contains-here, Contains-there}

module _ {X : Type 0} (p q : X → Bool) where
  pub filter-same : (xs : List X) → ((x : X) → Contains xs x → p x ≡ q x) → filter p xs ≡ filter q xs
  filter-same [] f = refl
  filter-same (x ∷ xs) f = rw (f x (Contains-here x xs), filter-same xs (λ y i. f y (Contains-there x xs y i))) refl

  pub list_any-same : (xs : List X) → ((x : X) → Contains xs x → p x ≡ q x) → list_any p xs ≡ list_any q xs
  list_any-same [] f = refl
  list_any-same (x ∷ xs) f = rw (f x (Contains-here x xs), list_any-same xs (λ y i. f y (Contains-there x xs y i))) refl

module _ {X : Type 0} (p : X → Bool) where
  pub filter-all : (xs : List X) → ((x : X) → Contains xs x → p x ≡ true) → filter p xs ≡ xs
  filter-all [] f = refl
  filter-all (x ∷ xs) f = rw (f x (Contains-here x xs), filter-all xs (λ y i. f y (Contains-there x xs y i))) refl

  pub filter-none : (xs : List X) → ((x : X) → Contains xs x → p x ≡ false) → filter p xs ≡ []
  filter-none [] f = refl
  filter-none (x ∷ xs) f = rw (f x (Contains-here x xs)) (filter-none xs (λ y i. f y (Contains-there x xs y i)))

-- what a function gives of the members that a test takes
abbrev pub taken : {X Y : Type 0} → (X → Bool) → (X → List Y) → X → List Y
taken p h x = cond (p x) (h x) []

module _ {X Y : Type 0} where
  taken-cons : (p : X → Bool) (h : X → List Y) (x : X) (xs : List X) → flat_map h (filter p (x ∷ xs)) ≡ taken p h x ++ flat_map h (filter p xs)
  taken-cons p h x xs = elim (cases_Bool (p x)) [ inl e ↦ rw e refl | inr e ↦ rw e refl ]

  pub taken-same : (p q : X → Bool) (h k : X → List Y) (xs : List X) → ((x : X) → Contains xs x → taken p h x ≡ taken q k x) → flat_map h (filter p xs) ≡ flat_map k (filter q xs)
  taken-same p q h k [] f = refl
  taken-same p q h k (x ∷ xs) f =
      rw (taken-cons p h x xs, taken-cons q k x xs, f x (Contains-here x xs), taken-same p q h k xs (λ y i. f y (Contains-there x xs y i))) refl
