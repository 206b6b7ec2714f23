-- What holds of each item of a list: weakened, of two lists, at a place, by a test, and of what a filter keeps.
use Rattle.std.proofs.Common.{◌≡◌, ℕ, zero, suc, Bool, true, false, cond, List, [], ◌∷◌, ◌++◌, Some, refl, subst}
use Rattle.std.specs.List.{filter, list_all, slice_get}
use Rattle.std.proofs.lemmas.Bool.{and_from, and_parts}
use Rattle.scasp_list.specs.Each.{Each}

pub Each-map : {A : Type 0} (P Q : A → Type 0) → ((x : A) → P x → Q x) → (xs : List A) → Each P xs → Each Q xs
Each-map P Q f [] e = tt
Each-map P Q f (x ∷ xs) e = (f x e.0, Each-map P Q f xs e.1)

pub Each-left : {A : Type 0} (P : A → Type 0) (xs ys : List A) → Each P (xs ++ ys) → Each P xs
Each-left P [] ys e = tt
Each-left P (x ∷ xs) ys e = (e.0, Each-left P xs ys e.1)

pub Each-right : {A : Type 0} (P : A → Type 0) (xs ys : List A) → Each P (xs ++ ys) → Each P ys
Each-right P [] ys e = e
Each-right P (x ∷ xs) ys e = Each-right P xs ys e.1

pub Each-append : {A : Type 0} (P : A → Type 0) (xs ys : List A) → Each P xs → Each P ys → Each P (xs ++ ys)
Each-append P [] ys e f = f
Each-append P (x ∷ xs) ys e f = (e.0, Each-append P xs ys e.1 f)

pub Each-both : {A : Type 0} (P Q : A → Type 0) (xs : List A) → Each P xs → Each Q xs → Each (λ x. P x × Q x) xs
Each-both P Q [] e f = tt
Each-both P Q (x ∷ xs) e f = ((e.0, f.0), Each-both P Q xs e.1 f.1)

pub Each-at : {A : Type 0} (P : A → Type 0) (xs : List A) (i : ℕ) (x : A) → Each P xs → Some x ≡ slice_get xs i → P x
Each-at P [] i x e f = cc
Each-at P (y ∷ ys) zero x e f = subst P (let same : y ≡ x = cc in same) e.0
Each-at P (y ∷ ys) (suc i) x e f = Each-at P ys i x e.1 f

pub Each-from_test : {A : Type 0} (p : A → Bool) (P : A → Type 0) → ((x : A) → p x ≡ true → P x) → (xs : List A) → list_all p xs ≡ true → Each P xs
Each-from_test p P f [] e = tt
Each-from_test p P f (x ∷ xs) e = let parts = and_parts (p x) (list_all p xs) e in (f x parts.0, Each-from_test p P f xs parts.1)

pub test_from-Each : {A : Type 0} (p : A → Bool) (P : A → Type 0) → ((x : A) → P x → p x ≡ true) → (xs : List A) → Each P xs → list_all p xs ≡ true
test_from-Each p P f [] e = refl
test_from-Each p P f (x ∷ xs) e = and_from (p x) (list_all p xs) (f x e.0) (test_from-Each p P f xs e.1)

pub Each-filter : {A : Type 0} (P : A → Type 0) (p : A → Bool) (xs : List A) → Each P xs → Each P (filter p xs)
Each-filter P p [] e = tt
Each-filter P p (x ∷ xs) e = by (p x) (Each-filter P p xs e.1)
  where
    by : (b : Bool) → Each P (filter p xs) → Each P (cond b (x ∷ filter p xs) (filter p xs))
    by true f = (e.0, f)
    by false f = f
