-- What holds of each item of a list, and its members.
use Rattle.std.proofs.Common.{◌≡◌, inl, inr, Bool, true, false, ◌||◌, not, List, [], ◌∷◌, refl, subst}
use Rattle.std.specs.List.{Contains}
use Rattle.scasp_list.specs.Each.{Each}
use Rattle.scasp_list.proofs.MemberLemmas.{Contains-none, Contains-here, Contains-there, Contains-cases}

pub or-left : (a b : Bool) → a ≡ true → (a || b) ≡ true
or-left true b e = refl
or-left false b e = cc

pub or-right : (a b : Bool) → b ≡ true → (a || b) ≡ true
or-right true b e = refl
or-right false b e = e

pub not-false : (b c : Bool) → (not b || c) ≡ false → (b ≡ true) × (c ≡ false)
not-false true c e = (refl, e)
not-false false c e = cc

pub Each-member : {A : Type 0} → (P : A → Type 0) (xs : List A) (x : A) → Each P xs → Contains xs x → P x
Each-member P [] x h i = absurd (Contains-none x i)
Each-member P (y ∷ xs) x h i = elim (Contains-cases y xs x i) [ inl e ↦ subst P e h.0 | inr j ↦ Each-member P xs x h.1 j ]

pub Each-from : {A : Type 0} → (P : A → Type 0) (xs : List A) → ((x : A) → Contains xs x → P x) → Each P xs
Each-from P [] h = tt
Each-from P (x ∷ xs) h = (h x (Contains-here x xs), Each-from P xs (λ y i. h y (Contains-there x xs y i)))

pub Each-self : {A : Type 0} → (xs : List A) → Each (Contains xs) xs
Each-self xs = Each-from (Contains xs) xs (λ x i. i)
