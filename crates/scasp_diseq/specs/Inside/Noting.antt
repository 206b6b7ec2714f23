-- What it does to the places of each variable's mentions that some are noted.
use Rattle.std.specs.Prelude.{◌≡◌, ℕ, Bool, false, nat_eq, ◌&&◌, not, if◌then◌else◌, List, [], ◌∷◌, ◌++◌, Option, None, Some}
use Rattle.std.specs.List.{last_or}
use Rattle.scasp_diseq.specs.Inside.Chains.{places_of}
use Rattle.scasp_diseq.specs.declared.mentions.Mention.{Mention}

abbrev pub is_some_of : ℕ → Option ℕ → Bool
is_some_of p None = false
is_some_of p (Some q) = nat_eq q p

-- the place is the last one
abbrev pub ends_with : ℕ → List ℕ → Bool
ends_with p ps = is_some_of p (last_or None ps)

-- the places, and where b holds this one at their end
abbrev pub with_place : ℕ → Bool → List ℕ → List ℕ
with_place p b ps = if b && not (ends_with p ps) then ps ++ p ∷ [] else ps

-- each variable that passes has now a mention at the place
abbrev pub Notes : ℕ → (ℕ → Bool) → List Mention → List Mention → Type 0
Notes p q earlier later = (y : ℕ) → places_of y later ≡ with_place p (q y) (places_of y earlier)

-- what was to be noted first comes to what is to be noted still
abbrev pub Seen : ℕ → (ℕ → Bool) → (ℕ → Bool) → List Mention → List Mention → Type 0
Seen p first still earlier later = (y : ℕ) → with_place p (still y) (places_of y later) ≡ with_place p (first y) (places_of y earlier)
