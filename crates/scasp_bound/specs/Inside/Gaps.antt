-- Bindings kept with gaps where some were taken out.
use Rattle.std.specs.Prelude.{ℕ, zero, suc, Bool, true, false, nat_eq, if◌then◌else◌, List, [], ◌∷◌, map, slice_get, Option, None, Some}
use Rattle.scasp_trail.specs.Past.{Past}
use Rattle.scasp_unify.specs.declared.bindings.Binding.{Binding}
use Rattle.scasp_bound.specs.Bounds.{among, without}

-- the bindings that were not taken out
abbrev pub present : List (Option Binding) → List Binding
present [] = []
present (None ∷ os) = present os
present (Some b ∷ os) = b ∷ present os

abbrev pub past_present : Past (Option Binding) → Past Binding
past_present p = record { now = present p.now; before = map present p.before }

abbrev pub is_of : ℕ → Option Binding → Bool
is_of x None = false
is_of x (Some b) = nat_eq b.x x

-- the place of the first binding of the variable, where the first place is k
abbrev pub first_from : ℕ → ℕ → List (Option Binding) → Option ℕ
first_from k x [] = None
first_from k x (o ∷ os) = if is_of x o then Some k else first_from (suc k) x os

abbrev pub joined : {A : Type 0} → Option (Option A) → Option A
joined None = None
joined (Some o) = o

-- what stands at a place, or is noted of a variable
abbrev pub item : {A : Type 0} → List (Option A) → ℕ → Option A
item os k = joined (slice_get os k)

abbrev pub item_at : {A : Type 0} → List (Option A) → Option ℕ → Option A
item_at os None = None
item_at os (Some k) = item os k

-- a gap where it is a binding of the variable
abbrev pub kept_of : ℕ → Option Binding → Option Binding
kept_of x o = if is_of x o then None else o

-- the items with those of the variable taken out, and with those of the first n
abbrev pub gaps : ℕ → List (Option Binding) → List (Option Binding)
gaps x os = map (kept_of x) os

abbrev pub gaps_to : ℕ → ℕ → List (Option Binding) → List (Option Binding)
gaps_to zero x os = os
gaps_to (suc n) x [] = []
gaps_to (suc n) x (o ∷ os) = kept_of x o ∷ gaps_to n x os

-- the item of this place taken out, if it is of the variable
abbrev pub emptied : ℕ → ℕ → List (Option Binding) → List (Option Binding)
emptied n x [] = []
emptied zero x (o ∷ os) = kept_of x o ∷ os
emptied (suc n) x (o ∷ os) = o ∷ emptied n x os

abbrev pub without_unless : Bool → ℕ → List Binding → List Binding
without_unless true x bs = bs
without_unless false x bs = without x bs

-- one variable after the other
abbrev pub each_out : List ℕ → List ℕ → List Binding → List Binding
each_out [] but bs = bs
each_out (x ∷ xs) but bs = each_out xs but (without_unless (among x but) x bs)
