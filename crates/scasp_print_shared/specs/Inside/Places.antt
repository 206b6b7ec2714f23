-- The lines of each class.
use Rattle.std.specs.Prelude.{ℕ, ◌+◌, ◌==◌, Bool, if◌then◌else◌, List, [], ◌∷◌, map, slice_index_or, Option, None, Some}
use Rattle.smallvec.specs.SmallVec.{SmallVec}
use Rattle.scasp_print_shared.specs.declared.classes.Root.{Root}

-- those of the class, the first of these lines being line n
abbrev pub places_of : ℕ → ℕ → List Root → List ℕ
places_of class n [] = []
places_of class n (m ∷ ms) = if m.class == class then n ∷ places_of class (n + 1) ms else places_of class (n + 1) ms

-- the list of a class, in a list of such lists
abbrev pub listed : List (SmallVec ℕ) → ℕ → List ℕ
listed lists class = slice_index_or (map (λ v. v.items) lists) class []

-- the least number of these lines at which the test holds; numbers begin with 1
abbrev pub first_among : (ℕ → Bool) → List ℕ → Option ℕ
first_among holds [] = None
first_among holds (n ∷ ns) = if holds (n + 1) then Some (n + 1) else first_among holds ns
