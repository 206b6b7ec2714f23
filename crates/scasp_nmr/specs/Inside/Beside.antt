-- Ascending numbers that are taken off one by one.
use Rattle.std.specs.Prelude.{ℕ, Bool, false, nat_eq, List, [], ◌∷◌, if◌then◌else◌}

-- the number is the first of the list
abbrev pub begins_with : ℕ → List ℕ → Bool
begins_with n [] = false
begins_with n (x ∷ xs) = nat_eq n x

-- the numbers behind this one where it is the first, else all
abbrev pub behind : ℕ → List ℕ → List ℕ
behind n [] = []
behind n (x ∷ xs) = if nat_eq n x then xs else x ∷ xs
