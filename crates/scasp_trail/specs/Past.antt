-- A list whose changes can be undone: what it is now, and what it was at each mark.
use Rattle.std.specs.Prelude.{Bool, true, false, List, [], ◌∷◌}

-- the list now, and as it was at each mark, the latest first
pub record Past (T : Type 0) : Type 0 where
  pub now : List T
  pub before : List (List T)

-- there is a mark
abbrev pub is_marked : {T : Type 0} → List (List T) → Bool
is_marked [] = false
is_marked (xs ∷ xss) = true

-- the list at the latest of these marks, or as it is now where there is none
abbrev pub latest : {T : Type 0} → List T → List (List T) → List T
latest now [] = now
latest now (xs ∷ xss) = xs

-- the marks without the latest
abbrev pub earlier : {T : Type 0} → List (List T) → List (List T)
earlier [] = []
earlier (xs ∷ xss) = xss
