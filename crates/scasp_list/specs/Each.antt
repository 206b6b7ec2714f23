-- What holds of each item of a list, one item after the other.
use Rattle.std.specs.Prelude.{List}
use Rattle.std.specs.List.{AllByRecursion}

-- P holds of each item
abbrev pub Each : {A : Type 0} → (A → Type 0) → List A → Type 0
Each P xs = AllByRecursion P xs
