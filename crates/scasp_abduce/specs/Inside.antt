-- What private functions alone speak of.
use Rattle.std.specs.Prelude.{◌≡◌, ℕ, ◌||◌, List}
use Rattle.scasp_abduce.specs.Occurrences.{has}

-- the numbers of the list, and those of the other, and no more
abbrev pub HasBoth : List ℕ → List ℕ → List ℕ → Type 0
HasBoth all some others = (n : ℕ) → has all n ≡ (has some n || has others n)
