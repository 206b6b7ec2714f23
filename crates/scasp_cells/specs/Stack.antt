-- What callers see of a `Cells`.
use Rattle.std.specs.Prelude.{ℕ, List}

-- the items, oldest first, and for how many more there is room already
pub record Stack (X : Type 0) : Type 0 where
  pub items : List X
  pub spare : ℕ
