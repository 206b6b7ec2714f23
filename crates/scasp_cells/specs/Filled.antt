-- How the items lie in the segments.
use Rattle.std.specs.Prelude.{◌≡◌, ℕ, ◌+◌, ◌-◌, ◌^◌, ◌<◌, min, List, [], ◌∷◌, ◌++◌, length}
use Rattle.scasp_cells.specs.declared.segment.Segment.{Segment}
use Rattle.scasp_cells.specs.Stack.{Stack}

-- the items of the segments, one segment after another
abbrev pub joined : {X Z : Type 0} → List (Segment X Z) → List X
joined [] = []
joined (s ∷ ss) = s.items ++ joined ss

-- each segment has room for twice as many items as the one before it, the first for `size`, and `len` items fill them in order
abbrev pub FillsFrom : {X Z : Type 0} → ℕ → ℕ → List (Segment X Z) → Type 0
FillsFrom size len [] = len ≡ 0
FillsFrom size len (s ∷ ss) = (s.cap ≡ size) × (s.len ≡ min len size) × FillsFrom (size + size) (len - size) ss

-- `len` items in segments for 1, 2, 4, .. items, fewer than 64 of them
pub record IsFilled {X Z : Type 0} (len : ℕ) (segments : List (Segment X Z)) : Type 0 where
  pub in_order : FillsFrom 1 len segments
  pub within : len < 2 ^ length segments
  pub few : length segments < 64

-- what callers see of them
abbrev pub stack_of : {X Z : Type 0} → ℕ → List (Segment X Z) → Stack X
stack_of len segments = record { items = joined segments; spare = (2 ^ length segments - 1) - len }
