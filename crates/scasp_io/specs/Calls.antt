-- The calls of an object in memory that are to fail.
use Rattle.std.specs.Prelude.{ℕ, ◌==◌, Bool, List}
use Rattle.std.specs.List.{list_any}

-- the call has one of the numbers
abbrev pub is_among : List ℕ → ℕ → Bool
is_among numbers call = list_any (λ number. number == call) numbers
