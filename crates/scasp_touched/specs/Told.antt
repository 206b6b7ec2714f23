-- Answers for each number from 1.
use Rattle.std.specs.Prelude.{ℕ, zero, suc, Bool, true, List, Option, None, Some, slice_get}

abbrev pub answer_in : Option Bool → Bool
answer_in None = true
answer_in (Some b) = b

-- the answer for the number; yes where there is none
abbrev pub told : List Bool → ℕ → Bool
told answers zero = true
told answers (suc n) = answer_in (slice_get answers n)
