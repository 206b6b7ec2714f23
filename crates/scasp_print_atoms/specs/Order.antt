-- Texts in byte order.
use Rattle.std.specs.Prelude.{ℕ, Bool, if◌then◌else◌, List, [], ◌∷◌}
use Rattle.std.specs.Cmp.Lexicographic.{slice_cmp}
use Rattle.std.specs.Ordering.{is_lt, nat_cmp}

-- the first text comes before the second: by the first byte at which they differ, where the end comes before each byte
abbrev pub is_before : List ℕ → List ℕ → Bool
is_before s t = is_lt (slice_cmp nat_cmp s t)

-- the text in front of the first one that does not come before it
abbrev pub put_among : List ℕ → List (List ℕ) → List (List ℕ)
put_among t [] = t ∷ []
put_among t (s ∷ ss) = if is_before s t then s ∷ put_among t ss else t ∷ s ∷ ss

abbrev pub in_byte_order : List (List ℕ) → List (List ℕ)
in_byte_order [] = []
in_byte_order (t ∷ ts) = put_among t (in_byte_order ts)
