-- The end of a list.
use Rattle.std.specs.Prelude.{◌≡◌, ℕ, ◌-◌, ◌≤◌, List, drop, length}

-- the last n items
abbrev pub last_of : {A : Type 0} → ℕ → List A → List A
last_of n xs = drop (length xs - n) xs

-- the list has at least n items, the last of which are these; or it has fewer
abbrev pub EndsWith : {A : Type 0} → ℕ → List A → List A → Type 0
EndsWith n end xs = n ≤ length xs → end ≡ last_of n xs
