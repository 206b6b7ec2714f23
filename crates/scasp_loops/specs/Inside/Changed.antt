-- Lists of which one item changes.
use Rattle.std.specs.Prelude.{ℕ, zero, suc, Bool, true, ◌||◌, Option, None, Some, List, [], ◌∷◌}
use Rattle.scasp_loops.specs.declared.entry.Marks.{Marks}

-- the item of this place changed, if there is one
abbrev pub changed : {T : Type 0} → ℕ → (T → T) → List T → List T
changed n f [] = []
changed zero f (x ∷ xs) = f x ∷ xs
changed (suc n) f (x ∷ xs) = x ∷ changed n f xs

abbrev pub looped : Marks → Marks
looped m = record m { loops = true }

abbrev pub done : Marks → Marks
done m = record m { is_done = true }

abbrev pub general_if : Bool → Marks → Marks
general_if b m = record m { is_general = m.is_general || b }

-- the marks of which those of this place loop, if there is one
abbrev pub looped_at : Option ℕ → List Marks → List Marks
looped_at None ms = ms
looped_at (Some n) ms = changed n looped ms
