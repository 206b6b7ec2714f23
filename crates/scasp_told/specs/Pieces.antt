-- Lists of pieces, and how they change.
use Rattle.std.specs.Prelude.{ℕ, zero, suc, List, [], ◌∷◌, ◌++◌, slice_set}

-- one more item at the end of the piece of this number
abbrev pub grown_at : {T : Type 0} → ℕ → T → List (List T) → List (List T)
grown_at n x [] = []
grown_at zero x (p ∷ ps) = (p ++ x ∷ []) ∷ ps
grown_at (suc n) x (p ∷ ps) = p ∷ grown_at n x ps

-- the last two pieces are one
abbrev pub join_last : {T : Type 0} → List (List T) → List (List T)
join_last [] = []
join_last (p ∷ []) = p ∷ []
join_last (p ∷ q ∷ []) = (p ++ q) ∷ []
join_last (p ∷ q ∷ r ∷ ps) = p ∷ join_last (q ∷ r ∷ ps)

abbrev pub last_of : {T : Type 0} → List (List T) → List T
last_of [] = []
last_of (p ∷ []) = p
last_of (p ∷ q ∷ ps) = last_of (q ∷ ps)

-- another item at this place of the last piece
abbrev pub set_last : {T : Type 0} → ℕ → T → List (List T) → List (List T)
set_last k x [] = []
set_last k x (p ∷ []) = slice_set p k x ∷ []
set_last k x (p ∷ q ∷ ps) = p ∷ set_last k x (q ∷ ps)
