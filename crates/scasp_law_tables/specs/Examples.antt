-- A sample by two tables, computed.
use Rattle.std.specs.Prelude.{◌≡◌, ℕ, true, false, List, [], ◌∷◌, codes}
use Rattle.std.proofs.Common.{refl}
use Rattle.scasp_syntax.specs.Tm.{Tms, app, nil, cons}
use Rattle.scasp_law_tables.specs.Moved.{all_renamed, are_values, moving}

-- a run has put the names w0 and w1 behind those of the program
abbrev written : List (List ℕ)
written = codes "[]" ∷ codes "[|]" ∷ codes "p" ∷ codes "w0" ∷ codes "w1" ∷ []

-- a reader has put other words of the file before them
abbrev read : List (List ℕ)
read = codes "[]" ∷ codes "[|]" ∷ codes "p" ∷ codes "w0" ∷ codes "rule" ∷ codes "w1" ∷ []

-- [w0,w1]
abbrev sample : Tms
sample = cons (app 3 nil) (cons (app 4 nil) nil)

are_behind : are_values 3 5 sample ≡ true
are_behind = refl

-- p is a name of the program
not_behind : are_values 3 5 (cons (app 2 nil) nil) ≡ false
not_behind = refl

moves : all_renamed (moving written read) sample ≡ cons (app 3 nil) (cons (app 5 nil) nil)
moves = refl
