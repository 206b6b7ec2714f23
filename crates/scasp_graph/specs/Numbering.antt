-- Predicates by their places in a list.
use Rattle.std.specs.Prelude.{ℕ, ◌+◌, List, [], ◌∷◌, if◌then◌else◌}
use Rattle.scasp_syntax.specs.Same.{same_pred}
use Rattle.scasp_syntax.specs.declared.atom.Pred.{Pred}

-- the first place of the predicate, or the length of the list
abbrev pub place_in : List Pred → Pred → ℕ
place_in [] p = 0
place_in (x ∷ xs) p = if same_pred p x then 0 else place_in xs p + 1
