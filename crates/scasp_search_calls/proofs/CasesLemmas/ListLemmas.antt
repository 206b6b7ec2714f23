-- The first item of a list, and the others.
use Rattle.std.specs.Prelude.{◌≡◌, ◌<◌, List, [], ◌∷◌, length}
use Rattle.std.specs.List.{remove}
use Rattle.std.proofs.Common.{arith, sym, ap, get_or}

pub first_removed : {X : Type 0} (xs : List X) (x : X) → 0 < length xs → x ≡ get_or xs 0 x → xs ≡ x ∷ remove xs 0
first_removed [] x h e = absurd (omega (arith, h))
first_removed (y ∷ ys) x h e = ap (λ z. z ∷ ys) (sym e)
