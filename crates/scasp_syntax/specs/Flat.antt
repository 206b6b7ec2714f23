-- Flat bodies: a body as literals and atomic constraints.
use Rattle.std.specs.Prelude.{ℕ, not, nat_eq, List, [], ◌∷◌, ◌++◌, map, filter}
use Rattle.std.specs.List.{list_any}
use Rattle.scasp_syntax.specs.declared.clause.FlatItem.{FlatItem}
use Rattle.scasp_syntax.specs.declared.clause.FlatItem.TheVariants as flat
use Rattle.scasp_syntax.specs.declared.clause.Item.{Item}
use Rattle.scasp_syntax.specs.declared.clause.Item.TheVariants.{Call, Equal, Differ, Linear}
use Rattle.scasp_syntax.specs.declared.con.Con.TheVariants as con
use Rattle.scasp_syntax.specs.declared.term.Term.TheVariants.{Var}

-- the test that the variable is a number
abbrev pub number_test : ℕ → FlatItem
number_test x = flat.Test (con.Num (Var x))

-- the variables that are not among those seen
abbrev pub unseen : List ℕ → List ℕ → List ℕ
unseen seen xs = filter (λ x. not (list_any (nat_eq x) seen)) xs

-- The items behind those that tested these variables to be numbers. A linear item first tests each of its variables that was not.
abbrev pub flat_after : List ℕ → List Item → List FlatItem
flat_after seen [] = []
flat_after seen (Call l ∷ items) = flat.Call l ∷ flat_after seen items
flat_after seen (Equal t s ∷ items) = flat.Test (con.Eq t s) ∷ flat_after seen items
flat_after seen (Differ t s ∷ items) = flat.Test (con.Neq t s) ∷ flat_after seen items
flat_after seen (Linear l ∷ items) =
    map number_test (unseen seen l.vars) ++ flat.Test (con.Row l.row) ∷ flat_after (seen ++ l.vars) items

-- the flat body that a body is
abbrev pub flat_body : List Item → List FlatItem
flat_body body = flat_after [] body
