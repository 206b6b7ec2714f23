-- The least model of rules without `not`, by rounds from nothing.
use Rattle.std.specs.Prelude.{ℕ, zero, suc, Bool, true, ◌&&◌, not, List, [], ◌∷◌, ◌++◌, length, if◌then◌else◌}
use Rattle.std.specs.List.{list_all}
use Rattle.scasp_syntax.specs.declared.atom.Atom.{Atom}
use Rattle.scasp_model.specs.Atoms.{among, has_all}
use Rattle.scasp_model.specs.declared.program.DefiniteRule.{DefiniteRule}

-- the atoms so far, and behind them the head of the rule where its body is present and the head is new
abbrev pub with_head : List Atom → List Atom → DefiniteRule → List Atom
with_head present got r =
    if has_all present r.body && not (among got r.head) then got ++ r.head ∷ [] else got

-- likewise for each rule in order
abbrev pub with_heads : List Atom → List Atom → List DefiniteRule → List Atom
with_heads present got [] = got
with_heads present got (r ∷ rs) = with_heads present (with_head present got r) rs

-- one round: every head whose body atoms are all present
abbrev pub round : List DefiniteRule → List Atom → List Atom
round rs present = with_heads present present rs

-- the atoms after n rounds from nothing
abbrev pub rounds : List DefiniteRule → ℕ → List Atom
rounds rs zero = []
rounds rs (suc n) = round rs (rounds rs n)

-- each round that is not the last adds a head, so there are at most as many as rules
abbrev pub least_model : List DefiniteRule → List Atom
least_model rs = rounds rs (length rs)

-- each rule whose body the list has, it has the head of
abbrev pub is_closed : List DefiniteRule → List Atom → Bool
is_closed rs atoms = list_all (λ r. if has_all atoms r.body then among atoms r.head else true) rs
