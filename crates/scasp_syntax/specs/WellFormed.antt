-- What each program keeps of its variables and of its rows.
use Rattle.std.specs.Prelude.{ℕ, Bool, true, not, ◌&&◌, nat_eq, nat_lt, List, [], ◌∷◌, length, Option, None, Some, ⊤}
use Rattle.std.specs.List.{list_all, list_any}
use Rattle.scasp_num.specs.Linear.{IsNormal, is_normal}
use Rattle.scasp_syntax.specs.Same.{same_pred}
use Rattle.scasp_syntax.specs.Tm.{Tm, Tms, var, num, app, nil, cons}
use Rattle.scasp_syntax.specs.View.{tm_of}
use Rattle.scasp_syntax.specs.declared.atom.Atom.{Atom}
use Rattle.scasp_syntax.specs.declared.atom.Pred.{Pred}
use Rattle.scasp_syntax.specs.declared.clause.Clause.{Clause}
use Rattle.scasp_syntax.specs.declared.clause.Item.{Item}
use Rattle.scasp_syntax.specs.declared.clause.Item.TheVariants.{Call, Equal, Differ, Linear}
use Rattle.scasp_syntax.specs.declared.clause.Lin.{Lin}
use Rattle.scasp_syntax.specs.declared.clause.Query.{Query}

-- every variable is below n
abbrev mutual
  pub is_below : ℕ → Tm → Bool
  is_below n (var x) = nat_lt x n
  is_below n (num q) = true
  is_below n (app f ts) = are_below n ts

  pub are_below : ℕ → Tms → Bool
  are_below n nil = true
  are_below n (cons t ts) = is_below n t && are_below n ts

-- each number is below those after it
abbrev pub ascends : List ℕ → Bool
ascends [] = true
ascends (x ∷ xs) = list_all (nat_lt x) xs && ascends xs

-- the listed variables ascend and hold each variable of the row
abbrev pub lists_variables : Lin → Bool
lists_variables l =
    ascends l.vars && list_all (λ k. list_any (nat_eq k.x) l.vars) l.row.coeffs

-- the variables of the item are below n, and its row is in normal form
abbrev pub is_item_below : ℕ → Item → Bool
is_item_below n (Call l) = are_below n l.atom.args
is_item_below n (Equal t s) = is_below n (tm_of t) && is_below n (tm_of s)
is_item_below n (Differ t s) = is_below n (tm_of t) && is_below n (tm_of s)
is_item_below n (Linear l) = lists_variables l && list_all (λ x. nat_lt x n) l.vars && is_normal l.row

abbrev pub is_head_below : ℕ → Option Atom → Bool
is_head_below n None = true
is_head_below n (Some a) = are_below n a.args

abbrev pub is_clause_well_formed : Clause → Bool
is_clause_well_formed c = is_head_below c.vars c.head && list_all (is_item_below c.vars) c.body

abbrev pub is_query_well_formed : Query → Bool
is_query_well_formed q = list_all (is_item_below (length q.names)) q.body

abbrev pub are_well_formed : List Clause → List Query → Bool
are_well_formed clauses queries =
    list_all is_clause_well_formed clauses && list_all is_query_well_formed queries

-- the predicates are distinct, and none has `-`
abbrev pub are_abducible : List Pred → Bool
are_abducible [] = true
are_abducible (p ∷ ps) = not p.minus && not (list_any (same_pred p) ps) && are_abducible ps

-- a linear item's row is in normal form
abbrev pub HasNormalRow : Item → Type 0
HasNormalRow (Call l) = ⊤
HasNormalRow (Equal t s) = ⊤
HasNormalRow (Differ t s) = ⊤
HasNormalRow (Linear l) = IsNormal l.row
