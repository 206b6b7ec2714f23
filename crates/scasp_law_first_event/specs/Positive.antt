-- Queries of programs without a negated literal, where no clause is checked.
use Rattle.std.specs.Prelude.{Bool, true, false, ◌&&◌, List, [], ◌∷◌}
use Rattle.std.specs.List.{list_all}
use Rattle.scasp_nmr.specs.declared.items.CheckItem.{CheckItem}
use Rattle.scasp_search_rules.specs.Successors.Problems.{Problem}
use Rattle.scasp_syntax.specs.declared.clause.Item.{Item}
use Rattle.scasp_syntax.specs.declared.clause.Item.TheVariants as item
use Rattle.scasp_syntax.specs.declared.clause.Query.{Query}

abbrev pub is_item_positive : Item → Bool
is_item_positive (item.Call l) = l.positive
is_item_positive (item.Equal t u) = true
is_item_positive (item.Differ t u) = true
is_item_positive (item.Linear l) = true

abbrev pub is_unchecked : List CheckItem → Bool
is_unchecked [] = true
is_unchecked (i ∷ is) = false

-- neither the query nor a clause has a negated literal, and no clause is checked
abbrev pub is_positive : Problem → Query → Bool
is_positive p q =
    is_unchecked p.checks && (list_all is_item_positive q.body && list_all (λ c. list_all is_item_positive c.body) p.program.clauses)
