-- Tests of equality of clauses, and of queries whatever their variables are called.
use Rattle.std.specs.Prelude.{Bool, false, ◌&&◌, nat_eq, length}
use Rattle.std.specs.Cmp.Lexicographic.{pointwise}
use Rattle.std.specs.Option.{option_eq}
use Rattle.scasp_num.specs.SameRow.{same_row}
use Rattle.scasp_syntax.specs.Same.{same_atom, same_lit, same_tm}
use Rattle.scasp_syntax.specs.View.{tm_of}
use Rattle.scasp_syntax.specs.declared.clause.Clause.{Clause}
use Rattle.scasp_syntax.specs.declared.clause.Item.{Item}
use Rattle.scasp_syntax.specs.declared.clause.Item.TheVariants.{Call, Equal, Differ, Linear}
use Rattle.scasp_syntax.specs.declared.clause.Query.{Query}
use Rattle.scasp_syntax.specs.declared.term.Term.{Term}

abbrev pub same_term : Term → Term → Bool
same_term t u = same_tm (tm_of t) (tm_of u)

abbrev pub same_item : Item → Item → Bool
same_item (Call l) (Call k) = same_lit l k
same_item (Equal t s) (Equal u r) = same_term t u && same_term s r
same_item (Differ t s) (Differ u r) = same_term t u && same_term s r
same_item (Linear l) (Linear k) = pointwise nat_eq l.vars k.vars && same_row l.row k.row
same_item i j = false

-- the same head, the same items and as many variables
abbrev pub same_clause : Clause → Clause → Bool
same_clause c d = option_eq same_atom c.head d.head && pointwise same_item c.body d.body && nat_eq c.vars d.vars

-- the same items and as many variables
abbrev pub same_query : Query → Query → Bool
same_query q r = pointwise same_item q.body r.body && nat_eq (length q.names) (length r.names)
