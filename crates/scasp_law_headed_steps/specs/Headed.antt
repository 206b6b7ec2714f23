-- Programs in which each variable of a clause stands in its head, and no clause that is checked has a variable.
use Rattle.std.specs.List.{list_all}
use Rattle.std.specs.Prelude.{Bool, List, None, Option, Some, false, nat_eq, ℕ, ◌&&◌}
use Rattle.scasp_nmr.specs.declared.items.CheckItem.{CheckItem}
use Rattle.scasp_search_rules.specs.Successors.Calls.{vars_of_clause}
use Rattle.scasp_search_rules.specs.Successors.Reading.{count_from}
use Rattle.scasp_syntax.specs.declared.atom.Atom.{Atom}
use Rattle.scasp_syntax.specs.declared.clause.Clause.{Clause}
use Rattle.scasp_syntax.specs.declared.program.Program.{Program}
use Rattle.scasp_unify.specs.Parts.{occurs_among}

-- x stands in the head
abbrev pub stands_in : ℕ → Option Atom → Bool
stands_in x None = false
stands_in x (Some a) = occurs_among x a.args

-- each variable of the clause stands in its head
abbrev pub is_headed : Clause → Bool
is_headed c = list_all (λ x. stands_in x c.head) (count_from 0 c.vars)

-- each clause is so, and no clause that is checked has a variable
abbrev pub is_headed_program : Program → List CheckItem → Bool
is_headed_program p checks = list_all is_headed p.clauses && list_all (λ i. nat_eq (vars_of_clause p i.clause) 0) checks
