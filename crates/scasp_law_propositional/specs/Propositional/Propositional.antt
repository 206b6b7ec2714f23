-- Programs without variables: each literal is an atom without arguments, and nothing else stands in a body.
use Rattle.std.specs.Prelude.{Bool, true, false, ◌&&◌, nat_eq, Option, None, Some, length}
use Rattle.std.specs.List.{list_all}
use Rattle.scasp_syntax.specs.Tm.{Tms, nil, cons}
use Rattle.scasp_syntax.specs.declared.atom.Atom.{Atom}
use Rattle.scasp_syntax.specs.declared.clause.Clause.{Clause}
use Rattle.scasp_syntax.specs.declared.clause.Item.{Item}
use Rattle.scasp_syntax.specs.declared.clause.Item.TheVariants.{Call, Equal, Differ, Linear}
use Rattle.scasp_syntax.specs.declared.clause.Query.{Query}
use Rattle.scasp_syntax.specs.declared.program.Program.{Program}

abbrev pub has_no_argument : Tms → Bool
has_no_argument nil = true
has_no_argument (cons t ts) = false

-- a literal without arguments, positive or negated
abbrev pub is_plain_item : Item → Bool
is_plain_item (Call l) = has_no_argument l.atom.args
is_plain_item (Equal t s) = false
is_plain_item (Differ t s) = false
is_plain_item (Linear l) = false

-- no head, or one without arguments
abbrev pub is_plain_head : Option Atom → Bool
is_plain_head None = true
is_plain_head (Some a) = has_no_argument a.args

abbrev pub is_plain_clause : Clause → Bool
is_plain_clause c = is_plain_head c.head && list_all is_plain_item c.body && nat_eq c.vars 0

abbrev pub is_plain_query : Query → Bool
is_plain_query q = list_all is_plain_item q.body && nat_eq (length q.names) 0

-- facts, rules and denials of literals without arguments, and queries of such literals
abbrev pub is_propositional : Program → Bool
is_propositional p = list_all is_plain_clause p.clauses && list_all is_plain_query p.queries
