-- The certificates that an edit of a program touches.
use Rattle.std.specs.Prelude.{ℕ, Bool, ◌||◌, not, nat_eq, List, length, filter}
use Rattle.std.specs.Cmp.Lexicographic.{pointwise}
use Rattle.std.specs.List.{list_any}
use Rattle.std.specs.Option.{option_eq}
use Rattle.scasp_syntax.specs.Programs.{numbered, predicates, rules_of}
use Rattle.scasp_syntax.specs.Same.{same_bool, same_pred}
use Rattle.scasp_syntax.specs.declared.atom.Pred.{Pred}
use Rattle.scasp_syntax.specs.declared.predicate_map.PredMap.{PredMap}
use Rattle.scasp_syntax.specs.declared.program.Program.{Program}
use Rattle.scasp_cert.specs.Certificate.{Certificate}
use Rattle.scasp_touched.specs.Named.{line_predicates, named_clauses}
use Rattle.scasp_touched.specs.Same.{same_clause, same_query}

-- the query of this number differs, or is in one of the programs alone
abbrev pub query_differs : Program → Program → ℕ → Bool
query_differs p q n = not (option_eq same_query (numbered p.queries n) (numbered q.queries n))

-- the clause of this number differs, or is in one of the programs alone
abbrev pub clause_differs : Program → Program → ℕ → Bool
clause_differs p q k = not (option_eq same_clause (numbered p.clauses k) (numbered q.clauses k))

-- the rules of the predicate have other numbers
abbrev pub rules_differ : Program → Program → Pred → Bool
rules_differ p q r = not (pointwise nat_eq (rules_of p r) (rules_of q r))

abbrev pub occurs : Program → Pred → Bool
occurs p r = list_any (same_pred r) (predicates p)

-- the entry's predicate occurs in one of the programs alone
abbrev pub is_in_one : Program → Program → PredMap → Bool
is_in_one p q m = not (same_bool (occurs p m.pred) (occurs q m.pred))

-- a clause that a line names differs, or the rules of a predicate on a line have other numbers
abbrev pub are_lines_touched : Program → Program → Certificate → Bool
are_lines_touched p q c = list_any (clause_differs p q) (named_clauses c) || list_any (rules_differ p q) (line_predicates c)

-- The step from p to q touches the certificate: its query, its lines, or a predicate of its map.
abbrev pub touched : Program → Program → Certificate → Bool
touched p q c = query_differs p q c.query || are_lines_touched p q c || list_any (is_in_one p q) c.map

-- how many of the certificates it touches
abbrev pub touched_count : Program → Program → List Certificate → ℕ
touched_count p q cs = length (filter (touched p q) cs)
