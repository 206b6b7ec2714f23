-- Which programs have a text that is read as them.
use Rattle.std.specs.Prelude.{ℕ, ◌+◌, Bool, ◌&&◌, nat_le, List, ◌++◌, length, flat_map}
use Rattle.std.specs.List.{list_all}
use Rattle.scasp_syntax.specs.WellFormed.{are_abducible}
use Rattle.scasp_syntax.specs.declared.atom.Pred.{Pred}
use Rattle.scasp_syntax.specs.declared.clause.Clause.{Clause}
use Rattle.scasp_syntax.specs.declared.clause.Query.{Query}
use Rattle.scasp_reader.specs.declared.texts.texts.Reading.{Reading}
use Rattle.scasp_reader.specs.declared.texts.texts.TheConstants.{CLAUSE_LIMIT}
use Rattle.scasp_print_program.specs.Abducibles.{abducible_text}
use Rattle.scasp_print_program.specs.Programs.{clause_text, query_text}
use Rattle.scasp_law_program_text.specs.ClauseReadback.Parts.{abducible_fits, clause_fits, query_fits}

-- the predicates are distinct and without `-`, and each is within the limits
abbrev pub abducibles_fit : List (List ℕ) → List Pred → Bool
abducibles_fit names ps = are_abducible ps && list_all (abducible_fits names) ps

-- each predicate that may be assumed, each clause and each query is within the limits, and so is their number
abbrev pub text_fits : List (List ℕ) → List Pred → List Clause → List Query → Bool
text_fits names abducibles clauses queries =
    abducibles_fit names abducibles && list_all (clause_fits names) clauses && list_all (query_fits names) queries
    && nat_le (length clauses + length queries + length abducibles) CLAUSE_LIMIT

-- what is written of these clauses, all of them
abbrev pub lines_text : List (List ℕ) → List Pred → List Clause → List Query → List ℕ
lines_text names abducibles clauses queries =
    flat_map (abducible_text names) abducibles ++ flat_map (clause_text names) clauses ++ flat_map (query_text names) queries

abbrev pub reading : List Pred → List Clause → List Query → List (List ℕ) → Reading
reading abducibles clauses queries names = record { clauses = clauses; queries = queries; abducibles = abducibles; names = names }
