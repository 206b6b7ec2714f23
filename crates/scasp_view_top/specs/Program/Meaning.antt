-- What the lines of a program are without their numbers.
use Rattle.std.specs.Prelude.{◌≡◌, ℕ, if◌then◌else◌, List, [], ◌++◌, flat_map}
use Rattle.scasp_syntax.specs.declared.atom.Pred.{Pred}
use Rattle.scasp_syntax.specs.declared.clause.Clause.{Clause}
use Rattle.scasp_syntax.specs.declared.clause.Query.{Query}
use Rattle.scasp_reader.specs.Programs.Programs.{program_in}
use Rattle.scasp_print_program.specs.Programs.{program_text}
use Rattle.scasp_view_top.specs.Program.Lines.{Line, abducible, abducible_lines, clause, numbered_clauses, query, query_lines}

-- a line without its number; nothing of a generated denial
abbrev pub bare_line : Line → List ℕ
bare_line (abducible text) = text
bare_line (clause n is_generated text) = if is_generated then [] else text
bare_line (query n text) = text

-- the lines of a program without these
abbrev pub bare_text : List (List ℕ) → List Pred → List Clause → List Query → List ℕ
bare_text names abducibles clauses queries =
    flat_map bare_line (abducible_lines names abducibles) ++ flat_map bare_line (numbered_clauses names clauses queries) ++ flat_map bare_line (query_lines names 1 queries)

-- what is left is the text of the program
abbrev pub NumbersAreAdded : Type 0
NumbersAreAdded = (names : List (List ℕ)) (abducibles : List Pred) (clauses : List Clause) (queries : List Query)
    → bare_text names abducibles clauses queries ≡ program_text names abducibles clauses queries

-- so it is read as that text is, with any table of names before it
abbrev pub LinesAreReadAsTheText : Type 0
LinesAreReadAsTheText = (names table : List (List ℕ)) (abducibles : List Pred) (clauses : List Clause) (queries : List Query)
    → program_in table (bare_text names abducibles clauses queries) ≡ program_in table (program_text names abducibles clauses queries)
