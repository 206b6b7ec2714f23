-- What a check finds of a file that was printed.
use Rattle.std.specs.Prelude.{◌≡◌, ℕ, ◌+◌, ◌<◌, ◌≤◌, true, List, length, Some, Ok, ⊤}
use Rattle.std.specs.List.{Contains}
use Rattle.scasp_abduce.specs.Translation.{IsTranslation}
use Rattle.scasp_answers.specs.Blocks.Files.{byte_limit, file_in}
use Rattle.scasp_answers.specs.Blocks.States.{Entry, block, ended_entry, rejected_entry}
use Rattle.scasp_answers.specs.Files.Texts.{with_names}
use Rattle.scasp_cert.specs.Certificate.{Certificate}
use Rattle.scasp_checker.specs.Verdict.Right.{IsRight}
use Rattle.scasp_command_check.specs.Worths.{worth_of}
use Rattle.scasp_command_check.specs.declared.worth.Worth.TheVariants.{Right}
use Rattle.scasp_law_answer_text.specs.LineReadback.Texts.{Piece, remark, answer, ending, rejection, file_text, is_printable}
use Rattle.scasp_law_answer_text.specs.LineReadback.Writable.{IsTable}
use Rattle.scasp_law_outcomes.specs.Problems.{IsAnswer}
use Rattle.scasp_law_printable.specs.Printable.{IsFilled, IsNamed}
use Rattle.scasp_law_tables.specs.Moved.{IsWrittenFile}
use Rattle.scasp_law_tables.specs.Tables.{Agree}
use Rattle.scasp_lines.specs.Lines.{free_of}
use Rattle.scasp_list.specs.Each.{Each}
use Rattle.scasp_name.specs.Texts.{list_names}
use Rattle.scasp_nmr.specs.declared.items.CheckItem.{CheckItem}
use Rattle.scasp_reader.specs.Programs.Programs.{program_in, reading_of}
use Rattle.scasp_search_ends.specs.Ends.Ends.{problem}
use Rattle.scasp_search_rules.specs.Successors.Problems.{Problem}
use Rattle.scasp_syntax.specs.Programs.{numbered}
use Rattle.scasp_syntax.specs.declared.clause.Query.{Query}
use Rattle.scasp_syntax.specs.declared.predicate_map.PredMap.{PredMap}
use Rattle.scasp_syntax.specs.declared.program.Program.{Program}

-- the line of the entry, if it is a block, is `right`
abbrev pub IsFoundRight : Program → Entry → Type 0
IsFoundRight p (block n c) = worth_of p c ≡ Right
IsFoundRight p (ended_entry e q) = ⊤
IsFoundRight p (rejected_entry q n at reason) = ⊤

-- The bytes are read, by the table with the names of the program and then those of the bytes, and each block is found right.
pub record IsReadRight (p : Program) (names : List (List ℕ)) (bytes : List ℕ) : Type 0 where
  pub entries : List Entry
  pub read : file_in (with_names names bytes) bytes ≡ Ok entries
  pub right : Each (IsFoundRight p) entries

-- Each answer that stands in the file is right.
abbrev pub AreRight : Program → List Piece → Type 0
AreRight p pieces = (n : ℕ) (c : Certificate) → Contains pieces (answer n c) → IsRight p c

abbrev pub PrintedAnswersAreRight : Type 0
PrintedAnswersAreRight =
    (p : Program) (names written : List (List ℕ)) (pieces : List Piece) → IsWrittenFile names written pieces → AreRight p pieces
    → IsReadRight p names (file_text written pieces)

-- ---- answers of searches

-- The answer of a search of the program, filled with the hints and clash lines that are found, is right. The table that writes has a name for each
-- value of its sample.
pub record IsSearched (p : Program) (names written : List (List ℕ)) (n : ℕ) (c : Certificate) : Type 0 where
  pub problem : Problem
  pub query : Query
  pub budget : ℕ
  pub tree : Certificate
  pub about : problem.program ≡ p
  pub asked : IsNamed (length names) problem query
  pub met : IsAnswer problem query budget tree
  pub filled : IsFilled problem n tree c
  pub right : IsRight p c
  pub enough : length names + free_of c ≤ length written

abbrev pub IsSearchedPiece : Program → List (List ℕ) → List (List ℕ) → Piece → Type 0
IsSearchedPiece p names written (remark text) = is_printable (length names) (remark text) ≡ true
IsSearchedPiece p names written (answer n c) = IsSearched p names written n c
IsSearchedPiece p names written (ending e q) = is_printable (length names) (ending e q) ≡ true
IsSearchedPiece p names written (rejection q n at reason) = is_printable (length names) (rejection q n at reason) ≡ true

-- Each answer of the file is such an answer. The table that writes has the program's names first.
pub record IsSearchedFile (p : Program) (names written : List (List ℕ)) (pieces : List Piece) : Type 0 where
  pub lists : 1 < length names
  pub longer : length names ≤ length written
  pub agree : Agree (length names) names written
  pub table : IsTable written
  pub read : IsTable (with_names names (file_text written pieces))
  pub searched : Each (IsSearchedPiece p names written) pieces
  pub short : length (file_text written pieces) ≤ byte_limit

-- So the file is read, and each of its answers is found right.
abbrev pub SearchedAnswersAreRight : Type 0
SearchedAnswersAreRight =
    (p : Program) (names written : List (List ℕ)) (pieces : List Piece) → IsSearchedFile p names written pieces → IsReadRight p names (file_text written pieces)

-- ---- searches of a program that is read

-- The search for answers to a query of a program that is read of a text, and translated, is named by the table that reading and translating
-- leave: so its answers are printable, with samples that begin behind that table.
abbrev pub SearchesAreNamed : Type 0
SearchesAreNamed =
    (bytes : List ℕ) (written p : Program) (names table : List (List ℕ)) → program_in list_names bytes ≡ Ok (reading_of (written, names)) → IsTranslation names written p table
    → (number : ℕ) (q : Query) → numbered p.queries number ≡ Some q → (checks : List CheckItem) (map : List PredMap) → IsNamed (length table) (problem p number checks map (length table)) q
