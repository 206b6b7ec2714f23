-- That the answers of a search can be printed.
use Rattle.std.specs.Prelude.{◌≡◌, ℕ, ◌+◌, ◌<◌, true, List, length, Some, Ok}
use Rattle.std.specs.List.{list_all}
use Rattle.scasp_abduce.specs.Translation.{IsTranslation}
use Rattle.scasp_answers.specs.Blocks.Blocks.{block_lines}
use Rattle.scasp_answers_terms.specs.Tokens.Bounds.{terms_fit}
use Rattle.scasp_cert.specs.Certificate.{Certificate}
use Rattle.scasp_checker_rules.specs.Accepted.{Accepts}
use Rattle.scasp_fill.specs.Filling.Filled.{filled}
use Rattle.scasp_law_answer_text.specs.LineReadback.Texts.{answer, is_printable}
use Rattle.scasp_law_outcomes.specs.Problems.{IsAnswer}
use Rattle.scasp_law_tables.specs.Moved.{IsSampled, are_values}
use Rattle.scasp_lines.specs.Lines.{free_of}
use Rattle.scasp_name.specs.Texts.{list_names}
use Rattle.scasp_reader.specs.Programs.Programs.{program_in, reading_of}
use Rattle.scasp_search_rules.specs.Successors.Problems.{Problem}
use Rattle.scasp_syntax.specs.Tm.{Tms, items}
use Rattle.scasp_syntax.specs.declared.clause.Query.{Query}
use Rattle.scasp_syntax.specs.declared.con.Con.{Con}
use Rattle.scasp_syntax.specs.declared.program.Program.{Program}
use Rattle.scasp_law_printable.specs.Places.{has_places}
use Rattle.scasp_law_printable.specs.Within.{ProgramWithin, QueryWithin}

-- A sample has a value for each free variable: a number of integers from -M to M, or a name behind the first `count`, of which there is one for
-- each variable.
abbrev pub NamesSamples : ℕ → Problem → Type 0
NamesSamples count p =
    (cs : List Con) (n : ℕ) (ts : Tms) → p.sample cs n ≡ Some ts → (length (items ts) ≡ n) × (are_values count (count + n) ts ≡ true) × (terms_fit ts ≡ true)

-- What is asked of a problem and a query, where the table has so many names: the two of lists, and those of the program and the query.
pub record IsNamed (count : ℕ) (p : Problem) (q : Query) : Type 0 where
  pub lists : 1 < count
  pub program : ProgramWithin count p.program
  pub query : QueryWithin count q
  pub samples : NamesSamples count p

-- An answer that is filled and accepted, and whose variables and counts are within the limits.
pub record IsFilled (p : Problem) (n : ℕ) (tree c : Certificate) : Type 0 where
  pub is : c ≡ filled p.program tree
  pub accepted : Accepts p.program c
  pub places : list_all (λ l. has_places l.line) (block_lines c n) ≡ true

-- It is printable with the names of the table and one more for each free variable.
abbrev pub AnswersArePrintable : Type 0
AnswersArePrintable =
    (count budget n : ℕ) (p : Problem) (q : Query) (tree c : Certificate) → IsNamed count p q → IsAnswer p q budget tree → IsFilled p n tree c
    → is_printable (count + free_of c) (answer n c) ≡ true

-- But for its sample it is printable with the names of the table alone.
abbrev pub AnswersAreSampled : Type 0
AnswersAreSampled =
    (count budget n : ℕ) (p : Problem) (q : Query) (tree c : Certificate) → IsNamed count p q → IsAnswer p q budget tree → IsFilled p n tree c
    → IsSampled count (count + free_of c) n c

-- A program that is read of a text is within the table of names that reading and translating leave.
abbrev pub ReadProgramsAreWithin : Type 0
ReadProgramsAreWithin =
    (bytes : List ℕ) (written p : Program) (names table : List (List ℕ)) → program_in list_names bytes ≡ Ok (reading_of (written, names))
    → IsTranslation names written p table → (1 < length table) × ProgramWithin (length table) p
