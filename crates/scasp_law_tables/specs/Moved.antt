-- Certificates whose samples have names that a program's table lacks, read by a table in which these names stand at other places.
use Rattle.std.specs.Prelude.{◌≡◌, ℕ, ◌<◌, ◌≤◌, nat_le, Bool, true, false, ◌&&◌, nat_lt, List, length, map, flat_map, Ok}
use Rattle.std.specs.List.{Contains}
use Rattle.scasp_list.specs.Each.{Each}
use Rattle.scasp_answers.specs.Blocks.Files.{byte_limit, file_in}
use Rattle.scasp_answers.specs.Files.Texts.{with_names}
use Rattle.scasp_answers_terms.specs.Tokens.Bounds.{terms_fit}
use Rattle.scasp_cert.specs.Certificate.{Certificate}
use Rattle.scasp_checker_rules.specs.Accepted.{Accepts}
use Rattle.scasp_cert.specs.Text.Names.{text_at}
use Rattle.scasp_law_answer_text.specs.LineReadback.Texts.{Piece, remark, answer, ending, rejection, file_text, is_printable, piece_entries}
use Rattle.scasp_law_answer_text.specs.LineReadback.Writable.{IsTable}
use Rattle.scasp_reader_terms.specs.Names.{place_in}
use Rattle.scasp_syntax.specs.Tm.{Tm, Tms, var, num, app, nil, cons}
use Rattle.scasp_syntax.specs.declared.program.Program.{Program}
use Rattle.scasp_law_tables.specs.Tables.{Agree}

-- The term is a number, or a name without arguments that stands in a table with so many names, but not among its first `count`.
abbrev pub is_value : ℕ → ℕ → Tm → Bool
is_value count total (var x) = false
is_value count total (num q) = true
is_value count total (app f nil) = nat_le count f && nat_lt f total
is_value count total (app f (cons t ts)) = false

abbrev pub are_values : ℕ → ℕ → Tms → Bool
are_values count total nil = true
are_values count total (cons t ts) = is_value count total t && are_values count total ts

-- each name of the terms by another one
abbrev mutual
  pub renamed : (ℕ → ℕ) → Tm → Tm
  renamed h (var x) = var x
  renamed h (num q) = num q
  renamed h (app f ts) = app (h f) (all_renamed h ts)

  pub all_renamed : (ℕ → ℕ) → Tms → Tms
  all_renamed h nil = nil
  all_renamed h (cons t ts) = cons (renamed h t) (all_renamed h ts)

-- where the second table has the text of a name of the first
abbrev pub moving : List (List ℕ) → List (List ℕ) → ℕ → ℕ
moving names table f = place_in table (text_at names f)

abbrev pub moved_sample : List (List ℕ) → List (List ℕ) → Certificate → Certificate
moved_sample names table c = record c { sample = all_renamed (moving names table) c.sample }

abbrev pub moved_piece : List (List ℕ) → List (List ℕ) → Piece → Piece
moved_piece names table (remark text) = remark text
moved_piece names table (answer n c) = answer n (moved_sample names table c)
moved_piece names table (ending e q) = ending e q
moved_piece names table (rejection q n at reason) = rejection q n at reason

abbrev pub without_sample : Certificate → Certificate
without_sample c = record c { sample = nil }

-- The answer is printable with the first `count` names of the table but for its sample, which has values with the names behind those.
pub record IsSampled (count total n : ℕ) (c : Certificate) : Type 0 where
  pub printable : is_printable count (answer n (without_sample c)) ≡ true
  pub values : are_values count total c.sample ≡ true
  pub fits : terms_fit c.sample ≡ true

abbrev pub IsFine : ℕ → ℕ → Piece → Type 0
IsFine count total (remark text) = is_printable count (remark text) ≡ true
IsFine count total (answer n c) = IsSampled count total n c
IsFine count total (ending e q) = is_printable count (ending e q) ≡ true
IsFine count total (rejection q n at reason) = is_printable count (rejection q n at reason) ≡ true

-- A file is written by a table that has these names first. It is read by the table that has these names and then the texts of the file.
pub record IsWrittenFile (names written : List (List ℕ)) (pieces : List Piece) : Type 0 where
  pub lists : 1 < length names
  pub longer : length names ≤ length written
  pub agree : Agree (length names) names written
  pub table : IsTable written
  pub read : IsTable (with_names names (file_text written pieces))
  pub fine : Each (IsFine (length names) (length written)) pieces
  pub short : length (file_text written pieces) ≤ byte_limit

-- the certificate of a piece, as it is read
abbrev pub read_sample : List (List ℕ) → List (List ℕ) → List Piece → Certificate → Certificate
read_sample names written pieces c = moved_sample written (with_names names (file_text written pieces)) c

-- What is read are the answers, and each name of a sample stands where the table that reads has its text.
abbrev pub GrownTablesRead : Type 0
GrownTablesRead =
    (names written : List (List ℕ)) (pieces : List Piece) → IsWrittenFile names written pieces
    → file_in (with_names names (file_text written pieces)) (file_text written pieces)
    ≡ Ok (flat_map piece_entries (map (moved_piece written (with_names names (file_text written pieces))) pieces))

-- If an answer of the file is accepted for a program, what is read of the answer is accepted for it.
abbrev pub ReadAnswersAccepted : Type 0
ReadAnswersAccepted =
    (names written : List (List ℕ)) (pieces : List Piece) → IsWrittenFile names written pieces
    → (p : Program) (n : ℕ) (c : Certificate) → Contains pieces (answer n c) → Accepts p c → Accepts p (read_sample names written pieces c)
