-- Files as they are printed: a header, blocks, the ends of queries, rejected answers, and remarks between them.
use Rattle.std.specs.Prelude.{ℕ, Bool, true, ◌&&◌, List, [], ◌∷◌, ◌++◌, flat_map, codes}
use Rattle.std.specs.List.{list_all}
use Rattle.scasp_reader_tokens.specs.Bytes.{is_of_line}
use Rattle.scasp_cert.specs.Certificate.{Certificate}
use Rattle.scasp_cert.specs.Text.Block.{block_text}
use Rattle.scasp_answers_terms.specs.Tokens.Bounds.{line_fits}
use Rattle.scasp_answers_terms.specs.Tokens.Lines.{End, ending_line, rejected_line, words_of}
use Rattle.scasp_answers.specs.Blocks.Blocks.{Placed, at, block_lines}
use Rattle.scasp_answers.specs.Blocks.States.{Entry, block, ended_entry, rejected_entry}
use Rattle.scasp_law_answer_text.specs.LineReadback.Writable.{is_written}

-- what stands behind the header
pub data Piece : Type 0 where
  remark : List ℕ → Piece  -- the text behind `%`
  answer : ℕ → Certificate → Piece  -- the answer's number, and its certificate
  ending : End → ℕ → Piece
  rejection : ℕ → ℕ → ℕ → List ℕ → Piece

abbrev pub piece_text : List (List ℕ) → Piece → List ℕ
piece_text names (remark text) = codes "%" ++ text ++ codes "\n"
piece_text names (answer n c) = block_text names c n
piece_text names (ending e q) = words_of names (ending_line e q) ++ codes "\n"
piece_text names (rejection q n at reason) = words_of names (rejected_line q n at reason) ++ codes "\n"

abbrev pub file_text : List (List ℕ) → List Piece → List ℕ
file_text names pieces = codes "scasp 1\n" ++ flat_map (piece_text names) pieces

abbrev pub piece_lines : Piece → List Placed
piece_lines (remark text) = []
piece_lines (answer n c) = block_lines c n
piece_lines (ending e q) = at 0 (ending_line e q) ∷ []
piece_lines (rejection q n at_line reason) = at 0 (rejected_line q n at_line reason) ∷ []

abbrev pub piece_entries : Piece → List Entry
piece_entries (remark text) = []
piece_entries (answer n c) = block n c ∷ []
piece_entries (ending e q) = ended_entry e q ∷ []
piece_entries (rejection q n at reason) = rejected_entry q n at reason ∷ []

-- each line has a text of its own, and its numbers fit
abbrev pub are_printable : ℕ → List Placed → Bool
are_printable count ps = list_all (λ p. is_written count p.line && line_fits p.line) ps

-- the same of a piece; a remark is one line
abbrev pub is_printable : ℕ → Piece → Bool
is_printable count (remark text) = list_all is_of_line text
is_printable count (answer n c) = are_printable count (block_lines c n)
is_printable count (ending e q) = are_printable count (at 0 (ending_line e q) ∷ [])
is_printable count (rejection q n at_line reason) = are_printable count (at 0 (rejected_line q n at_line reason) ∷ [])
