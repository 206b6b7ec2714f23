-- Files as they are printed in version 2: those of version 1, but for the header and the copies in blocks.
use Rattle.std.specs.Prelude.{ℕ, List, ◌++◌, flat_map, codes}
use Rattle.scasp_cert.specs.Text.Block.{block_text}
use Rattle.scasp_print_shared.specs.Shared.{shared_text}
use Rattle.scasp_law_answer_text.specs.LineReadback.Texts.{Piece, remark, answer, ending, rejection, piece_text}

abbrev pub shared_piece : List (List ℕ) → Piece → List ℕ
shared_piece names (remark text) = piece_text names (remark text)
shared_piece names (answer n c) = shared_text (block_text names c n)
shared_piece names (ending e q) = piece_text names (ending e q)
shared_piece names (rejection q n at reason) = piece_text names (rejection q n at reason)

abbrev pub shared_file : List (List ℕ) → List Piece → List ℕ
shared_file names pieces = codes "scasp 2\n" ++ flat_map (shared_piece names) pieces
