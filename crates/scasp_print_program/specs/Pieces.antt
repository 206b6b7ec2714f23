-- What is still to be put of terms: its text, the first in front, and a number that falls with each piece.
use Rattle.std.specs.Prelude.{ℕ, ◌+◌, ◌*◌, List, [], ◌∷◌, ◌++◌}
use Rattle.scasp_syntax.specs.Tm.{weight_s}
use Rattle.scasp_syntax.specs.View.{tms_of}
use Rattle.scasp_print_program.specs.Terms.{Style, pair_text, terms_text}
use Rattle.scasp_print_program.specs.declared.pieces.Piece.{Piece}
use Rattle.scasp_print_program.specs.declared.pieces.Piece.TheVariants as piece

abbrev pub text_of : Style → Piece → List ℕ
text_of w (piece.Text text) = text.now
text_of w (piece.Arguments room is_first terms) = terms_text w room is_first (tms_of terms.now)
text_of w (piece.Elements room is_first terms) = pair_text w room is_first (tms_of terms.now)

abbrev pub all_text : Style → List Piece → List ℕ
all_text w [] = []
all_text w (p ∷ ps) = text_of w p ++ all_text w ps

abbrev pub weight : Piece → ℕ
weight (piece.Text text) = 1
weight (piece.Arguments room is_first terms) = 3 * weight_s (tms_of terms.now) + 1
weight (piece.Elements room is_first terms) = 3 * weight_s (tms_of terms.now) + 1

abbrev pub weights : List Piece → ℕ
weights [] = 0
weights (p ∷ ps) = weight p + weights ps
