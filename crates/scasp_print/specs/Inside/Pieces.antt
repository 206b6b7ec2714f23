-- What is still to be put of terms: its text, the first in front, and a number that falls with each piece.
use Rattle.std.specs.Prelude.{ℕ, ◌+◌, ◌*◌, List, [], ◌∷◌, ◌++◌}
use Rattle.scasp_syntax.specs.Tm.{weight_s}
use Rattle.scasp_syntax.specs.View.{tms_of}
use Rattle.scasp_cert.specs.Text.Terms.{pair_text, terms_text}
use Rattle.scasp_print.specs.declared.pieces.Piece.{Piece}
use Rattle.scasp_print.specs.declared.pieces.Piece.TheVariants as piece

abbrev pub text_of : List (List ℕ) → Piece → List ℕ
text_of names (piece.Text text) = text.now
text_of names (piece.Arguments is_first terms) = terms_text names is_first (tms_of terms.now)
text_of names (piece.Elements is_first terms) = pair_text names is_first (tms_of terms.now)

abbrev pub all_text : List (List ℕ) → List Piece → List ℕ
all_text names [] = []
all_text names (p ∷ ps) = text_of names p ++ all_text names ps

abbrev pub weight : Piece → ℕ
weight (piece.Text text) = 1
weight (piece.Arguments is_first terms) = 3 * weight_s (tms_of terms.now) + 1
weight (piece.Elements is_first terms) = 3 * weight_s (tms_of terms.now) + 1

abbrev pub weights : List Piece → ℕ
weights [] = 0
weights (p ∷ ps) = weight p + weights ps
