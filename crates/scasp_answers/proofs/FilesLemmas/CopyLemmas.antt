-- The number of a copy, and the room behind a line.
use Rattle.std.proofs.Common.{◌≡◌, ◌∙◌, ℕ, ◌+◌, ◌-◌, Bool, true, false, List, [], ◌∷◌, ◌++◌, length, replicate, codes, Option, None, Some, refl, sym, ap, arith, length-append}
use Rattle.std.proofs.lemmas.List.{length-replicate}
use Rattle.scasp_num.specs.Arithmetic.{◌>>=◌}
use Rattle.scasp_answers_terms.specs.Tokens.Tokens.{Token}
use Rattle.scasp_answers_terms.specs.Tokens.Readers.{Parsed}
use Rattle.scasp_answers_terms.specs.Tokens.View.{is_over}
use Rattle.scasp_copies.specs.Pieces.{Piece, piece_text}
use Rattle.scasp_answers.specs.Blocks.Files.{alone}

over : (n : ℕ) (ts : List Token) → is_over ts ≡ true → alone (n, ts) ≡ Some n
over n [] e = refl
over n (t ∷ ts) e = cc

not-over : (n : ℕ) (ts : List Token) → is_over ts ≡ false → alone (n, ts) ≡ None
not-over n [] e = cc
not-over n (t ∷ ts) e = refl

pub is_number : (read : Parsed ℕ) (n : ℕ) (ts : List Token) → read ≡ Some (n, ts) → is_over ts ≡ true → (read >>= alone) ≡ Some n
is_number read n ts r e = ap (λ x. x >>= alone) r ∙ over n ts e

pub no_number : (read : Parsed ℕ) (n : ℕ) (ts : List Token) → read ≡ Some (n, ts) → is_over ts ≡ false → (read >>= alone) ≡ None
no_number read n ts r e = ap (λ x. x >>= alone) r ∙ not-over n ts e

pub no_digits : (read : Parsed ℕ) → read ≡ None → (read >>= alone) ≡ None
no_digits read r = ap (λ x. x >>= alone) r

pub room_left : (room : ℕ) (p : Piece) → room - p.depth - length p.words - 1 ≡ room - length (piece_text p)
room_left room p =
    let blanks : List ℕ = replicate p.depth 32 in
    let feed : List ℕ = codes "\n" in
    omega (arith, length-append (blanks ++ p.words) feed, length-append blanks p.words, length-replicate {A = ℕ} p.depth 32)
