-- What is written behind a term ends it.
use Rattle.std.proofs.Common.{◌≡◌, ℕ, ◌+◌, ◌==◌, true, false, List, [], ◌∷◌, ◌++◌, codes, Some, refl, ap, ◌∙◌}
use Rattle.scasp_reader_tokens.specs.declared.sign.Sign.{Sign}
use Rattle.scasp_reader_tokens.specs.declared.sign.Sign.TheVariants as sign
use Rattle.scasp_reader_tokens.specs.declared.token.Token.TheVariants as token
use Rattle.scasp_reader_tokens.specs.Bytes.{is_digit}
use Rattle.scasp_reader_tokens.specs.Tokens.{tokens_behind}
use Rattle.scasp_reader_terms.specs.Steps.{token_of, is_sign}
use Rattle.scasp_law_program_text.specs.Readback.Endings.{ends_number, ends_name}
use Rattle.scasp_law_program_text.proofs.ReadbackLemmas.SignReading.{comma_read, close_read, close_list_read, bar_read, equal_read, differ_read, stop_read, blank_read}
use Rattle.scasp_law_program_text.specs.TermReadback.Reading.{EndsTerm}

-- a sign that is next, and is neither of the two, ends both
by-sign : (bytes : List ℕ) (t : Sign) → ends_number bytes ≡ true → ends_name bytes ≡ true → is_sign sign.Over (Some (token.Sign t)) ≡ false → is_sign sign.Open (Some (token.Sign t)) ≡ false
    → ((at : ℕ) → token_of (tokens_behind 0 at bytes) ≡ Some (token.Sign t)) → EndsTerm bytes
by-sign bytes t number name over opening is =
    ((number, λ at. ap (is_sign sign.Over) (is at) ∙ over), (name, λ at. ap (is_sign sign.Open) (is at) ∙ opening))

one-end : (b : ℕ) (rest : List ℕ) → is_digit b ≡ false → (b == 46) ≡ false → ends_number (b ∷ rest) ≡ true
one-end b [] d p = rw d refl
one-end b (c ∷ rest) d p = rw (d, p) refl

pub comma_ends : (rest : List ℕ) → EndsTerm (codes "," ++ rest)
comma_ends rest = by-sign (44 ∷ rest) sign.Comma (one-end 44 rest refl refl) refl refl refl (λ at. ap token_of (comma_read rest at))

pub closing_ends : (rest : List ℕ) → EndsTerm (codes ")" ++ rest)
closing_ends rest = by-sign (41 ∷ rest) sign.Close (one-end 41 rest refl refl) refl refl refl (λ at. ap token_of (close_read rest at))

pub closing_list_ends : (rest : List ℕ) → EndsTerm (codes "]" ++ rest)
closing_list_ends rest = by-sign (93 ∷ rest) sign.CloseList (one-end 93 rest refl refl) refl refl refl (λ at. ap token_of (close_list_read rest at))

pub bar_ends : (rest : List ℕ) → EndsTerm (codes "|" ++ rest)
bar_ends rest = by-sign (124 ∷ rest) sign.Bar (one-end 124 rest refl refl) refl refl refl (λ at. ap token_of (bar_read rest at))

pub equal_ends : (rest : List ℕ) → EndsTerm (codes " = " ++ rest)
equal_ends rest = by-sign (codes " = " ++ rest) sign.Equal refl refl refl refl (λ at. ap token_of (blank_read (61 ∷ 32 ∷ rest) at ∙ equal_read rest (at + 1)))

pub differ_ends : (rest : List ℕ) → EndsTerm (codes " \\= " ++ rest)
differ_ends rest = by-sign (codes " \\= " ++ rest) sign.Differ refl refl refl refl (λ at. ap token_of (blank_read (92 ∷ 61 ∷ 32 ∷ rest) at ∙ differ_read rest (at + 1)))

pub stop_ends : (rest : List ℕ) → EndsTerm (codes ".\n" ++ rest)
stop_ends rest = by-sign (codes ".\n" ++ rest) sign.Stop refl refl refl refl (λ at. ap token_of (stop_read rest at))
