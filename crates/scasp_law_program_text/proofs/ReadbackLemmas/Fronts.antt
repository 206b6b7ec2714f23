-- A token at the front of bytes, and then those behind it.
use Rattle.std.proofs.Common.{◌≡◌, ℕ, zero, suc, ◌+◌, ◌-◌, ◌<◌, ◌≤◌, List, [], ◌∷◌, ◌++◌, length, drop, refl, sym, ap, ◌∙◌, arith}
use Rattle.scasp_reader_tokens.specs.declared.token.Token.{Token}
use Rattle.scasp_reader_tokens.specs.declared.token.Placed.{Placed}
use Rattle.scasp_reader_tokens.specs.declared.token.Front.{Front}
use Rattle.scasp_reader_tokens.specs.declared.token.Front.TheVariants.{Gap, Found}
use Rattle.scasp_reader_tokens.specs.Tokens.{front, placed, tokens_from, tokens_behind}

-- bytes that belong to the token before are passed over
passed : (bytes rest : List ℕ) (at : ℕ) → tokens_behind (length bytes) at (bytes ++ rest) ≡ tokens_behind 0 (at + length bytes) rest
passed [] rest at = let e : at ≡ at + 0 = omega arith in ap (λ a. tokens_behind 0 a rest) e
passed (b ∷ bytes) rest at =
    let e : at + 1 + length bytes ≡ at + length (b ∷ bytes) = omega arith in
    passed bytes rest (at + 1) ∙ ap (λ a. tokens_behind 0 a rest) e

-- bytes whose front is a token of all of them
pub found-read : (b : ℕ) (bytes rest : List ℕ) (t : Token) (at : ℕ) → front ((b ∷ bytes) ++ rest) ≡ Found t (length (b ∷ bytes))
    → tokens_behind 0 at ((b ∷ bytes) ++ rest) ≡ placed at t ∷ tokens_behind 0 (at + length (b ∷ bytes)) rest
found-read b bytes rest t at e =
    let n : length (b ∷ bytes) - 1 ≡ length bytes = omega arith in
    let e' : at + 1 + length bytes ≡ at + length (b ∷ bytes) = omega arith in
    ap (λ f. tokens_from at f (λ n. tokens_behind (n - 1) (at + 1) (bytes ++ rest))) e
    ∙ ap (λ ts. placed at t ∷ ts) (ap (λ k. tokens_behind k (at + 1) (bytes ++ rest)) n ∙ passed bytes rest (at + 1) ∙ ap (λ a. tokens_behind 0 a rest) e')
