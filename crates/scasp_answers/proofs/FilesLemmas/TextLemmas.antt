-- Only texts are put into the table of names.
use Rattle.std.proofs.Common.{◌≡◌, ℕ, List, [], ◌∷◌, refl}
use Rattle.scasp_name.specs.Texts.{with_text}
use Rattle.scasp_answers_terms.specs.Tokens.Tokens.{Token, word, quoted, variable, digits, fraction, minus, plus, star, comma, bar, paren, close, bracket, unbracket, sign, bad}
use Rattle.scasp_answers_terms.specs.Tokens.View.{texts_of}
use Rattle.scasp_answers.specs.Files.Texts.{with_tokens}

pub with-texts : (names : List (List ℕ)) (ts : List Token) → with_tokens names (texts_of ts) ≡ with_tokens names ts
with-texts names [] = refl
with-texts names (word w ∷ ts) = with-texts (with_text names w) ts
with-texts names (quoted q ∷ ts) = with-texts (with_text names q) ts
with-texts names (variable x ∷ ts) = with-texts names ts
with-texts names (digits n ∷ ts) = with-texts names ts
with-texts names (fraction n d ∷ ts) = with-texts names ts
with-texts names (minus ∷ ts) = with-texts names ts
with-texts names (plus ∷ ts) = with-texts names ts
with-texts names (star ∷ ts) = with-texts names ts
with-texts names (comma ∷ ts) = with-texts names ts
with-texts names (bar ∷ ts) = with-texts names ts
with-texts names (paren ∷ ts) = with-texts names ts
with-texts names (close ∷ ts) = with-texts names ts
with-texts names (bracket ∷ ts) = with-texts names ts
with-texts names (unbracket ∷ ts) = with-texts names ts
with-texts names (sign s ∷ ts) = with-texts names ts
with-texts names (bad ∷ ts) = with-texts names ts
