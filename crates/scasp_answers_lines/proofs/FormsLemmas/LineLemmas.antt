-- A line begins with a word.
use Rattle.std.proofs.Common.{◌≡◌, ◌∙◌, ℕ, List, [], ◌∷◌, drop, Some, sym, ap}
use Rattle.scasp_answers_terms.specs.Tokens.Forms.{forms, line_at}
use Rattle.scasp_answers_terms.specs.Tokens.Readers.{behind_word, by_form}
use Rattle.scasp_answers_terms.specs.Tokens.Tokens.{Token, word}
use Rattle.scasp_answers_terms.specs.Tokens.View.{first_token}

pub line-word : (place : List ℕ → ℕ) (ts rest : List Token) (w : List ℕ) → first_token ts ≡ Some (word w) → rest ≡ drop 1 ts → line_at place ts ≡ behind_word (forms place) w rest
unfolding line_at
line-word place [] rest w e r = cc
line-word place (t ∷ ts) rest w e r =
    let same : t ≡ word w = cc in
    ap (λ u. by_form (forms place) (u ∷ ts)) same ∙ ap (behind_word (forms place) w) (sym r)
