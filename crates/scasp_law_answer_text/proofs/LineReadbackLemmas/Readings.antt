-- Readings put together.
use Rattle.std.proofs.Common.{◌≡◌, ℕ, ◌<◌, ◌^◌, List, ◌++◌, decimal, Option, None, Some, ap, ◌∙◌}
use Rattle.std.specs.Prelude.{option_map}
use Rattle.scasp_num.specs.Arithmetic.{◌>>=◌}
use Rattle.scasp_answers_terms.specs.Tokens.Tokens.{Token, tokens_in}
use Rattle.scasp_answers_terms.specs.Tokens.Readers.{Parsed, both, past_text, number_at}
use Rattle.scasp_law_answer_text.proofs.LineReadbackLemmas.Fronts.{EndsDigits}
use Rattle.scasp_law_answer_text.proofs.LineReadbackLemmas.Numerals.{digits-read}

pub both-reads : {A B : Type 0} (first : List Token → Parsed A) (text : List ℕ) (second : List Token → Parsed B) (ts us vs ws : List Token) (a : A) (b : B)
    → first ts ≡ Some (a, us) → past_text text us ≡ Some vs → second vs ≡ Some (b, ws) → both first text second ts ≡ Some ((a, b), ws)
both-reads first text second ts us vs ws a b e f g =
    ap (λ o. o >>= (λ r. past_text text r.1 >>= (λ rest. option_map (λ q. ((r.0, q.0), q.1)) (second rest)))) e
    ∙ ap (λ o. o >>= (λ rest. option_map (λ q. ((a, q.0), q.1)) (second rest))) f
    ∙ ap (option_map (λ q. ((a, q.0), q.1))) g

pub number-here : (n : ℕ) (rest : List ℕ) → n < 2 ^ 128 → EndsDigits rest → number_at (tokens_in (decimal n ++ rest)) ≡ Some (n, tokens_in rest)
number-here n rest h end = ap number_at (digits-read n rest h end)
