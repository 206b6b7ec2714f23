-- Why an answer is rejected, in words.
use Rattle.std.specs.Prelude.{ℕ, List, [], ◌∷◌, map, codes}
use Rattle.scasp_answers_terms.specs.Tokens.Readers.{Parsed, any_of, alone}
use Rattle.scasp_answers_terms.specs.Tokens.Tokens.{Token}

-- the reasons for which a certificate is not accepted, in the order in which they are tested at a line
abbrev pub reasons : List (List ℕ)
reasons =
    codes "wrong query" ∷ codes "wrong variable" ∷ codes "wrong node" ∷ codes "wrong literal" ∷ codes "wrong rule"
    ∷ codes "wrong instance" ∷ codes "wrong children" ∷ codes "uncovered case" ∷ codes "wrong item" ∷ codes "wrong split"
    ∷ codes "no ancestor" ∷ codes "loop without negation" ∷ codes "not in scope" ∷ codes "hint step" ∷ codes "hint overflow"
    ∷ codes "hint not reached" ∷ codes "clash" ∷ codes "sample" ∷ codes "wrong check" ∷ codes "wrong map" ∷ []

abbrev pub reason_at : List Token → Parsed (List ℕ)
reason_at = any_of (map (λ r. alone r r) reasons)
