-- Reading names.
use Rattle.std.specs.Prelude.{ℕ, if◌then◌else◌, List, [], ◌∷◌, codes, bytes_eq, Option, None, Some, option_map}
use Rattle.scasp_answers_terms.specs.Tokens.Tokens.{Token, word, quoted}
use Rattle.scasp_answers_terms.specs.Tokens.Readers.{Parsed}

-- a name: a word that is not `not`, or a quoted text
abbrev pub name_of : Token → Option (List ℕ)
name_of (word w) = if bytes_eq w (codes "not") then None else Some w
name_of (quoted text) = Some text
name_of _ = None

abbrev pub name_at : (List ℕ → ℕ) → List Token → Parsed ℕ
name_at place [] = None
name_at place (t ∷ ts) = option_map (λ text. (place text, ts)) (name_of t)
