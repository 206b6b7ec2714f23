-- New names: a text with `no ` in front that is no name of a program.
use Rattle.std.specs.Prelude.{ℕ, zero, suc, ◌+◌, List, [], ◌∷◌, ◌++◌, codes, Option, None, Some, slice_get, if◌then◌else◌}
use Rattle.std.specs.Str.{bytes_eq}
use Rattle.scasp_name.specs.Texts.{with_text}
use Rattle.scasp_abduce.specs.Occurrences.{has}

-- the place of a text in a table; the table's length where it has no such text
abbrev pub place_of : List (List ℕ) → List ℕ → ℕ
place_of [] text = 0
place_of (t ∷ texts) text = if bytes_eq text t then 0 else place_of texts text + 1

abbrev pub or_empty : Option (List ℕ) → List ℕ
or_empty None = []
or_empty (Some text) = text

-- the text of a name; of a name that the table lacks the empty one
abbrev pub text_of : List (List ℕ) → ℕ → List ℕ
text_of names n = or_empty (slice_get names n)

-- a table of names, and one of its names
pub record Named : Type 0 where
  pub names : List (List ℕ)
  pub name : ℕ

-- the table with the text, and the text's name there
abbrev pub named : List (List ℕ) → List ℕ → Named
named names text =
    let table = with_text names text in
    record { names = table; name = place_of table text }

-- the text with `no ` in front
abbrev pub negated : List ℕ → List ℕ
negated text = codes "no " ++ text

-- the name of the text with `no ` in front, at least once and as often as needed for a name that is not taken,
-- with so many further tries at most
abbrev pub new_name : List ℕ → ℕ → List (List ℕ) → List ℕ → Named
new_name taken zero names text = named names (negated text)
new_name taken (suc tries) names text =
    if has taken (named names (negated text)).name
    then new_name taken tries (named names (negated text)).names (negated text)
    else named names (negated text)
