-- Tables that have the same first names.
use Rattle.std.specs.Prelude.{◌≡◌, ℕ, ◌<◌, true, List}
use Rattle.scasp_answers_terms.specs.Tokens.Lines.{Line, words_of}
use Rattle.scasp_cert.specs.Text.Names.{text_at}
use Rattle.scasp_law_answer_text.specs.LineReadback.Writable.{is_written}

-- the first `count` names of the two tables are the same
abbrev pub Agree : ℕ → List (List ℕ) → List (List ℕ) → Type 0
Agree count names table = (f : ℕ) → f < count → text_at names f ≡ text_at table f

-- A line with names among the first `count` of a table has the same text by each table with the same ones.
abbrev pub TextsAgree : Type 0
TextsAgree =
    (count : ℕ) (names table : List (List ℕ)) (l : Line) → Agree count names table → is_written count l ≡ true → words_of names l ≡ words_of table l
