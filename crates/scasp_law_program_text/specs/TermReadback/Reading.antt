-- What it says that the text of a term is read as this term, and what may stand behind it.
use Rattle.std.specs.Prelude.{◌≡◌, ℕ, ◌+◌, true, false, List, ◌++◌, length, Ok}
use Rattle.scasp_syntax.specs.Tm.{Tm}
use Rattle.scasp_reader_tokens.specs.declared.sign.Sign.TheVariants as sign
use Rattle.scasp_reader_tokens.specs.Tokens.{tokens_behind}
use Rattle.scasp_reader_terms.specs.Steps.{State, token_of, is_sign}
use Rattle.scasp_reader_terms.specs.Terms.{term}
use Rattle.scasp_law_program_text.specs.Readback.Endings.{ends_number, ends_name}

-- the reader with these bytes left, which stand at this place
abbrev pub before : State → ℕ → List ℕ → State
before s at bytes = record s { tokens = tokens_behind 0 at bytes }

-- the reader behind a term, with these bytes left
abbrev pub behind_term : State → ℕ → List ℕ → State
behind_term s at bytes = record s { tokens = tokens_behind 0 at bytes; is_behind_operand = true }

-- With so many brackets to be opened, the reader reads the text before these bytes as the term, and nothing else changes.
abbrev pub IsReadAs : ℕ → List ℕ → Tm → State → List ℕ → Type 0
IsReadAs room text t s rest = (at : ℕ) → term room (before s at (text ++ rest)) ≡ Ok (t, behind_term s (at + length text) rest)

-- behind a number: no digits or decimals that go on with it, and no `/` as the next token
abbrev pub ends_number_term : List ℕ → Type 0
ends_number_term rest = (ends_number rest ≡ true) × ((at : ℕ) → is_sign sign.Over (token_of (tokens_behind 0 at rest)) ≡ false)

-- behind a name without arguments: no byte that goes on with it, and no `(` as the next token
abbrev pub ends_name_term : List ℕ → Type 0
ends_name_term rest = (ends_name rest ≡ true) × ((at : ℕ) → is_sign sign.Open (token_of (tokens_behind 0 at rest)) ≡ false)

-- behind both
abbrev pub EndsTerm : List ℕ → Type 0
EndsTerm rest = ends_number_term rest × ends_name_term rest

-- The same as IsReadAs, where then the table and the clause's variables are these.
abbrev pub IsReadAsWith : ℕ → List ℕ → Tm → List (List ℕ) → List (List ℕ) → State → List ℕ → Type 0
IsReadAsWith room text t names variables s rest =
    (at : ℕ) → term room (before s at (text ++ rest)) ≡ Ok (t, record (behind_term s (at + length text) rest) { names = names; variables = variables })
