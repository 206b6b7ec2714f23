-- Names and variables: a name is its place in the table, a variable its number in the clause.
use Rattle.std.specs.Prelude.{ℕ, ◌+◌, ◌-◌, Bool, ◌||◌, List, [], ◌∷◌, ◌++◌, length, nat_le, nat_lt, codes, if◌then◌else◌, Option, None, Some, Ok, is_none}
use Rattle.std.specs.List.{position_from}
use Rattle.std.specs.Str.{bytes_eq}
use Rattle.scasp_name.specs.Texts.{with_text}
use Rattle.scasp_reader_terms.specs.declared.fault.Count.TheVariants as count
use Rattle.scasp_reader_terms.specs.declared.fault.Fault.{Fault}
use Rattle.scasp_reader_terms.specs.declared.fault.Kind.TheVariants as kind
use Rattle.scasp_reader_terms.specs.declared.reader.TheConstants.{VARIABLE_LIMIT, NUMBER_LIMIT}
use Rattle.scasp_reader_terms.specs.Steps.{State, Read, ◌>>=◌, get, note_if}

-- the place of the text in the table; where the table lacks it, the place that it gets there
abbrev pub place_in : List (List ℕ) → List ℕ → ℕ
place_in [] text = 0
place_in (t ∷ names) text = if bytes_eq text t then 0 else place_in names text + 1

-- the place of the name, which the table gets where it lacks it
abbrev pub interned : List ℕ → Read ℕ
interned text s = Ok (place_in s.names text, record s { names = with_text s.names text })

-- the number of a variable that the clause has had; `_` is always new
abbrev pub known_variable : List ℕ → List (List ℕ) → Option ℕ
known_variable text variables = if bytes_eq text (codes "_") then None else position_from (bytes_eq text) 0 variables

abbrev pub with_variable : List ℕ → State → State
with_variable text s = record s { variables = s.variables ++ text ∷ [] }

-- one more variable behind n others; the variables past all numbers share the last one
abbrev pub put_variable : ℕ → List ℕ → Read ℕ
put_variable n text s = if nat_lt n NUMBER_LIMIT then Ok (n, with_variable text s) else Ok (NUMBER_LIMIT - 1, s)

-- the number of a variable that the clause has not yet had, which stands at this place
abbrev pub new_variable : ℕ → List ℕ → Read ℕ
new_variable at text = do
  n ← get (λ s. length s.variables)
  l ← note_if (nat_le VARIABLE_LIMIT n) at (kind.Limit count.Variables)
  put_variable n text

-- the number of the variable that stands at this place
abbrev pub variable_at : ℕ → List ℕ → Read ℕ
variable_at at text s = elim (known_variable text s.variables) [ None ↦ new_variable at text s | Some x ↦ Ok (x, s) ]

-- one variable alone has this number: it is not the last, or no limit was passed
abbrev pub has_own_number : ℕ → Option Fault → Bool
has_own_number x fault = is_none fault || nat_lt x (NUMBER_LIMIT - 1)
