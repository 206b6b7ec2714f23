-- The clauses that say which predicates may be assumed.
--     abducible := "#abducible" name ["(" variable {"," variable} ")"] "."
-- The variables are distinct; each `_` is a new one.
use Rattle.std.specs.Prelude.{ℕ, zero, suc, ◌+◌, false, nat_le, is_some, List, length, if◌then◌else◌, Option, Some}
use Rattle.scasp_syntax.specs.declared.atom.Pred.{Pred}
use Rattle.scasp_reader_tokens.specs.declared.sign.Sign.TheVariants as sign
use Rattle.scasp_reader_tokens.specs.declared.token.Token.{Token}
use Rattle.scasp_reader_tokens.specs.declared.token.Token.TheVariants as token
use Rattle.scasp_reader_terms.specs.declared.fault.Count.TheVariants as count
use Rattle.scasp_reader_terms.specs.declared.fault.Kind.TheVariants as kind
use Rattle.scasp_reader_terms.specs.declared.terms.TheConstants.{ARITY_LIMIT}
use Rattle.scasp_reader_terms.specs.Steps.{Read, ◌>>=◌, give, get, note_if, place_of, token_of, unexpected, take, is_sign, taken, expect, between}
use Rattle.scasp_reader_terms.specs.Names.{interned, known_variable, variable_at}
use Rattle.scasp_reader.specs.declared.texts.clauses.Part.{Part}
use Rattle.scasp_reader.specs.declared.texts.clauses.Part.TheVariants as part

-- the variable that is next and stands at this place
abbrev pub new_variable : ℕ → List ℕ → Read ℕ
new_variable at text = do
  t ← take
  variable_at at text

-- a variable that the clause has had cannot stand there again
abbrev pub distinct_variable : ℕ → List ℕ → Read ℕ
distinct_variable at text s = if is_some (known_variable text s.variables) then unexpected s else new_variable at text s

abbrev pub parameter_at : ℕ → Option Token → Read ℕ
parameter_at at (Some (token.Variable text)) = distinct_variable at text
parameter_at at t = unexpected

-- one more parameter behind n others, of which there may be only so many
abbrev pub parameter : ℕ → Read ℕ
parameter n = do
  at ← get (λ s. place_of s.tokens)
  l ← note_if (nat_le ARITY_LIMIT n) at (kind.Limit count.Arity)
  λ s. parameter_at at (token_of s.tokens) s

-- One parameter or more behind n others, with commas between, cut off after a number of steps; how many they are then.
abbrev pub parameters_within : ℕ → ℕ → Read ℕ
parameters_within zero n = unexpected
parameters_within (suc left) n = do
  x ← parameter n
  comma ← taken sign.Comma
  if comma then parameters_within left (n + 1) else give (n + 1)

-- no more steps than there are tokens
abbrev pub some_parameters : Read ℕ
some_parameters s = parameters_within (length s.tokens) 0 s

-- the number of parameters in brackets
abbrev pub bracketed : Read ℕ
bracketed = between false sign.Open sign.Close some_parameters

-- where there are any
abbrev pub parameters : Read ℕ
parameters s = if is_sign sign.Open (token_of s.tokens) then bracketed s else give 0 s

-- a predicate without `-`
abbrev pub positive_pred : ℕ → ℕ → Pred
positive_pred name arity = record { minus = false; name = name; arity = arity }

-- the predicate of this name
abbrev pub named_abducible : List ℕ → Read Part
named_abducible text = do
  t ← take
  f ← interned text
  n ← parameters
  dot ← expect sign.Stop
  give (part.Abducible (positive_pred f n))

abbrev pub abducible_at : Option Token → Read Part
abducible_at (Some (token.Name text)) = named_abducible text
abducible_at t = unexpected

abbrev pub abducible : Read Part
abducible = do
  t ← take
  λ s. abducible_at (token_of s.tokens) s
