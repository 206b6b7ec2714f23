-- Clauses, queries and directives.
--     clause := atom [":-" body] "." | ":-" body "." | "?-" body "." | abducible
use Rattle.std.specs.Prelude.{ℕ, List, [], ◌∷◌, ◌++◌, length, codes, if◌then◌else◌, Option, None, Some}
use Rattle.std.specs.Str.{bytes_eq}
use Rattle.scasp_syntax.specs.declared.atom.Atom.{Atom}
use Rattle.scasp_syntax.specs.declared.clause.Item.{Item}
use Rattle.scasp_reader_tokens.specs.declared.sign.Sign.{Sign}
use Rattle.scasp_reader_tokens.specs.declared.sign.Sign.TheVariants as sign
use Rattle.scasp_reader_tokens.specs.declared.token.Token.{Token}
use Rattle.scasp_reader_tokens.specs.declared.token.Token.TheVariants as token
use Rattle.scasp_reader_terms.specs.Steps.{State, Read, ◌>>=◌, give, get, token_of, unexpected, take, taken, expect}
use Rattle.scasp_reader_terms.specs.Names.{interned}
use Rattle.scasp_reader.specs.Bodies.Atoms.{atom}
use Rattle.scasp_reader.specs.Bodies.Bodies.{body}
use Rattle.scasp_reader.specs.declared.texts.clauses.Part.{Part}
use Rattle.scasp_reader.specs.declared.texts.clauses.Part.TheVariants as part
use Rattle.scasp_reader.specs.Texts.Abducibles.{abducible}

-- the clause of this head and body, at its stop
abbrev pub ended : Option Atom → List Item → Read Part
ended head items = do
  dot ← expect sign.Stop
  n ← get (λ s. length s.variables)
  give (part.Clause (record { head = head; body = items; vars = n }))

-- the clause of this head, at its body
abbrev pub with_body : Option Atom → Read Part
with_body head = do
  items ← body
  ended head items

-- a fact or a rule
abbrev pub headed : Read Part
headed = do
  a ← atom
  has_body ← taken sign.If
  if has_body then with_body (Some a) else ended (Some a) []

abbrev pub denial : Read Part
denial = do
  t ← take
  with_body None

-- the name of a query's variable; none for `_`
abbrev pub name_of : List ℕ → Read (Option ℕ)
name_of text = if bytes_eq text (codes "_") then give None else (interned text >>= (λ n. give (Some n)))

-- the names of variables behind these, put into the table in order
abbrev pub named : List (Option ℕ) → List (List ℕ) → Read (List (Option ℕ))
named before [] = give before
named before (text ∷ texts) = do
  n ← name_of text
  named (before ++ n ∷ []) texts

abbrev pub query : Read Part
query = do
  t ← take
  items ← body
  dot ← expect sign.Stop
  texts ← get (λ s. s.variables)
  names ← named [] texts
  give (part.Query (record { body = items; names = names }))

abbrev pub clause_at_sign : Sign → Read Part
clause_at_sign sign.Minus = headed
clause_at_sign sign.If = denial
clause_at_sign sign.Query = query
clause_at_sign s = unexpected

abbrev pub clause_at : Option Token → Read Part
clause_at (Some (token.Name text)) = headed
clause_at (Some (token.Sign s)) = clause_at_sign s
clause_at (Some token.Abducible) = abducible
clause_at t = unexpected

-- another clause has no variables yet
abbrev pub without_variables : State → State
without_variables s = record s { variables = [] }

unfoldable pub clause : Read Part
clause s = clause_at (token_of s.tokens) (without_variables s)
