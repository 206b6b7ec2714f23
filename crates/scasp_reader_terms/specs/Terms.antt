-- Terms.
--     term := variable | ["-"] number ["/" number] | name ["(" term {"," term} ")"] | "[" "]" | "[" term {"," term} ["|" term] "]"
use Rattle.std.specs.Prelude.{ℕ, zero, suc, Bool, true, false, ◌&&◌, nat_le, List, [], ◌∷◌, length, if◌then◌else◌, Option, None, Some}
use Rattle.scasp_syntax.specs.Tm.{Tm, var, app, nil, cons, listed}
use Rattle.scasp_reader_tokens.specs.declared.sign.Sign.{Sign}
use Rattle.scasp_reader_tokens.specs.declared.sign.Sign.TheVariants as sign
use Rattle.scasp_reader_tokens.specs.declared.token.Token.{Token}
use Rattle.scasp_reader_tokens.specs.declared.token.Token.TheVariants as token
use Rattle.scasp_reader_terms.specs.declared.fault.Count.TheVariants as count
use Rattle.scasp_reader_terms.specs.declared.fault.Kind.TheVariants as kind
use Rattle.scasp_reader_terms.specs.declared.terms.TheConstants.{ARITY_LIMIT}
use Rattle.scasp_reader_terms.specs.Steps.{Read, ◌>>=◌, give, get, note_if, stop_at, place_of, token_of, unexpected, take, is_sign, taken, between, separated}
use Rattle.scasp_reader_terms.specs.Names.{interned, variable_at}
use Rattle.scasp_reader_terms.specs.Constants.{constant}

-- The reading of what stands in a bracket, where one more bracket may be opened here.
abbrev pub inside : {A B : Type 0} → Option (Read A) → (Read A → Read B) → Read B
inside None f s = stop_at (place_of s.tokens) (kind.Limit count.Depth) s
inside (Some one) f s = f one s

-- one more term behind so many; of arguments there may be only so many
abbrev pub one_more : Bool → ℕ → Read Tm → Read Tm
one_more are_arguments n one = do
  at ← get (λ s. place_of s.tokens)
  l ← note_if (are_arguments && nat_le ARITY_LIMIT n) at (kind.Limit count.Arity)
  one

-- term {"," term}
abbrev pub several : Bool → Read Tm → Read (List Tm)
several are_arguments one = separated (λ before. one_more are_arguments (length before) one)

-- "(" term {"," term} ")"
abbrev pub arguments_in : Read Tm → Read (List Tm)
arguments_in one = between false sign.Open sign.Close (several true one)

abbrev pub arguments : Option (Read Tm) → Read (List Tm)
arguments inner s = if is_sign sign.Open (token_of s.tokens) then inside inner arguments_in s else give [] s

abbrev pub compound : Option (Read Tm) → List ℕ → Read Tm
compound inner text = do
  t ← take
  f ← interned text
  ts ← arguments inner
  give (app f (listed ts))

-- the list of these, with this behind them; the names of lists are 0 and 1
abbrev pub list_of : List Tm → Tm → Tm
list_of [] tail = tail
list_of (t ∷ ts) tail = app 1 (cons t (cons (list_of ts tail) nil))

-- term {"," term} ["|" term]
abbrev pub elements : Read Tm → Read Tm
elements one = do
  ts ← several false one
  bar ← taken sign.Bar
  tail ← (if bar then one else give (app 0 nil))
  give (list_of ts tail)

abbrev pub elements_if : Read Tm → Read Tm
elements_if one s = if is_sign sign.CloseList (token_of s.tokens) then give (app 0 nil) s else elements one s

abbrev pub list_in : Read Tm → Read Tm
list_in one = between true sign.OpenList sign.CloseList (elements_if one)

abbrev pub variable_term : ℕ → List ℕ → Read Tm
variable_term at text = do
  t ← take
  x ← variable_at at text
  give (var x)

abbrev pub term_at_sign : Option (Read Tm) → Sign → Read Tm
term_at_sign inner sign.Minus = constant
term_at_sign inner sign.OpenList = inside inner list_in
term_at_sign inner s = unexpected

abbrev pub term_at : Option (Read Tm) → ℕ → Option Token → Read Tm
term_at inner at (Some (token.Variable text)) = variable_term at text
term_at inner at (Some (token.Number q)) = constant
term_at inner at (Some (token.Name text)) = compound inner text
term_at inner at (Some (token.Sign s)) = term_at_sign inner s
term_at inner at t = unexpected

abbrev pub term_with : Option (Read Tm) → Read Tm
term_with inner s = term_at inner (place_of s.tokens) (token_of s.tokens) s

-- a term, where so many brackets may be opened inside one another
unfoldable pub term : ℕ → Read Tm
term zero = term_with None
term (suc room) = term_with (Some (term room))

-- what may stand in a bracket
abbrev pub below : {A : Type 0} → (ℕ → Read A) → ℕ → Option (Read A)
below f zero = None
below f (suc room) = Some (f room)
