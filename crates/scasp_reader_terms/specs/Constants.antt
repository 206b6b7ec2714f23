-- Numbers as terms: ["-"] number ["/" number].
use Rattle.std.specs.Prelude.{ℕ, Bool, true, false, if◌then◌else◌, Option, None, Some, is_none}
use Rattle.scasp_num.specs.Number.{Number}
use Rattle.scasp_num.specs.Arithmetic.{quotient_of, negation_of}
use Rattle.scasp_num.specs.Linear.{is_zero}
use Rattle.scasp_syntax.specs.Tm.{Tm, num, app, nil}
use Rattle.scasp_reader_tokens.specs.declared.sign.Sign.TheVariants as sign
use Rattle.scasp_reader_tokens.specs.declared.token.Token.{Token}
use Rattle.scasp_reader_tokens.specs.declared.token.Token.TheVariants as token
use Rattle.scasp_reader_terms.specs.declared.fault.Kind.TheVariants as kind
use Rattle.scasp_reader_terms.specs.Steps.{Read, ◌>>=◌, give, get, note_if, stop_at, place_of, token_of, unexpected, take, taken}

-- a number, and the fault of one that is too large, which stands at this place
abbrev pub noted_number : ℕ → Option Number → Read (Option Number)
noted_number at q = do
  n ← note_if (is_none q) at kind.NumberTooLarge
  give q

abbrev pub number_of : ℕ → Option Token → Read (Option Number)
number_of at (Some (token.Number q)) = do
  t ← take
  noted_number at q
number_of at t = unexpected

-- the next token is a number
abbrev pub number : Read (Option Number)
number s = number_of (place_of s.tokens) (token_of s.tokens) s

abbrev pub is_zero_number : Option Number → Bool
is_zero_number None = false
is_zero_number (Some q) = is_zero q.num

-- The quotient, whose sign stands at this place. It is none where one of the two is none: a fault was then noted before.
abbrev pub quotient_at : ℕ → Option Number → Option Number → Read (Option Number)
quotient_at at None q = give None
quotient_at at (Some p) None = give None
quotient_at at (Some p) (Some q) = noted_number at (quotient_of p q)

-- the number behind the `/` at this place divides p
abbrev pub divided : ℕ → Option Number → Read (Option Number)
divided at p = do
  divisor ← get (λ s. place_of s.tokens)
  q ← number
  if is_zero_number q then stop_at divisor kind.Expected else quotient_at at p q

-- the number that stands for a term; for one that could not be made any term will do, since a fault was noted
abbrev pub number_term : Bool → Option Number → Tm
number_term true (Some q) = num (negation_of q)
number_term false (Some q) = num q
number_term minus None = app 0 nil

abbrev pub constant : Read Tm
constant = do
  minus ← taken sign.Minus
  p ← number
  at ← get (λ s. place_of s.tokens)
  over ← taken sign.Over
  q ← (if over then divided at p else give p)
  give (number_term minus q)
