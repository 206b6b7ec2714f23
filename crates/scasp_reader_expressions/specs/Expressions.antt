-- Expressions, worked out as they are read, from the left to the right.
--     expression := ["-"] product {("+" | "-") product}
--     product := factor {("*" | "/") factor}
--     factor := number | variable | "(" expression ")"
use Rattle.std.specs.Prelude.{ℕ, zero, suc, Bool, false, if◌then◌else◌, List, [], ◌∷◌, length, Option, None, Some, Ok, option_map}
use Rattle.scasp_reader_tokens.specs.declared.sign.Sign.{Sign}
use Rattle.scasp_reader_tokens.specs.declared.sign.Sign.TheVariants as sign
use Rattle.scasp_reader_tokens.specs.declared.token.Token.{Token}
use Rattle.scasp_reader_tokens.specs.declared.token.Token.TheVariants as token
use Rattle.scasp_reader_terms.specs.declared.fault.Kind.TheVariants as kind
use Rattle.scasp_reader_terms.specs.Steps.{Read, ◌>>=◌, give, get, stop_at, place_of, token_of, unexpected, take, taken, between}
use Rattle.scasp_reader_terms.specs.Names.{variable_at, has_own_number}
use Rattle.scasp_reader_terms.specs.Constants.{number}
use Rattle.scasp_reader_terms.specs.Terms.{inside}
use Rattle.scasp_reader_expressions.specs.declared.sums.Operation.{Operation}
use Rattle.scasp_reader_expressions.specs.declared.sums.Operation.TheVariants as operation
use Rattle.scasp_reader_expressions.specs.declared.values.Value.{Value}
use Rattle.scasp_reader_expressions.specs.Sums.{constant_sum, variable_sum}
use Rattle.scasp_reader_expressions.specs.Values.{value_of, operated, negated}

-- ---- factors

-- a variable that shares its number with others has no value
abbrev pub variable_value : Bool → ℕ → Value
variable_value is_own x = value_of (x ∷ []) (if is_own then variable_sum x else None)

abbrev pub variable_factor : ℕ → List ℕ → Read Value
variable_factor at text = do
  t ← take
  x ← variable_at at text
  is_own ← get (λ s. has_own_number x s.fault)
  give (variable_value is_own x)

abbrev pub number_factor : Read Value
number_factor = do
  q ← number
  give (value_of [] (option_map constant_sum q))

abbrev pub bracket_in : Read Value → Read Value
bracket_in one = between false sign.Open sign.Close one

-- what no relation has as an operand: a name or a list
abbrev pub no_operand : Read Value
no_operand s = stop_at (place_of s.tokens) kind.NotLinear s

abbrev pub factor_at_sign : Option (Read Value) → Sign → Read Value
factor_at_sign inner sign.Open = inside inner bracket_in
factor_at_sign inner sign.OpenList = no_operand
factor_at_sign inner s = unexpected

abbrev pub factor_at : Option (Read Value) → ℕ → Option Token → Read Value
factor_at inner at (Some (token.Number q)) = number_factor
factor_at inner at (Some (token.Variable text)) = variable_factor at text
factor_at inner at (Some (token.Name text)) = no_operand
factor_at inner at (Some (token.Sign s)) = factor_at_sign inner s
factor_at inner at t = unexpected

abbrev pub factor : Option (Read Value) → Read Value
factor inner s = factor_at inner (place_of s.tokens) (token_of s.tokens) s

-- ---- operations, one behind the other

-- the operation whose sign stands at this place, and is next, with the operand behind it
abbrev pub operation_behind : Read Value → Operation → ℕ → Value → Read Value
operation_behind operand o at e = do
  t ← take
  f ← operand
  operated o at e f

-- as many of them as there are signs for, cut off after a number of them
abbrev pub repeated : (Option Token → Option Operation) → Read Value → ℕ → Value → Read Value
repeated sign_of operand zero e s = Ok (e, s)
repeated sign_of operand (suc n) e s =
    elim (sign_of (token_of s.tokens)) [
      | None ↦ Ok (e, s)
      | Some o ↦ (operation_behind operand o (place_of s.tokens) e >>= repeated sign_of operand n) s
    ]

-- no more of them than there are tokens
abbrev pub chain : (Option Token → Option Operation) → Read Value → Value → Read Value
chain sign_of operand e s = repeated sign_of operand (length s.tokens) e s

abbrev pub factor_operation_of : Sign → Option Operation
factor_operation_of sign.Times = Some operation.Times
factor_operation_of sign.Over = Some operation.Over
factor_operation_of s = None

-- `*` or `/`
abbrev pub factor_operation : Option Token → Option Operation
factor_operation (Some (token.Sign s)) = factor_operation_of s
factor_operation t = None

abbrev pub product_operation_of : Sign → Option Operation
product_operation_of sign.Plus = Some operation.Plus
product_operation_of sign.Minus = Some operation.Minus
product_operation_of s = None

-- `+` or `-`
abbrev pub product_operation : Option Token → Option Operation
product_operation (Some (token.Sign s)) = product_operation_of s
product_operation t = None

abbrev pub product : Option (Read Value) → Read Value
product inner = do
  e ← factor inner
  chain factor_operation (factor inner) e

abbrev pub expression_with : Option (Read Value) → Read Value
expression_with inner = do
  minus ← taken sign.Minus
  e ← product inner
  chain product_operation (product inner) (negated minus e)

-- an expression, where so many brackets may be opened inside one another
unfoldable pub expression : ℕ → Read Value
expression zero = expression_with None
expression (suc room) = expression_with (Some (expression room))
