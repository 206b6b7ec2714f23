-- What may stand behind an expression.
use Rattle.std.specs.Prelude.{◌≡◌, ℕ, true, List, None}
use Rattle.scasp_reader_tokens.specs.Tokens.{tokens_behind}
use Rattle.scasp_reader_terms.specs.Steps.{token_of}
use Rattle.scasp_reader_expressions.specs.Expressions.{factor_operation, product_operation}
use Rattle.scasp_law_program_text.specs.Readback.Endings.{ends_number, ends_name}

-- no bytes that go on with a number or a variable, and no sign of an operation as the next token
pub record EndsExpression (rest : List ℕ) : Type 0 where
  pub number : ends_number rest ≡ true
  pub variable : ends_name rest ≡ true
  pub no_factor : (at : ℕ) → factor_operation (token_of (tokens_behind 0 at rest)) ≡ None
  pub no_product : (at : ℕ) → product_operation (token_of (tokens_behind 0 at rest)) ≡ None
