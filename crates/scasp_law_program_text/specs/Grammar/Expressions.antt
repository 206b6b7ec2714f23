-- What the tree of an expression means: the variables that are written in it, ascending, and its sum, worked out from the left to the right.
use Rattle.std.specs.Prelude.{ℕ, zero, suc, Bool, true, not, ◌&&◌, nat_lt, List, [], ◌∷◌, length, if◌then◌else◌}
use Rattle.scasp_num.specs.Linear.{is_zero}
use Rattle.scasp_num.specs.Number.{Number}
use Rattle.scasp_reader_expressions.specs.declared.sums.Operation.{Operation}
use Rattle.scasp_reader_expressions.specs.declared.sums.Operation.TheVariants as operation
use Rattle.scasp_reader_expressions.specs.declared.sums.Sum.{Sum}
use Rattle.scasp_reader_expressions.specs.Sums.{constant_sum, variable_sum, negated_sum, worked}
use Rattle.scasp_reader_expressions.specs.Values.{united}
use Rattle.scasp_law_program_text.specs.Grammar.Known.{Make, ◌>>=◌, means, nothing, only, numbered}
use Rattle.scasp_law_program_text.specs.Grammar.Trees.{Expression, an_expression, Products, no_products, plus, minus, Product, a_product, Factors, no_factors, times, over, Factor, a_number_factor, a_variable_factor, a_bracket}

pub record Worth : Type 0 where
  pub variables : List ℕ
  pub sum : Sum

abbrev pub worth : List ℕ → Sum → Worth
worth xs sum = record { variables = xs; sum = sum }

abbrev pub has_variables : Worth → Bool
has_variables a = nat_lt 0 (length a.variables)

-- a product of which one side has no variables, a quotient by a number that is not 0; all sums and differences
abbrev pub is_allowed : Operation → Worth → Worth → Bool
is_allowed operation.Plus a b = true
is_allowed operation.Minus a b = true
is_allowed operation.Times a b = not (has_variables a && has_variables b)
is_allowed operation.Over a b = not (has_variables b) && not (is_zero b.sum.constant.num)

abbrev pub operation_meaning : Operation → Worth → Worth → Make Worth
operation_meaning o a b = if is_allowed o a b then (only (worked o a.sum b.sum) >>= (λ sum. means (worth (united a.variables b.variables) sum))) else nothing

abbrev pub negated_worth : Bool → Worth → Worth
negated_worth is_negated a = if is_negated then worth a.variables (negated_sum a.sum) else a

abbrev pub number_worth : Number → Make Worth
number_worth q = means (worth [] (constant_sum q))

abbrev pub variable_worth : ℕ → Make Worth
variable_worth x = only (variable_sum x) >>= (λ sum. means (worth (x ∷ []) sum))

-- where so many brackets may be opened inside one another
abbrev mutual
  pub expression_meaning : ℕ → Expression → Make Worth
  expression_meaning room (an_expression is_negated p ps) = product_meaning room p >>= (λ a. products_meaning room ps (negated_worth is_negated a))

  -- the sum with these behind it
  pub products_meaning : ℕ → Products → Worth → Make Worth
  products_meaning room no_products a = means a
  products_meaning room (plus p ps) a = product_meaning room p >>= (λ b. operation_meaning operation.Plus a b >>= (λ c. products_meaning room ps c))
  products_meaning room (minus p ps) a = product_meaning room p >>= (λ b. operation_meaning operation.Minus a b >>= (λ c. products_meaning room ps c))

  pub product_meaning : ℕ → Product → Make Worth
  product_meaning room (a_product f fs) = factor_meaning room f >>= (λ a. factors_meaning room fs a)

  -- the product with these behind it
  pub factors_meaning : ℕ → Factors → Worth → Make Worth
  factors_meaning room no_factors a = means a
  factors_meaning room (times f fs) a = factor_meaning room f >>= (λ b. operation_meaning operation.Times a b >>= (λ c. factors_meaning room fs c))
  factors_meaning room (over f fs) a = factor_meaning room f >>= (λ b. operation_meaning operation.Over a b >>= (λ c. factors_meaning room fs c))

  pub factor_meaning : ℕ → Factor → Make Worth
  factor_meaning room (a_number_factor q) = only q >>= (λ p. number_worth p)
  factor_meaning room (a_variable_factor text) = numbered text >>= (λ x. variable_worth x)
  factor_meaning zero (a_bracket e) = nothing
  factor_meaning (suc room) (a_bracket e) = expression_meaning room e
