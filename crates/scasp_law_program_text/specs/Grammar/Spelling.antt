-- The tokens of a tree.
use Rattle.std.specs.Prelude.{ℕ, Bool, List, [], ◌∷◌, ◌++◌, map, if◌then◌else◌}
use Rattle.scasp_reader_tokens.specs.declared.sign.Sign.TheVariants as sign
use Rattle.scasp_reader_tokens.specs.declared.token.Token.{Token}
use Rattle.scasp_reader_tokens.specs.declared.token.Token.TheVariants as token
use Rattle.scasp_reader_tokens.specs.declared.token.Placed.{Placed}
use Rattle.scasp_reader_tokens.specs.Tokens.{tokens_of}
use Rattle.scasp_law_program_text.specs.Grammar.Trees.{Term, a_variable, a_number, a_fraction, a_name, an_empty_list, a_list, a_list_with, Terms, one_term, more_terms, Arguments, no_arguments, some_arguments, Expression, an_expression, Products, no_products, plus, minus, Product, a_product, Factors, no_factors, times, over, Factor, a_number_factor, a_variable_factor, a_bracket, Atom, Item, a_call, a_negative_call, an_equation, a_disequation, a_comparison, Body, one_item, more_items, Clause, a_fact, a_rule, a_denial, a_query, an_abducible, a_directive}

-- ---- tokens

-- tokens without their places
abbrev pub bare : List Placed → List Token
bare tokens = map (λ t. t.token) tokens

-- the tokens of a text
abbrev pub tokens_in : List ℕ → List Token
tokens_in bytes = bare (tokens_of bytes)

abbrev pub minus_if : Bool → List Token
minus_if is_negated = if is_negated then token.Sign sign.Minus ∷ [] else []

-- ---- terms

abbrev mutual
  pub term_tokens : Term → List Token
  term_tokens (a_variable text) = token.Variable text ∷ []
  term_tokens (a_number is_negated p) = minus_if is_negated ++ token.Number p ∷ []
  term_tokens (a_fraction is_negated p q) = minus_if is_negated ++ token.Number p ∷ token.Sign sign.Over ∷ token.Number q ∷ []
  term_tokens (a_name text arguments) = token.Name text ∷ arguments_tokens arguments
  term_tokens an_empty_list = token.Sign sign.OpenList ∷ token.Sign sign.CloseList ∷ []
  term_tokens (a_list ts) = token.Sign sign.OpenList ∷ (terms_tokens ts ++ token.Sign sign.CloseList ∷ [])
  term_tokens (a_list_with ts tail) = token.Sign sign.OpenList ∷ (terms_tokens ts ++ token.Sign sign.Bar ∷ (term_tokens tail ++ token.Sign sign.CloseList ∷ []))

  pub terms_tokens : Terms → List Token
  terms_tokens (one_term t) = term_tokens t
  terms_tokens (more_terms t ts) = term_tokens t ++ token.Sign sign.Comma ∷ terms_tokens ts

  pub arguments_tokens : Arguments → List Token
  arguments_tokens no_arguments = []
  arguments_tokens (some_arguments ts) = token.Sign sign.Open ∷ (terms_tokens ts ++ token.Sign sign.Close ∷ [])

-- ---- expressions

abbrev mutual
  pub expression_tokens : Expression → List Token
  expression_tokens (an_expression is_negated p ps) = minus_if is_negated ++ (product_tokens p ++ products_tokens ps)

  pub products_tokens : Products → List Token
  products_tokens no_products = []
  products_tokens (plus p ps) = token.Sign sign.Plus ∷ (product_tokens p ++ products_tokens ps)
  products_tokens (minus p ps) = token.Sign sign.Minus ∷ (product_tokens p ++ products_tokens ps)

  pub product_tokens : Product → List Token
  product_tokens (a_product f fs) = factor_tokens f ++ factors_tokens fs

  pub factors_tokens : Factors → List Token
  factors_tokens no_factors = []
  factors_tokens (times f fs) = token.Sign sign.Times ∷ (factor_tokens f ++ factors_tokens fs)
  factors_tokens (over f fs) = token.Sign sign.Over ∷ (factor_tokens f ++ factors_tokens fs)

  pub factor_tokens : Factor → List Token
  factor_tokens (a_number_factor q) = token.Number q ∷ []
  factor_tokens (a_variable_factor text) = token.Variable text ∷ []
  factor_tokens (a_bracket e) = token.Sign sign.Open ∷ (expression_tokens e ++ token.Sign sign.Close ∷ [])

-- ---- items and bodies

abbrev pub atom_tokens : Atom → List Token
atom_tokens a = minus_if a.is_negated ++ token.Name a.name ∷ arguments_tokens a.arguments

abbrev pub item_tokens : Item → List Token
item_tokens (a_call a) = atom_tokens a
item_tokens (a_negative_call a) = token.Not ∷ atom_tokens a
item_tokens (an_equation l r) = term_tokens l ++ token.Sign sign.Equal ∷ term_tokens r
item_tokens (a_disequation l r) = term_tokens l ++ token.Sign sign.Differ ∷ term_tokens r
item_tokens (a_comparison l o is_turned r) = expression_tokens l ++ token.Sign (sign.Relation o is_turned) ∷ expression_tokens r

abbrev pub body_tokens : Body → List Token
body_tokens (one_item i) = item_tokens i
body_tokens (more_items i b) = item_tokens i ++ token.Sign sign.Comma ∷ body_tokens b

-- ---- clauses and programs

-- variables with commas between
abbrev pub variables_tokens : List ℕ → List (List ℕ) → List Token
variables_tokens text [] = token.Variable text ∷ []
variables_tokens text (next ∷ texts) = token.Variable text ∷ token.Sign sign.Comma ∷ variables_tokens next texts

-- variables in brackets, where there are any
abbrev pub parameters_tokens : List (List ℕ) → List Token
parameters_tokens [] = []
parameters_tokens (text ∷ texts) = token.Sign sign.Open ∷ (variables_tokens text texts ++ token.Sign sign.Close ∷ [])

abbrev pub clause_tokens : Clause → List Token
clause_tokens (a_fact a) = atom_tokens a ++ token.Sign sign.Stop ∷ []
clause_tokens (a_rule a b) = atom_tokens a ++ token.Sign sign.If ∷ (body_tokens b ++ token.Sign sign.Stop ∷ [])
clause_tokens (a_denial b) = token.Sign sign.If ∷ (body_tokens b ++ token.Sign sign.Stop ∷ [])
clause_tokens (a_query b) = token.Sign sign.Query ∷ (body_tokens b ++ token.Sign sign.Stop ∷ [])
clause_tokens (an_abducible name variables) = token.Abducible ∷ token.Name name ∷ (parameters_tokens variables ++ token.Sign sign.Stop ∷ [])
clause_tokens a_directive = token.SkippedDirective ∷ []

abbrev pub program_tokens : List Clause → List Token
program_tokens [] = []
program_tokens (c ∷ clauses) = clause_tokens c ++ program_tokens clauses
