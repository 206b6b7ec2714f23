-- The reader over the tokens of factors, products, expressions and comparisons.
use Rattle.std.proofs.Common.{◌≡◌, ℕ, suc, ◌-◌, ◌<◌, true, false, List, [], ◌∷◌, length, Option, None, Some, Ok, refl, ap, ◌∙◌, arith}
use Rattle.scasp_num.specs.declared.linear.Op.{Op}
use Rattle.scasp_num.specs.Number.{Number}
use Rattle.scasp_num.specs.Linear.{Linear}
use Rattle.scasp_syntax.specs.declared.clause.Item.TheVariants as form
use Rattle.scasp_reader_tokens.specs.declared.sign.Sign.{Sign}
use Rattle.scasp_reader_tokens.specs.declared.sign.Sign.TheVariants as sign
use Rattle.scasp_reader_tokens.specs.declared.token.Token.TheVariants as token
use Rattle.scasp_reader_tokens.specs.declared.token.Placed.{Placed}
use Rattle.scasp_reader_tokens.specs.Tokens.{placed}
use Rattle.scasp_reader_terms.specs.Steps.{State, Read, then_read, ◌>>=◌, give, get, token_of, is_sign, is_operand_sign, taken}
use Rattle.scasp_reader_terms.specs.Names.{variable_at, has_own_number}
use Rattle.scasp_reader_expressions.specs.declared.sums.Operation.{Operation}
use Rattle.scasp_reader_expressions.specs.declared.sums.Operation.TheVariants as operation
use Rattle.scasp_reader_expressions.specs.declared.sums.Sum.{Sum}
use Rattle.scasp_reader_expressions.specs.declared.values.Value.{Value}
use Rattle.scasp_reader_expressions.specs.Sums.{constant_sum, row_of}
use Rattle.scasp_reader_expressions.specs.Values.{value_of, operated}
use Rattle.scasp_reader_expressions.specs.Expressions.{variable_value, factor, repeated, chain, factor_operation, product_operation_of, product_operation, product, expression}
use Rattle.scasp_reader_expressions.proofs.ChainLemmas.{repeated_none, repeated_more, operation_on}
use Rattle.scasp_reader.specs.declared.bodies.atoms.TheConstants.{DEPTH_LIMIT}
use Rattle.scasp_reader.specs.Bodies.Items.{equation_sign, nth_token, comparison, item}

-- ---- factors and products

module _ (inner : Option (Read Value)) (s : State) where
  pub number-factor : (ts : List Placed) (a : ℕ) (q : Number) → factor inner (record s { tokens = placed a (token.Number (Some q)) ∷ ts }) ≡ Ok (value_of [] (Some (constant_sum q)), record s { tokens = ts; is_behind_operand = true })
  number-factor ts a q = refl

  pub variable-factor : (s1 : State) (ts : List Placed) (a x : ℕ) (text : List ℕ) → s1.fault ≡ None → variable_at a text (record s { tokens = ts; is_behind_operand = true }) ≡ Ok (x, s1)
      → factor inner (record s { tokens = placed a (token.Variable text) ∷ ts }) ≡ Ok (variable_value true x, s1)
  variable-factor s1 ts a x text fine e =
      ap (λ r. then_read r (λ x. get (λ s. has_own_number x s.fault) >>= (λ is_own. give (variable_value is_own x)))) e
      ∙ ap (λ fault. Ok (variable_value (has_own_number x fault) x, s1)) fine

  pub factor-product : (s1 : State) (e : Value) → factor inner s ≡ Ok (e, s1) → factor_operation (token_of s1.tokens) ≡ None → product inner s ≡ Ok (e, s1)
  factor-product s1 e f none = ap (λ r. then_read r (chain factor_operation (factor inner))) f ∙ repeated_none factor_operation (factor inner) (length s1.tokens) e s1 none

  pub times-product : (s1 s2 : State) (ts : List Placed) (a : ℕ) (e f g : Value) → factor inner s ≡ Ok (e, record s1 { tokens = placed a (token.Sign sign.Times) ∷ ts })
      → factor inner (record s1 { tokens = ts; is_behind_operand = false }) ≡ Ok (f, s2) → operated operation.Times a e f s2 ≡ Ok (g, s2) → factor_operation (token_of s2.tokens) ≡ None → product inner s ≡ Ok (g, s2)
  times-product s1 s2 ts a e f g first second made none =
      let mid : State = record s1 { tokens = placed a (token.Sign sign.Times) ∷ ts } in
      let some : 0 < suc (length ts) = omega arith in
      ap (λ r. then_read r (chain factor_operation (factor inner))) first
      ∙ repeated_more factor_operation (factor inner) (suc (length ts)) e mid some operation.Times refl g s2 (operation_on (factor inner) operation.Times a e f mid s2 second ∙ made)
      ∙ repeated_none factor_operation (factor inner) (suc (length ts) - 1) g s2 none

  -- one product more, behind its sign
  pub sign-step : (s2 : State) (ts : List Placed) (a k : ℕ) (t : Sign) (o : Operation) (e f g : Value) → product_operation_of t ≡ Some o → 0 < k
      → product inner (record s { tokens = ts; is_behind_operand = is_operand_sign t }) ≡ Ok (f, s2) → operated o a e f s2 ≡ Ok (g, s2)
      → repeated product_operation (product inner) k e (record s { tokens = placed a (token.Sign t) ∷ ts }) ≡ repeated product_operation (product inner) (k - 1) g s2
  sign-step s2 ts a k t o e f g is some read made =
      let mid : State = record s { tokens = placed a (token.Sign t) ∷ ts } in
      repeated_more product_operation (product inner) k e mid some o is g s2 (operation_on (product inner) o a e f mid s2 read ∙ made)

-- ---- the sign in front

pub minus-taken : (s : State) (ts : List Placed) (a : ℕ) → taken sign.Minus (record s { tokens = placed a (token.Sign sign.Minus) ∷ ts }) ≡ Ok (true, record s { tokens = ts; is_behind_operand = false })
minus-taken s ts a = refl

pub none-taken : (s : State) → is_sign sign.Minus (token_of s.tokens) ≡ false → taken sign.Minus s ≡ Ok (false, s)
none-taken s e = rw e refl

-- ---- comparisons

pub comparison-step : (s s1 s2 : State) (ts : List Placed) (a : ℕ) (o : Op) (xs : List ℕ) (l r : Sum) (row : Linear)
    → expression DEPTH_LIMIT s ≡ Ok (value_of xs (Some l), record s1 { tokens = placed a (token.Sign (sign.Relation o false)) ∷ ts })
    → expression DEPTH_LIMIT (record s1 { tokens = ts; is_behind_operand = false }) ≡ Ok (value_of [] (Some r), s2)
    → row_of o l r ≡ Some row → comparison s ≡ Ok (form.Linear (record { vars = xs; row = row }), s2)
comparison-step s s1 s2 ts a o xs l r row e f g = rw (e, f, g) refl

-- what begins a comparison
module _ (s : State) where
  abbrev pub Begins : List Placed → Type 0
  Begins ts = item (record s { tokens = ts }) ≡ comparison (record s { tokens = ts })

  second-token : (p : Placed) (ts : List Placed) → nth_token (p ∷ ts) 1 ≡ token_of ts
  second-token p [] = refl
  second-token p (t ∷ ts) = refl

  pub variable-begins : (a : ℕ) (text : List ℕ) (ts : List Placed) → equation_sign (token_of ts) ≡ None → Begins (placed a (token.Variable text) ∷ ts)
  unfolding item
  variable-begins a text ts e =
      let none : equation_sign (nth_token (placed a (token.Variable text) ∷ ts) 1) ≡ None = ap equation_sign (second-token (placed a (token.Variable text)) ts) ∙ e in
      rw none refl

  pub times-begins : (a b : ℕ) (q : Option Number) (ts : List Placed) → Begins (placed a (token.Number q) ∷ placed b (token.Sign sign.Times) ∷ ts)
  unfolding item
  times-begins a b q ts = refl

  pub minus_variable-begins : (a b : ℕ) (text : List ℕ) (ts : List Placed) → Begins (placed a (token.Sign sign.Minus) ∷ placed b (token.Variable text) ∷ ts)
  unfolding item
  minus_variable-begins a b text ts = refl

  pub minus_times-begins : (a b c : ℕ) (q : Option Number) (ts : List Placed) → Begins (placed a (token.Sign sign.Minus) ∷ placed b (token.Number q) ∷ placed c (token.Sign sign.Times) ∷ ts)
  unfolding item
  minus_times-begins a b c q ts = refl

  pub number-begins : (a b : ℕ) (q : Option Number) (o : Op) (ts : List Placed) → Begins (placed a (token.Number q) ∷ placed b (token.Sign (sign.Relation o false)) ∷ ts)
  unfolding item
  number-begins a b q o ts = refl

  pub minus_number-begins : (a b c : ℕ) (q : Option Number) (o : Op) (ts : List Placed) → Begins (placed a (token.Sign sign.Minus) ∷ placed b (token.Number q) ∷ placed c (token.Sign (sign.Relation o false)) ∷ ts)
  unfolding item
  minus_number-begins a b c q o ts = refl
