-- The sum of a linear item's variables and its constant is read back.
use Rattle.std.proofs.Common.{◌≡◌, ℕ, zero, suc, ◌+◌, ◌-◌, ◌<◌, ◌≤◌, ◌^◌, Bool, true, false, nat_lt, List, [], ◌∷◌, ◌++◌, length, codes, decimal, Option, None, Some, Ok, ℤ, pos, negsuc, refl, sym, ap, subst, ◌∙◌, arith, append_assoc, length-append}
use Rattle.std.specs.Fmt.{signed_decimal}
use Rattle.std.specs.List.{list_all}
use Rattle.std.specs.Ordering.{int_eq}
use Rattle.std.proofs.lemmas.Bool.{and_parts}
use Rattle.scasp_list.specs.Each.{Each}
use Rattle.scasp_num.specs.declared.linear.Coeff.{Coeff}
use Rattle.scasp_num.specs.declared.linear.RatPair.{RatPair}
use Rattle.scasp_num.specs.Number.{InRange}
use Rattle.scasp_num.specs.Linear.{Linear, coefficient}
use Rattle.scasp_syntax.specs.WellFormed.{ascends}
use Rattle.scasp_reader_tokens.specs.declared.sign.Sign.TheVariants as sign
use Rattle.scasp_reader_tokens.specs.declared.token.Token.{Token}
use Rattle.scasp_reader_tokens.specs.declared.token.Token.TheVariants as token
use Rattle.scasp_reader_tokens.specs.Tokens.{placed, tokens_behind}
use Rattle.scasp_reader_terms.specs.Steps.{State, Read, token_of, is_sign}
use Rattle.scasp_reader_terms.specs.Terms.{below}
use Rattle.scasp_reader_expressions.specs.declared.sums.Operation.TheVariants as operation
use Rattle.scasp_reader_expressions.specs.declared.values.Value.{Value}
use Rattle.scasp_reader_expressions.specs.Values.{value_of}
use Rattle.scasp_reader_expressions.specs.Expressions.{repeated, factor_operation, product_operation, product, expression}
use Rattle.scasp_reader_expressions.proofs.ChainLemmas.{repeated_none, expression_on}
use Rattle.scasp_print_program.specs.Terms.{Style, variable_text}
use Rattle.scasp_print_program.specs.Items.{summand_text, summands_text, constant_part}
use Rattle.scasp_law_program_text.specs.Readback.Endings.{ends_name, ends_number}
use Rattle.scasp_law_program_text.proofs.ReadbackLemmas.SignReading.{plus_read}
use Rattle.scasp_law_program_text.specs.TermReadback.Reading.{before, behind_term}
use Rattle.scasp_law_program_text.specs.CompoundReadback.Styles.{IsStyle}
use Rattle.scasp_law_program_text.specs.CompoundReadback.Counting.{count_variable}
use Rattle.scasp_law_program_text.specs.CompoundReadback.Reading.{had, Reads}
use Rattle.scasp_law_program_text.proofs.CompoundReadbackLemmas.Tables.{variable-is}
use Rattle.scasp_law_program_text.proofs.CompoundReadbackLemmas.Terms.{bind-parts}
use Rattle.scasp_law_program_text.proofs.CompoundReadbackLemmas.Tokens.{Has, has-append, has-fewer, has-none, has-token}
use Rattle.scasp_law_program_text.specs.LinearReadback.Counting.{count_variables}
use Rattle.scasp_law_program_text.specs.LinearReadback.Ending.{EndsExpression}
use Rattle.scasp_law_program_text.proofs.LinearReadbackLemmas.WholeNumbers.{integer}
use Rattle.scasp_law_program_text.proofs.LinearReadbackLemmas.Rows.{coefficient-fits, pairs_of}
use Rattle.scasp_law_program_text.proofs.LinearReadbackLemmas.Values.{whole_sum, number_value, product_value, listed_value, negated-product, negated-number, plus-constant, minus-constant}
use Rattle.scasp_law_program_text.proofs.LinearReadbackLemmas.Steps.{number-factor, factor-product, sign-step, minus-taken, none-taken}
use Rattle.scasp_law_program_text.proofs.LinearReadbackLemmas.Texts.{size_text, other-integer, factor-neg, plus-pos, number-tokens, minus-tokens, number-begins, by-product, product-begins, product-has}
use Rattle.scasp_law_program_text.proofs.LinearReadbackLemmas.Products.{EndsFactor, Left, product-read, later-ends, all-later, all-have}

-- ---- the constant

-- what is written of a constant behind variables
abbrev pub behind_text : ℤ → List ℕ
behind_text (pos zero) = []
behind_text (pos (suc n)) = 43 ∷ decimal (suc n)
behind_text (negsuc n) = 45 ∷ decimal (suc n)

pub behind-is : (x : ℕ) (xs : List ℕ) (c : ℤ) → constant_part (x ∷ xs) c ≡ behind_text c
behind-is x xs (pos zero) = refl
behind-is x xs (pos (suc n)) =
    let other : int_eq (pos (suc n)) (pos 0) ≡ false = other-integer (pos (suc n)) (pos 0) (λ e. cc) in
    rw other (ap (λ p. p ++ decimal (suc n)) (plus-pos (suc n)))
behind-is x xs (negsuc n) = refl

-- behind it stands an expression's end
factor-end : (rest : List ℕ) → EndsExpression rest → EndsFactor rest
factor-end rest end = record { variable = end.variable; no_factor = end.no_factor }

pub behind-front : (P : Option Token → Type 0) → P (Some (token.Sign sign.Plus)) → P (Some (token.Sign sign.Minus)) → (c : ℤ) → InRange c → (rest : List ℕ)
    → ((at : ℕ) → P (token_of (tokens_behind 0 at rest))) → (at : ℕ) → P (token_of (tokens_behind 0 at (behind_text c ++ rest)))
behind-front P plus minus (pos zero) h rest f at = f at
behind-front P plus minus (pos (suc n)) h rest f at = subst (λ ts. P (token_of ts)) (sym (plus_read (decimal (suc n) ++ rest) at)) plus
behind-front P plus minus (negsuc n) h rest f at = subst (λ ts. P (token_of ts)) (sym (minus-tokens (decimal (suc n) ++ rest) at (number-begins (suc n) rest h))) minus

pub behind-ends : (c : ℤ) → InRange c → (rest : List ℕ) → EndsExpression rest → EndsFactor (behind_text c ++ rest)
behind-ends c h rest end = record { variable = name c; no_factor = behind-front (λ t. factor_operation t ≡ None) refl refl c h rest end.no_factor }
  where
    name : (c : ℤ) → ends_name (behind_text c ++ rest) ≡ true
    name (pos zero) = end.variable
    name (pos (suc n)) = refl
    name (negsuc n) = refl

number-has : (n : ℕ) (rest : List ℕ) → n < 2 ^ 127 → ends_number rest ≡ true → Has 1 (decimal n) rest
number-has n rest h end = has-token (λ at. placed at (token.Number (Some (integer (pos n))))) (decimal n) rest (λ at. number-tokens n rest at h end)

minus-has : (bytes : List ℕ) → (at : ℕ) → tokens_behind 0 at (45 ∷ bytes) ≡ placed at (token.Sign sign.Minus) ∷ tokens_behind 0 (at + 1) bytes → 1 + length (tokens_behind 0 (at + 1) bytes) ≤ length (tokens_behind 0 at (45 ∷ bytes))
minus-has bytes at e = omega (arith, ap length e)

pub signed-has : (c : ℤ) (rest : List ℕ) → InRange c → ends_number rest ≡ true → Has 1 (signed_decimal c) rest
signed-has (pos n) rest h end = number-has n rest h end
signed-has (negsuc n) rest h end =
    has-fewer 1 2 (codes "-" ++ decimal (suc n)) rest (omega arith)
    (has-append 1 1 (codes "-") (decimal (suc n)) rest (λ at. minus-has (decimal (suc n) ++ rest) at (minus-tokens (decimal (suc n) ++ rest) at (number-begins (suc n) rest h))) (number-has (suc n) rest h end))

pub behind-has : (c : ℤ) (rest : List ℕ) → InRange c → ends_number rest ≡ true → Has 0 (behind_text c) rest
behind-has (pos zero) rest h end = has-none rest
behind-has (pos (suc n)) rest h end =
    has-fewer 0 2 (codes "+" ++ decimal (suc n)) rest (omega arith)
    (has-append 1 1 (codes "+") (decimal (suc n)) rest (has-token (λ at. placed at (token.Sign sign.Plus)) (codes "+") (decimal (suc n) ++ rest) (plus_read (decimal (suc n) ++ rest))) (number-has (suc n) rest h end))
behind-has (negsuc n) rest h end = has-fewer 0 1 (45 ∷ decimal (suc n)) rest (omega arith) (signed-has (negsuc n) rest h end)

module _ (inner : Option (Read Value)) (s : State) (rest : List ℕ) (end : EndsExpression rest) where
  number-product : (n at : ℕ) → n < 2 ^ 127 → product inner (before s at (decimal n ++ rest)) ≡ Ok (number_value (pos n), behind_term s (at + length (decimal n)) rest)
  number-product n at h =
      let us = tokens_behind 0 (at + length (decimal n)) rest in
      ap (λ ts. product inner (record s { tokens = ts })) (number-tokens n rest at h end.number)
      ∙ factor-product inner (record s { tokens = placed at (token.Number (Some (integer (pos n)))) ∷ us }) (behind_term s (at + length (decimal n)) rest) (number_value (pos n)) (number-factor inner s us at (integer (pos n))) (end.no_factor (at + length (decimal n)))

module _ (inner : Option (Read Value)) (s : State) (rest : List ℕ) (end : EndsExpression rest) (ps : List RatPair) (xs : List ℕ) (k at : ℕ) where
  abbrev value : ℤ → Value
  value c = value_of xs (Some (whole_sum c ps))

  ends-here : (c : ℤ) (a : ℕ) (j : ℕ) → repeated product_operation (product inner) j (value c) (behind_term s a rest) ≡ Ok (value c, behind_term s a rest)
  ends-here c a j = repeated_none product_operation (product inner) j (value c) (behind_term s a rest) (end.no_product a)

  -- the constant is read, up to the end of the expression
  pub constant-read : (c : ℤ) → InRange c → Left k at (behind_text c ++ rest)
      → repeated product_operation (product inner) k (value (pos 0)) (behind_term s at (behind_text c ++ rest)) ≡ Ok (value c, behind_term s (at + length (behind_text c)) rest)
  constant-read (pos zero) h fuel = let place : at ≡ at + 0 = omega arith in ends-here (pos 0) at k ∙ ap (λ a. Ok (value (pos 0), behind_term s a rest)) place
  constant-read (pos (suc n)) h fuel =
      let bytes = decimal (suc n) ++ rest in
      let tokens = plus_read bytes at in
      let some : 0 < k = omega (arith, fuel, ap length tokens) in
      let e = at + 1 + length (decimal (suc n)) in
      let place : e ≡ at + length (43 ∷ decimal (suc n)) = omega arith in
      ap (λ ts. repeated product_operation (product inner) k (value (pos 0)) (record (behind_term s at (43 ∷ bytes)) { tokens = ts })) tokens
      ∙ sign-step inner (record s { is_behind_operand = true }) (behind_term s e rest) (tokens_behind 0 (at + 1) bytes) at k sign.Plus operation.Plus (value (pos 0)) (number_value (pos (suc n))) (value (pos (suc n))) refl some
      (number-product inner (record s { is_behind_operand = false }) rest end (suc n) (at + 1) h)
      (plus-constant ps xs at (behind_term s e rest) (suc n) h)
      ∙ ends-here (pos (suc n)) e (k - 1)
      ∙ ap (λ a. Ok (value (pos (suc n)), behind_term s a rest)) place
  constant-read (negsuc n) h fuel =
      let bytes = decimal (suc n) ++ rest in
      let tokens = minus-tokens bytes at (number-begins (suc n) rest h) in
      let some : 0 < k = omega (arith, fuel, ap length tokens) in
      let e = at + 1 + length (decimal (suc n)) in
      let place : e ≡ at + length (45 ∷ decimal (suc n)) = omega arith in
      ap (λ ts. repeated product_operation (product inner) k (value (pos 0)) (record (behind_term s at (45 ∷ bytes)) { tokens = ts })) tokens
      ∙ sign-step inner (record s { is_behind_operand = true }) (behind_term s e rest) (tokens_behind 0 (at + 1) bytes) at k sign.Minus operation.Minus (value (pos 0)) (number_value (pos (suc n))) (value (negsuc n)) refl some
      (number-product inner (record s { is_behind_operand = false }) rest end (suc n) (at + 1) h)
      (minus-constant ps xs at (behind_term s e rest) n h)
      ∙ ends-here (negsuc n) e (k - 1)
      ∙ ap (λ a. Ok (value (negsuc n), behind_term s a rest)) place

-- ---- a constant alone

module _ (room : ℕ) (s : State) (rest : List ℕ) (end : EndsExpression rest) where
  no-minus : (n at : ℕ) → n < 2 ^ 127 → is_sign sign.Minus (token_of (tokens_behind 0 at (decimal n ++ rest))) ≡ false
  no-minus n at h = ap (λ ts. is_sign sign.Minus (token_of ts)) (number-tokens n rest at h end.number)

  -- a number that is a whole expression
  pub alone-read : (c : ℤ) (at : ℕ) → InRange c → expression room (before s at (signed_decimal c ++ rest)) ≡ Ok (number_value c, behind_term s (at + length (signed_decimal c)) rest)
  alone-read (pos n) at h =
      let t = before s at (decimal n ++ rest) in
      let e = at + length (decimal n) in
      expression_on room t t false (none-taken t (no-minus n at h)) (number_value (pos n)) (behind_term s e rest) (number-product (below expression room) s rest end n at h)
      ∙ repeated_none product_operation (product (below expression room)) (length (tokens_behind 0 e rest)) (number_value (pos n)) (behind_term s e rest) (end.no_product e)
  alone-read (negsuc n) at h =
      let bytes = decimal (suc n) ++ rest in
      let us = tokens_behind 0 (at + 1) bytes in
      let t : State = record s { tokens = placed at (token.Sign sign.Minus) ∷ us } in
      let inside : State = record s { is_behind_operand = false } in
      let e = at + 1 + length (decimal (suc n)) in
      let place : e ≡ at + length (45 ∷ decimal (suc n)) = omega arith in
      ap (λ ts. expression room (record s { tokens = ts })) (minus-tokens bytes at (number-begins (suc n) rest h))
      ∙ expression_on room t (before inside (at + 1) bytes) true (minus-taken s us at) (number_value (pos (suc n))) (behind_term s e rest) (number-product (below expression room) inside rest end (suc n) (at + 1) h)
      ∙ repeated_none product_operation (product (below expression room)) (length (tokens_behind 0 e rest)) (value_of [] (Some _)) (behind_term s e rest) (end.no_product e)
      ∙ ap (λ a. Ok (value_of [] (Some a), behind_term s e rest)) (negated-number (pos (suc n)))
      ∙ ap (λ a. Ok (number_value (negsuc n), behind_term s a rest)) place

-- ---- the first summand

-- what is written of the first summand, by its coefficient
abbrev pub first_text : Style → ℕ → ℤ → List ℕ
first_text w x (pos k) = size_text k ++ variable_text w x
first_text w x (negsuc k) = 45 ∷ (size_text (suc k) ++ variable_text w x)

pub first-is : (w : Style) (x : ℕ) (z : ℤ) → summand_text w true x z ≡ first_text w x z
first-is w x (pos k) = refl
first-is w x (negsuc k) = ap (λ f. f ++ variable_text w x) (factor-neg k)

module _ (w : Style) (style : IsStyle w) (ks : List Coeff) (x : ℕ) (h : nat_lt x (length w.variables) ≡ true) where
  pub first-has : (z : ℤ) (rest : List ℕ) → InRange z → ends_name rest ≡ true → Has 1 (first_text w x z) rest
  first-has (pos k) rest small end = product-has (variable_text w x) rest (variable-is w style x h) end k small
  first-has (negsuc k) rest small end =
      let body = size_text (suc k) ++ variable_text w x in
      has-fewer 1 2 (codes "-" ++ body) rest (omega arith)
      (has-append 1 1 (codes "-") body rest
      (λ at. minus-has (body ++ rest) at (minus-tokens (body ++ rest) at (product-begins (variable_text w x) rest (suc k) (variable-is w style x h) small)))
      (product-has (variable_text w x) rest (variable-is w style x h) end (suc k) small))

  module _ (room n m : ℕ) (c : count_variable w n x ≡ Some m) (s : State) (rest : List ℕ) (end : EndsFactor rest) (at : ℕ) where
    -- the reader goes on behind the first summand
    abbrev GoesOn : ℤ → Type 0
    GoesOn z =
        expression room (before (had w n s) at (first_text w x z ++ rest))
        ≡ repeated product_operation (product (below expression room)) (length (tokens_behind 0 (at + length (first_text w x z)) rest)) (listed_value ks (x ∷ []) (pos 0)) (behind_term (had w m s) (at + length (first_text w x z)) rest)

    pub first-read : (z : ℤ) → coefficient x ks ≡ z → InRange z → GoesOn z
    first-read (pos k) is small =
        let t = before (had w n s) at ((size_text k ++ variable_text w x) ++ rest) in
        let e = at + length (size_text k ++ variable_text w x) in
        let none = by-product (variable_text w x) rest (variable-is w style x h) end.variable k at small (λ ts. is_sign sign.Minus (token_of ts) ≡ false) (λ a. refl) (λ q b ts. refl) in
        expression_on room t t false (none-taken t none) (product_value (pos k) x) (behind_term (had w m s) e rest) (product-read w style (below expression room) x h n m c s rest end k small at)
        ∙ ap (λ z. repeated product_operation (product (below expression room)) (length (tokens_behind 0 e rest)) (product_value z x) (behind_term (had w m s) e rest)) (sym is)
    first-read (negsuc k) is small =
        let body = size_text (suc k) ++ variable_text w x in
        let us = tokens_behind 0 (at + 1) (body ++ rest) in
        let t : State = record (had w n s) { tokens = placed at (token.Sign sign.Minus) ∷ us } in
        let inside : State = record s { is_behind_operand = false } in
        let e = at + 1 + length body in
        let place : e ≡ at + length (45 ∷ body) = omega arith in
        let j = product (below expression room) in
        ap (λ ts. expression room (record (had w n s) { tokens = ts })) (minus-tokens (body ++ rest) at (product-begins (variable_text w x) rest (suc k) (variable-is w style x h) small))
        ∙ expression_on room t (before (had w n inside) (at + 1) (body ++ rest)) true (minus-taken (had w n s) us at) (product_value (pos (suc k)) x) (behind_term (had w m s) e rest)
        (product-read w style (below expression room) x h n m c inside rest end (suc k) small (at + 1))
        ∙ ap (λ a. repeated product_operation j (length (tokens_behind 0 e rest)) (value_of (x ∷ []) (Some a)) (behind_term (had w m s) e rest)) (negated-product (pos (suc k)) x)
        ∙ ap (λ z. repeated product_operation j (length (tokens_behind 0 e rest)) (product_value z x) (behind_term (had w m s) e rest)) (sym is)
        ∙ ap (λ a. repeated product_operation j (length (tokens_behind 0 a rest)) (listed_value ks (x ∷ []) (pos 0)) (behind_term (had w m s) a rest)) place

-- ---- the whole sum

abbrev pub side_text : Style → Linear → List ℕ → List ℕ
side_text w r xs = summands_text w r true xs ++ constant_part xs r.constant

module _ (w : Style) (style : IsStyle w) (r : Linear) (fit : Each (λ (k : Coeff). InRange k.c) r.coeffs) (range : InRange r.constant) where
  abbrev are-there : List ℕ → Bool
  are-there xs = list_all (λ x. nat_lt x (length w.variables)) xs

  side-is : (x : ℕ) (xs : List ℕ) → side_text w r (x ∷ xs) ≡ (first_text w x (coefficient x r.coeffs) ++ summands_text w r false xs) ++ behind_text r.constant
  side-is x xs = λ i. (first-is w x (coefficient x r.coeffs) i ++ summands_text w r false xs) ++ behind-is x xs r.constant i

  -- the bytes of a sum that has variables, up to those behind it
  pub regroup : (x : ℕ) (xs rest : List ℕ) → side_text w r (x ∷ xs) ++ rest ≡ first_text w x (coefficient x r.coeffs) ++ (summands_text w r false xs ++ (behind_text r.constant ++ rest))
  regroup x xs rest =
      let first = first_text w x (coefficient x r.coeffs) in
      let others = summands_text w r false xs in
      let last = behind_text r.constant in
      ap (λ text. text ++ rest) (side-is x xs)
      ∙ append_assoc (first ++ others) last rest ∙ append_assoc first others (last ++ rest)

  pub side-length : (x : ℕ) (xs : List ℕ) → length (side_text w r (x ∷ xs)) ≡ length (first_text w x (coefficient x r.coeffs)) + length (summands_text w r false xs) + length (behind_text r.constant)
  side-length x xs =
      let first = first_text w x (coefficient x r.coeffs) in
      let others = summands_text w r false xs in
      let last = behind_text r.constant in
      ap length (side-is x xs)
      ∙ length-append (first ++ others) last ∙ ap (λ k. k + length last) (length-append first others)

  pub side-read : (xs : List ℕ) (room n m : ℕ) → are-there xs ≡ true → count_variables w n xs ≡ Some m → ascends xs ≡ true → (s : State) (rest : List ℕ) → EndsExpression rest
      → Reads w n m (expression room) (side_text w r xs) (listed_value r.coeffs xs r.constant) s rest
  side-read [] room n m h c a s rest end at =
      let same : n ≡ m = cc in
      alone-read room (had w n s) rest end r.constant at range
      ∙ ap (λ n. Ok (number_value r.constant, behind_term (had w n s) (at + length (signed_decimal r.constant)) rest)) same
  side-read (x ∷ xs) room n m h c a s rest end at =
      let z = coefficient x r.coeffs in
      let first = first_text w x z in
      let others = summands_text w r false xs in
      let last = behind_text r.constant in
      let p = and_parts (nat_lt x (length w.variables)) (are-there xs) h in
      let parts = bind-parts (count_variable w n x) (λ m. count_variables w m xs) m c in
      let ends = behind-ends r.constant range rest end in
      let one = first-read w style r.coeffs x p.0 room n parts.0 parts.1 s (others ++ (last ++ rest)) (later-ends w style (below expression room) r fit xs (last ++ rest) p.1 ends) at z refl (coefficient-fits r.coeffs x fit) in
      let two =
      all-later w style (below expression room) r fit xs (x ∷ []) parts.0 m p.1 parts.2 a s (last ++ rest) ends (length (tokens_behind 0 (at + length first) (others ++ (last ++ rest)))) (at + length first) (omega arith) in
      let place : at + length first + length others + length last ≡ at + length (side_text w r (x ∷ xs)) = omega (arith, side-length x xs) in
      ap (λ bytes. expression room (before (had w n s) at bytes)) (regroup x xs rest)
      ∙ one ∙ two.same
      ∙ constant-read (below expression room) (had w m s) rest end (pairs_of r.coeffs (x ∷ xs)) (x ∷ xs) two.left (at + length first + length others) r.constant range two.enough
      ∙ ap (λ a. Ok (listed_value r.coeffs (x ∷ xs) r.constant, behind_term (had w m s) a rest)) place

  -- it has a token at least
  pub side-has : (xs rest : List ℕ) → are-there xs ≡ true → EndsExpression rest → Has 1 (side_text w r xs) rest
  side-has [] rest h end = signed-has r.constant rest range end.number
  side-has (x ∷ xs) rest h end =
      let z = coefficient x r.coeffs in
      let first = first_text w x z in
      let others = summands_text w r false xs in
      let last = behind_text r.constant in
      let p = and_parts (nat_lt x (length w.variables)) (are-there xs) h in
      let more = behind-ends r.constant range rest end in
      let ends = later-ends w style None r fit xs (last ++ rest) p.1 more in
      subst (λ text. Has 1 text rest) (sym (side-is x xs))
      (has-append 1 0 (first ++ others) last rest
      (has-append 1 0 first others (last ++ rest) (first-has w style r.coeffs x p.0 z (others ++ (last ++ rest)) (coefficient-fits r.coeffs x fit) ends.variable) (all-have w style None r fit xs (last ++ rest) p.1 more))
      (behind-has r.constant rest range end.number))
