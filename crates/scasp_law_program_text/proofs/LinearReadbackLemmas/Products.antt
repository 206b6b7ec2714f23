-- Variables with their coefficients are read back, one behind the other.
use Rattle.std.proofs.Common.{◌≡◌, ℕ, suc, ◌+◌, ◌-◌, ◌<◌, ◌≤◌, ◌^◌, Bool, true, false, not, ◌==◌, nat_lt, List, [], ◌∷◌, ◌++◌, length, take, codes, decimal, Option, None, Some, Ok, ℤ, pos, negsuc, refl, sym, ap, subst, ◌∙◌, arith, append_assoc, append-nil, length-append}
use Rattle.std.specs.Prelude.{if◌then◌else◌, nat_le}
use Rattle.std.specs.List.{list_all}
use Rattle.std.specs.Ordering.{int_eq}
use Rattle.std.proofs.lemmas.Bool.{and_parts, false≢true}
use Rattle.std.proofs.lemmas.Bool.Decides.{nat_tests}
use borrow.Author.Tests.{eqb-true}
use Rattle.scasp_list.specs.Each.{Each}
use Rattle.scasp_num.specs.declared.linear.Coeff.{Coeff}
use Rattle.scasp_num.specs.Number.{InRange}
use Rattle.scasp_num.specs.Linear.{Linear, coefficient}
use Rattle.scasp_syntax.specs.WellFormed.{ascends}
use Rattle.scasp_reader_tokens.specs.declared.sign.Sign.TheVariants as sign
use Rattle.scasp_reader_tokens.specs.declared.token.Token.{Token}
use Rattle.scasp_reader_tokens.specs.declared.token.Token.TheVariants as token
use Rattle.scasp_reader_tokens.specs.Tokens.{placed, tokens_behind}
use Rattle.scasp_reader_terms.specs.declared.reader.TheConstants.{VARIABLE_LIMIT}
use Rattle.scasp_reader_terms.specs.Steps.{State, Read, token_of}
use Rattle.scasp_reader_terms.specs.Names.{new_variable, variable_at}
use Rattle.scasp_reader_terms.proofs.VariableLemmas.{few-numbered}
use Rattle.scasp_reader_expressions.specs.declared.sums.Operation.TheVariants as operation
use Rattle.scasp_reader_expressions.specs.declared.values.Value.{Value}
use Rattle.scasp_reader_expressions.specs.Expressions.{variable_value, repeated, factor_operation, product_operation, product}
use Rattle.scasp_print_program.specs.Terms.{Style, variable_text}
use Rattle.scasp_print_program.specs.Items.{summand_text, summands_text}
use Rattle.scasp_law_program_text.specs.Readback.Endings.{ends_name}
use Rattle.scasp_law_program_text.proofs.ReadbackLemmas.SignReading.{plus_read}
use Rattle.scasp_law_program_text.proofs.ReadbackLemmas.VariableReading.{variable-read}
use Rattle.scasp_law_program_text.specs.TermReadback.Reading.{before, behind_term}
use Rattle.scasp_law_program_text.specs.CompoundReadback.Styles.{is_anonymous, IsStyle}
use Rattle.scasp_law_program_text.specs.CompoundReadback.Counting.{is_known, is_next, count_variable}
use Rattle.scasp_law_program_text.specs.CompoundReadback.Reading.{had, Reads}
use Rattle.scasp_law_program_text.proofs.CompoundReadbackLemmas.Tables.{variable-is, variable-known, variable-new, variables-had, variables-more}
use Rattle.scasp_law_program_text.proofs.CompoundReadbackLemmas.Terms.{bind-parts}
use Rattle.scasp_law_program_text.proofs.CompoundReadbackLemmas.Tokens.{Has, has-append, has-fewer, has-none, has-token}
use Rattle.scasp_law_program_text.specs.LinearReadback.Counting.{count_variables}
use Rattle.scasp_law_program_text.proofs.LinearReadbackLemmas.WholeNumbers.{integer}
use Rattle.scasp_law_program_text.proofs.LinearReadbackLemmas.Rows.{coefficient-fits, below-front}
use Rattle.scasp_law_program_text.proofs.LinearReadbackLemmas.Values.{number_value, product_value, listed_value, variable-value, times-value, plus-value, minus-value}
use Rattle.scasp_law_program_text.proofs.LinearReadbackLemmas.Steps.{number-factor, variable-factor, factor-product, times-product, sign-step}
use Rattle.scasp_law_program_text.proofs.LinearReadbackLemmas.Texts.{size_text, factor-neg, plus-pos, is-one, begins_operand, minus-tokens, long-tokens, product-begins, product-has}

-- behind a factor: no byte that goes on with a variable, and no `*` or `/` as the next token
pub record EndsFactor (rest : List ℕ) : Type 0 where
  pub variable : ends_name rest ≡ true
  pub no_factor : (at : ℕ) → factor_operation (token_of (tokens_behind 0 at rest)) ≡ None

-- ---- a variable

module _ (w : Style) (style : IsStyle w) (x : ℕ) (h : nat_lt x (length w.variables) ≡ true) (s : State) (at : ℕ) where
  -- it is found, or is the next one
  abbrev Found : ℕ → ℕ → Type 0
  Found n m = variable_at at (variable_text w x) (had w n s) ≡ Ok (x, had w m s)

  known : (n : ℕ) → is_known w n x ≡ true → Found n n
  known n k =
      let p = and_parts (nat_lt x n) (not (is_anonymous (variable_text w x))) k in
      let below : x < n = grind (arith, nat_tests, p) in
      ap (λ o. elim o [ None ↦ new_variable at (variable_text w x) (had w n s) | Some y ↦ Ok (y, had w n s) ]) (variable-known w style x h n below (named p.1))
    where
      named : not (is_anonymous (variable_text w x)) ≡ true → is_anonymous (variable_text w x) ≡ false
      named e = by (is_anonymous (variable_text w x)) e
        where
          by : (b : Bool) → not b ≡ true → b ≡ false
          by true e = absurd (false≢true e)
          by false e = refl

  next : nat_lt x VARIABLE_LIMIT ≡ true → Found x (x + 1)
  next k =
      let text = variable_text w x in
      let ts = take x w.variables in
      let had-x : length ts ≡ x = variables-had w style x h in
      let room : nat_le VARIABLE_LIMIT (length ts) ≡ false = subst (λ n. nat_le VARIABLE_LIMIT n ≡ false) (sym had-x) (below k) in
      ap (λ o. elim o [ None ↦ new_variable at text (had w x s) | Some y ↦ Ok (y, had w x s) ]) (variable-new w style x h)
      ∙ new text (had w x s) room
      ∙ ap (λ n. Ok (n, record (had w x s) { variables = ts ++ text ∷ [] })) had-x
      ∙ ap (λ vs. Ok (x, record (had w x s) { variables = vs })) (variables-more w style x h)
    where
      below : nat_lt x VARIABLE_LIMIT ≡ true → nat_le VARIABLE_LIMIT x ≡ false
      below e = grind (arith, nat_tests)

      new : (text : List ℕ) (t : State) → nat_le VARIABLE_LIMIT (length t.variables) ≡ false → new_variable at text t ≡ Ok (length t.variables, record t { variables = t.variables ++ text ∷ [] })
      new text t e = rw (e, few-numbered _ e) refl

  pub variable-found : (n m : ℕ) → count_variable w n x ≡ Some m → Found n m
  variable-found n m e = by (is_known w n x) refl e
    where
      second : (b : Bool) → is_next n x ≡ b → (if b then Some (n + 1) else None) ≡ Some m → Found n m
      second true k e =
          let more : n + 1 ≡ m = cc in
          let p = and_parts (x == n) (nat_lt n VARIABLE_LIMIT) k in
          let same : x ≡ n = eqb-true x n p.0 in
          subst (λ m. Found n m) more (subst (λ n. Found n (n + 1)) same (next (ap (λ y. nat_lt y VARIABLE_LIMIT) same ∙ p.1)))
      second false k e = cc

      by : (b : Bool) → is_known w n x ≡ b → (if b then Some n else (if is_next n x then Some (n + 1) else None)) ≡ Some m → Found n m
      by true k e = let same : n ≡ m = cc in subst (λ m. Found n m) same (known n k)
      by false k e = second (is_next n x) refl e

-- ---- a number times a variable

module _ (w : Style) (style : IsStyle w) (inner : Option (Read Value)) (x : ℕ) (h : nat_lt x (length w.variables) ≡ true) (n m : ℕ) (c : count_variable w n x ≡ Some m) where
  abbrev text : List ℕ
  text = variable_text w x

  one-read : (s : State) (rest : List ℕ) → EndsFactor rest → Reads w n m (product inner) text (product_value (pos 1) x) s rest
  one-read s rest end at =
      let ts = tokens_behind 0 (at + length text) rest in
      ap (λ ts. product inner (record (had w n s) { tokens = ts })) (variable-read text rest at (variable-is w style x h) end.variable)
      ∙ factor-product inner (record (had w n s) { tokens = placed at (token.Variable text) ∷ ts }) (behind_term (had w m s) (at + length text) rest) (variable_value true x)
      (variable-factor inner (had w n s) (behind_term (had w m s) (at + length text) rest) ts at x text refl (variable-found w style x h (record s { tokens = ts; is_behind_operand = true }) at n m c))
      (end.no_factor (at + length text))
      ∙ ap (λ e. Ok (e, behind_term (had w m s) (at + length text) rest)) (variable-value x)

  long-read : (s : State) (rest : List ℕ) → EndsFactor rest → (k : ℕ) → k < 2 ^ 127 → Reads w n m (product inner) ((decimal k ++ codes "*") ++ text) (product_value (pos k) x) s rest
  long-read s rest end k small at =
      let b = at + length (decimal k) in
      let c' = b + 1 in
      let e = c' + length text in
      let us = tokens_behind 0 e rest in
      let vs = placed c' (token.Variable text) ∷ us in
      let inside : State = record (had w n s) { tokens = vs; is_behind_operand = false } in
      let place : e ≡ at + length ((decimal k ++ codes "*") ++ text) = omega (arith, length-append (decimal k ++ codes "*") text, length-append (decimal k) (codes "*")) in
      ap (λ ts. product inner (record (had w n s) { tokens = ts })) (long-tokens text rest (variable-is w style x h) end.variable k at small)
      ∙ times-product inner (record (had w n s) { tokens = placed at (token.Number (Some (integer (pos k)))) ∷ placed b (token.Sign sign.Times) ∷ vs })
      (record (had w n s) { is_behind_operand = true }) (behind_term (had w m s) e rest) vs b (number_value (pos k)) (variable_value true x) (product_value (pos k) x)
      (number-factor inner (had w n s) (placed b (token.Sign sign.Times) ∷ vs) at (integer (pos k)))
      (variable-factor inner (record (had w n s) { is_behind_operand = false }) (behind_term (had w m s) e rest) us c' x text refl (variable-found w style x h (record s { tokens = us; is_behind_operand = true }) c' n m c))
      (times-value k x b (behind_term (had w m s) e rest) small)
      (end.no_factor e)
      ∙ ap (λ p. Ok (product_value (pos k) x, behind_term (had w m s) p rest)) place

  pub product-read : (s : State) (rest : List ℕ) → EndsFactor rest → (k : ℕ) → k < 2 ^ 127 → Reads w n m (product inner) (size_text k ++ text) (product_value (pos k) x) s rest
  product-read s rest end k small = by (int_eq (pos k) (pos 1)) refl
    where
      by : (b : Bool) → int_eq (pos k) (pos 1) ≡ b → Reads w n m (product inner) ((if b then [] else decimal k ++ codes "*") ++ text) (product_value (pos k) x) s rest
      by true e = subst (λ k. Reads w n m (product inner) text (product_value (pos k) x) s rest) (sym (is-one k e)) (one-read s rest end)
      by false e = long-read s rest end k small

-- ---- a later summand

-- what is written of a summand behind others, by its coefficient
abbrev later_text : Style → ℕ → ℤ → List ℕ
later_text w x (pos k) = 43 ∷ (size_text k ++ variable_text w x)
later_text w x (negsuc k) = 45 ∷ (size_text (suc k) ++ variable_text w x)

later-is : (w : Style) (x : ℕ) (z : ℤ) → summand_text w false x z ≡ later_text w x z
later-is w x (pos k) = ap (λ p. (p ++ size_text k) ++ variable_text w x) (plus-pos k)
later-is w x (negsuc k) = ap (λ f. f ++ variable_text w x) (factor-neg k)

-- so many tokens at least that are left
abbrev pub Left : ℕ → ℕ → List ℕ → Type 0
Left k at rest = length (tokens_behind 0 at rest) ≤ k

module _ (w : Style) (style : IsStyle w) (inner : Option (Read Value)) (r : Linear) (fit : Each (λ (k : Coeff). InRange k.c) r.coeffs) where
  -- the value of these variables
  abbrev value : List ℕ → Value
  value xs = listed_value r.coeffs xs (pos 0)

  -- reading goes on behind a text, with the value of more variables
  pub record GoesOn (text : List ℕ) (xs ys : List ℕ) (n m : ℕ) (s : State) (rest : List ℕ) (k at : ℕ) : Type 0 where
    pub left : ℕ
    pub enough : Left left (at + length text) rest
    pub same : repeated product_operation (product inner) k (value xs) (behind_term (had w n s) at (text ++ rest))
        ≡ repeated product_operation (product inner) left (value ys) (behind_term (had w m s) (at + length text) rest)

  module _ (x : ℕ) (h : nat_lt x (length w.variables) ≡ true) (n m : ℕ) (c : count_variable w n x ≡ Some m) (xs : List ℕ) (below : list_all (λ y. nat_lt y x) xs ≡ true) (s : State) (rest : List ℕ) (end : EndsFactor rest) (k at : ℕ) where
    later : (z : ℤ) → coefficient x r.coeffs ≡ z → InRange z → Left k at (later_text w x z ++ rest) → GoesOn (later_text w x z) xs (xs ++ x ∷ []) n m s rest k at
    later (pos j) is small fuel =
        let body = size_text j ++ variable_text w x in
        let tokens : tokens_behind 0 at (43 ∷ (body ++ rest)) ≡ placed at (token.Sign sign.Plus) ∷ tokens_behind 0 (at + 1) (body ++ rest) = plus_read (body ++ rest) at in
        let has = product-has (variable_text w x) rest (variable-is w style x h) end.variable j small (at + 1) in
        let place : at + 1 + length body ≡ at + length (43 ∷ body) = omega arith in
        let some : 0 < k = omega (arith, fuel, ap length tokens) in
        let enough : Left (k - 1) (at + 1 + length body) rest = omega (arith, fuel, ap length tokens, has) in
        record {
          left = k - 1;
          enough = subst (λ a. Left (k - 1) a rest) place enough;
          same =
              ap (λ ts. repeated product_operation (product inner) k (value xs) (record (behind_term (had w n s) at (43 ∷ (body ++ rest))) { tokens = ts })) tokens
              ∙ sign-step inner (record (had w n s) { is_behind_operand = true }) (behind_term (had w m s) (at + 1 + length body) rest) (tokens_behind 0 (at + 1) (body ++ rest)) at k sign.Plus operation.Plus (value xs) (product_value (pos j) x) (value (xs ++ x ∷ [])) refl some
              (product-read w style inner x h n m c (record s { is_behind_operand = false }) rest end j small (at + 1))
              (plus-value r.coeffs xs x at (behind_term (had w m s) (at + 1 + length body) rest) below j is)
              ∙ ap (λ a. repeated product_operation (product inner) (k - 1) (value (xs ++ x ∷ [])) (behind_term (had w m s) a rest)) place;
        }
    later (negsuc j) is small fuel =
        let body = size_text (suc j) ++ variable_text w x in
        let begins = product-begins (variable_text w x) rest (suc j) (variable-is w style x h) small in
        let tokens : tokens_behind 0 at (45 ∷ (body ++ rest)) ≡ placed at (token.Sign sign.Minus) ∷ tokens_behind 0 (at + 1) (body ++ rest) = minus-tokens (body ++ rest) at begins in
        let has = product-has (variable_text w x) rest (variable-is w style x h) end.variable (suc j) small (at + 1) in
        let place : at + 1 + length body ≡ at + length (45 ∷ body) = omega arith in
        let some : 0 < k = omega (arith, fuel, ap length tokens) in
        let enough : Left (k - 1) (at + 1 + length body) rest = omega (arith, fuel, ap length tokens, has) in
        record {
          left = k - 1;
          enough = subst (λ a. Left (k - 1) a rest) place enough;
          same =
              ap (λ ts. repeated product_operation (product inner) k (value xs) (record (behind_term (had w n s) at (45 ∷ (body ++ rest))) { tokens = ts })) tokens
              ∙ sign-step inner (record (had w n s) { is_behind_operand = true }) (behind_term (had w m s) (at + 1 + length body) rest) (tokens_behind 0 (at + 1) (body ++ rest)) at k sign.Minus operation.Minus (value xs) (product_value (pos (suc j)) x) (value (xs ++ x ∷ [])) refl some
              (product-read w style inner x h n m c (record s { is_behind_operand = false }) rest end (suc j) small (at + 1))
              (minus-value r.coeffs xs x at (behind_term (had w m s) (at + 1 + length body) rest) below j is)
              ∙ ap (λ a. repeated product_operation (product inner) (k - 1) (value (xs ++ x ∷ [])) (behind_term (had w m s) a rest)) place;
        }

    -- a later summand is read
    first-later : Left k at (summand_text w false x (coefficient x r.coeffs) ++ rest) → GoesOn (summand_text w false x (coefficient x r.coeffs)) xs (xs ++ x ∷ []) n m s rest k at
    first-later =
        let z = coefficient x r.coeffs in
        subst (λ text. Left k at (text ++ rest) → GoesOn text xs (xs ++ x ∷ []) n m s rest k at) (sym (later-is w x z)) (later z refl (coefficient-fits r.coeffs x fit))

  -- ---- all later summands

  abbrev are-there : List ℕ → Bool
  are-there xs = list_all (λ x. nat_lt x (length w.variables)) xs

  -- what holds of a sign in front, and of the next token behind, holds of the first token
  pub later-front : (P : Option Token → Type 0) → P (Some (token.Sign sign.Plus)) → P (Some (token.Sign sign.Minus)) → (xs rest : List ℕ) → are-there xs ≡ true
      → ((at : ℕ) → P (token_of (tokens_behind 0 at rest))) → (at : ℕ) → P (token_of (tokens_behind 0 at (summands_text w r false xs ++ rest)))
  later-front P plus minus [] rest h f at = f at
  later-front P plus minus (x ∷ xs) rest h f at =
      let p = and_parts (nat_lt x (length w.variables)) (are-there xs) h in
      subst (λ text. P (token_of (tokens_behind 0 at ((text ++ summands_text w r false xs) ++ rest)))) (sym (later-is w x (coefficient x r.coeffs)))
      (by (coefficient x r.coeffs) p.0 (coefficient-fits r.coeffs x fit))
    where
      by : (z : ℤ) → nat_lt x (length w.variables) ≡ true → InRange z → P (token_of (tokens_behind 0 at ((later_text w x z ++ summands_text w r false xs) ++ rest)))
      by (pos j) v small = subst (λ ts. P (token_of ts)) (sym (plus_read (((size_text j ++ variable_text w x) ++ summands_text w r false xs) ++ rest) at)) plus
      by (negsuc j) v small =
          let body = size_text (suc j) ++ variable_text w x in
          let more = summands_text w r false xs in
          let begins : begins_operand ((body ++ more) ++ rest) ≡ true =
          subst (λ bytes. begins_operand bytes ≡ true) (sym (append_assoc body more rest)) (product-begins (variable_text w x) (more ++ rest) (suc j) (variable-is w style x v) small) in
          subst (λ ts. P (token_of ts)) (sym (minus-tokens ((body ++ more) ++ rest) at begins)) minus

  -- what is written behind a summand ends it
  pub later-ends : (xs rest : List ℕ) → are-there xs ≡ true → EndsFactor rest → EndsFactor (summands_text w r false xs ++ rest)
  later-ends xs rest h end = record { variable = name xs; no_factor = later-front (λ t. factor_operation t ≡ None) refl refl xs rest h end.no_factor }
    where
      by : (x : ℕ) (z : ℤ) (more : List ℕ) → ends_name (later_text w x z ++ more) ≡ true
      by x (pos j) more = refl
      by x (negsuc j) more = refl

      name : (xs : List ℕ) → ends_name (summands_text w r false xs ++ rest) ≡ true
      name [] = end.variable
      name (x ∷ xs) =
          subst (λ text. ends_name ((text ++ summands_text w r false xs) ++ rest) ≡ true) (sym (later-is w x (coefficient x r.coeffs)))
          (subst (λ bytes. ends_name bytes ≡ true) (sym (append_assoc (later_text w x (coefficient x r.coeffs)) (summands_text w r false xs) rest)) (by x (coefficient x r.coeffs) (summands_text w r false xs ++ rest)))

  pub all-later : (xs before : List ℕ) (n m : ℕ) → are-there xs ≡ true → count_variables w n xs ≡ Some m → ascends (before ++ xs) ≡ true → (s : State) (rest : List ℕ) → EndsFactor rest → (k at : ℕ)
      → Left k at (summands_text w r false xs ++ rest) → GoesOn (summands_text w r false xs) before (before ++ xs) n m s rest k at
  all-later [] before n m h c a s rest end k at fuel =
      let same : n ≡ m = cc in
      let place : at ≡ at + 0 = omega arith in
      record {
        left = k;
        enough = subst (λ a. Left k a rest) place fuel;
        same =
            ap (λ xs. repeated product_operation (product inner) k (value xs) (behind_term (had w n s) at rest)) (sym (append-nil before))
            ∙ ap (λ n. repeated product_operation (product inner) k (value (before ++ [])) (behind_term (had w n s) at rest)) same
            ∙ ap (λ a. repeated product_operation (product inner) k (value (before ++ [])) (behind_term (had w m s) a rest)) place;
      }
  all-later (x ∷ xs) before n m h c a s rest end k at fuel =
      let first = summand_text w false x (coefficient x r.coeffs) in
      let others = summands_text w r false xs in
      let p = and_parts (nat_lt x (length w.variables)) (are-there xs) h in
      let parts = bind-parts (count_variable w n x) (λ m. count_variables w m xs) m c in
      let whole = append_assoc first others rest in
      let front = append_assoc before (x ∷ []) xs in
      let left : Left k at (first ++ (others ++ rest)) = subst (λ bytes. Left k at bytes) whole fuel in
      let one = first-later x p.0 n parts.0 parts.1 before (below-front before x xs a) s (others ++ rest) (later-ends xs rest p.1 end) k at left in
      let two = all-later xs (before ++ x ∷ []) parts.0 m p.1 parts.2 (ap ascends front ∙ a) s rest end one.left (at + length first) one.enough in
      let place : at + length first + length others ≡ at + length (first ++ others) = omega (arith, length-append first others) in
      record {
        left = two.left;
        enough = subst (λ a. Left two.left a rest) place two.enough;
        same =
            ap (λ bytes. repeated product_operation (product inner) k (value before) (behind_term (had w n s) at bytes)) whole
            ∙ one.same ∙ two.same
            ∙ ap (λ xs. repeated product_operation (product inner) two.left (value xs) (behind_term (had w m s) (at + length first + length others) rest)) front
            ∙ ap (λ a. repeated product_operation (product inner) two.left (value (before ++ x ∷ xs)) (behind_term (had w m s) a rest)) place;
      }

  -- ---- tokens

  later-has : (x : ℕ) (z : ℤ) (rest : List ℕ) → nat_lt x (length w.variables) ≡ true → InRange z → ends_name rest ≡ true → Has 1 (later_text w x z) rest
  later-has x (pos j) rest h small end =
      let body = size_text j ++ variable_text w x in
      has-fewer 1 2 (codes "+" ++ body) rest (omega arith)
      (has-append 1 1 (codes "+") body rest (has-token (λ at. placed at (token.Sign sign.Plus)) (codes "+") (body ++ rest) (plus_read (body ++ rest))) (product-has (variable_text w x) rest (variable-is w style x h) end j small))
  later-has x (negsuc j) rest h small end =
      let body = size_text (suc j) ++ variable_text w x in
      has-fewer 1 2 (codes "-" ++ body) rest (omega arith)
      (has-append 1 1 (codes "-") body rest
      (has-token (λ at. placed at (token.Sign sign.Minus)) (codes "-") (body ++ rest) (λ at. minus-tokens (body ++ rest) at (product-begins (variable_text w x) rest (suc j) (variable-is w style x h) small)))
      (product-has (variable_text w x) rest (variable-is w style x h) end (suc j) small))

  pub all-have : (xs rest : List ℕ) → are-there xs ≡ true → EndsFactor rest → Has 0 (summands_text w r false xs) rest
  all-have [] rest h end = has-none rest
  all-have (x ∷ xs) rest h end =
      let p = and_parts (nat_lt x (length w.variables)) (are-there xs) h in
      let z = coefficient x r.coeffs in
      let others = summands_text w r false xs in
      has-fewer 0 1 (summand_text w false x z ++ others) rest (omega arith)
      (has-append 1 0 (summand_text w false x z) others rest
      (subst (λ text. Has 1 text (others ++ rest)) (sym (later-is w x z)) (later-has x z (others ++ rest) p.0 (coefficient-fits r.coeffs x fit) (later-ends xs rest p.1 end).variable))
      (all-have xs rest p.1 end))
