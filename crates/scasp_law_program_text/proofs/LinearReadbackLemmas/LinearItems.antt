-- Linear items are read back.
use Rattle.std.proofs.Common.{◌≡◌, ℕ, suc, ◌+◌, ◌<◌, ◌≤◌, true, false, ◌&&◌, nat_lt, List, [], ◌∷◌, ◌++◌, length, codes, decimal, None, Some, Ok, ℤ, pos, negsuc, refl, sym, ap, subst, ◌∙◌, arith, append_assoc, length-append}
use Rattle.std.specs.Fmt.{signed_decimal}
use Rattle.std.specs.List.{list_all, list_any}
use Rattle.std.specs.Prelude.{nat_eq}
use Rattle.std.proofs.lemmas.Bool.{and_parts}
use Rattle.std.proofs.lemmas.Fmt.{decimal_digit}
use Rattle.scasp_num.specs.declared.linear.Coeff.{Coeff}
use Rattle.scasp_num.specs.declared.linear.Op.{Op}
use Rattle.scasp_num.specs.Number.{InRange}
use Rattle.scasp_num.specs.Linear.{Linear, IsNormal, is_normal, coefficient}
use Rattle.scasp_num.proofs.NormalTests.{normal-decided}
use Rattle.scasp_num.proofs.Numbers.{ltb_lt}
use Rattle.scasp_syntax.specs.WellFormed.{ascends, lists_variables, is_item_below}
use Rattle.scasp_syntax.specs.declared.clause.Item.TheVariants as form
use Rattle.scasp_syntax.specs.declared.clause.Lin.{Lin}
use Rattle.scasp_reader_tokens.specs.declared.sign.Sign.TheVariants as sign
use Rattle.scasp_reader_tokens.specs.declared.token.Token.TheVariants as token
use Rattle.scasp_reader_tokens.specs.Tokens.{placed, tokens_behind}
use Rattle.scasp_cert.specs.Text.Constraints.{relation_text}
use Rattle.scasp_reader_terms.specs.Steps.{State, token_of}
use Rattle.scasp_reader_expressions.specs.Expressions.{factor_operation, product_operation, expression}
use Rattle.scasp_reader.specs.declared.bodies.atoms.TheConstants.{DEPTH_LIMIT}
use Rattle.scasp_reader.specs.Bodies.Items.{equation_sign, item}
use Rattle.scasp_print_program.specs.Terms.{Style, variable_text}
use Rattle.scasp_print_program.specs.Items.{summands_text, linear_text}
use Rattle.scasp_law_program_text.specs.Readback.Endings.{ends_name}
use Rattle.scasp_law_program_text.proofs.ReadbackLemmas.SignReading.{comma_read, stop_read}
use Rattle.scasp_law_program_text.specs.TermReadback.Reading.{before, behind_term}
use Rattle.scasp_law_program_text.specs.CompoundReadback.Styles.{IsStyle}
use Rattle.scasp_law_program_text.specs.CompoundReadback.Reading.{had, Reads}
use Rattle.scasp_law_program_text.proofs.CompoundReadbackLemmas.Tables.{variable-is}
use Rattle.scasp_law_program_text.proofs.CompoundReadbackLemmas.Tokens.{Has}
use Rattle.scasp_law_program_text.specs.LinearReadback.Counting.{count_variables}
use Rattle.scasp_law_program_text.specs.LinearReadback.Ending.{EndsExpression}
use Rattle.scasp_law_program_text.proofs.LinearReadbackLemmas.WholeNumbers.{integer}
use Rattle.scasp_law_program_text.proofs.LinearReadbackLemmas.Rows.{ListedIn, pairs_of, coefficient-fits}
use Rattle.scasp_law_program_text.proofs.LinearReadbackLemmas.Values.{whole_sum, number_value, listed_value, row-read}
use Rattle.scasp_law_program_text.proofs.LinearReadbackLemmas.Steps.{Begins, comparison-step, variable-begins, times-begins, minus_variable-begins, minus_times-begins, number-begins, minus_number-begins}
use Rattle.scasp_law_program_text.proofs.LinearReadbackLemmas.Texts as texts
use Rattle.scasp_law_program_text.proofs.LinearReadbackLemmas.Texts.{size_text, sign-ends, number-tokens, minus-tokens, by-product, product-begins, relation-tokens}
use Rattle.scasp_law_program_text.proofs.LinearReadbackLemmas.Products.{later-front, later-ends}
use Rattle.scasp_law_program_text.proofs.LinearReadbackLemmas.Sides.{behind_text, behind-front, behind-ends, signed-has, alone-read, first_text, side_text, regroup, side-read, side-has}

-- ---- the relation to 0

-- what is written behind the sum
abbrev relation_part : Op → List ℕ → List ℕ
relation_part o rest = 32 ∷ (relation_text o ++ (32 ∷ 48 ∷ rest))

relation-ends : (o : Op) (rest : List ℕ) → EndsExpression (relation_part o rest)
relation-ends o rest = record {
  number = sign-ends 32 (relation_text o ++ (32 ∷ 48 ∷ rest)) refl refl;
  variable = refl;
  no_factor = λ at. ap (λ ts. factor_operation (token_of ts)) (relation-tokens o (48 ∷ rest) at);
  no_product = λ at. ap (λ ts. product_operation (token_of ts)) (relation-tokens o (48 ∷ rest) at);
}

zero-digit : decimal 0 ≡ 48 ∷ []
zero-digit = let small : 0 < 10 = omega arith in decimal_digit 0 small

zero-read : (s : State) (rest : List ℕ) → EndsExpression rest → (at : ℕ) → expression DEPTH_LIMIT (before s at (48 ∷ rest)) ≡ Ok (number_value (pos 0), behind_term s (at + 1) rest)
zero-read s rest end at =
    subst (λ text. expression DEPTH_LIMIT (before s at (text ++ rest)) ≡ Ok (number_value (pos 0), behind_term s (at + length text) rest)) zero-digit
    (alone-read DEPTH_LIMIT s rest end (pos 0) at (ltb_lt refl))

zero-has : (rest : List ℕ) → EndsExpression rest → (at : ℕ) → 1 + length (tokens_behind 0 (at + 1) rest) ≤ length (tokens_behind 0 at (48 ∷ rest))
zero-has rest end at = subst (λ text. 1 + length (tokens_behind 0 (at + length text) rest) ≤ length (tokens_behind 0 at (text ++ rest))) zero-digit (signed-has (pos 0) rest (ltb_lt refl) end.number at)

-- ---- what an item that fits is

pub record IsLinear (w : Style) (l : Lin) : Type 0 where
  pub ascending : ascends l.vars ≡ true
  pub listed : ListedIn l.vars l.row.coeffs
  pub there : list_all (λ x. nat_lt x (length w.variables)) l.vars ≡ true
  pub normal : IsNormal l.row

pub linear-is : (w : Style) (l : Lin) → is_item_below (length w.variables) (form.Linear l) ≡ true → IsLinear w l
linear-is w l h =
    let there = list_all (λ x. nat_lt x (length w.variables)) l.vars in
    let listed = list_all (λ (k : Coeff). list_any (nat_eq k.x) l.vars) l.row.coeffs in
    let p = and_parts (lists_variables l && there) (is_normal l.row) h in
    let q = and_parts (lists_variables l) there p.0 in
    let r = and_parts (ascends l.vars) listed q.0 in
    record { ascending = r.0; listed = r.1; there = q.1; normal = (normal-decided l.row).0 p.1 }

text-is : (w : Style) (l : Lin) → linear_text w l ≡ ((side_text w l.row l.vars ++ codes " ") ++ relation_text l.row.op) ++ codes " 0"
unfolding linear_text
text-is w l = refl

module _ (w : Style) (style : IsStyle w) (l : Lin) (fit : IsLinear w l) where
  abbrev r : Linear
  r = l.row

  abbrev side : List ℕ
  side = side_text w r l.vars

  regrouped : (rest : List ℕ) → (((side ++ codes " ") ++ relation_text r.op) ++ codes " 0") ++ rest ≡ side ++ relation_part r.op rest
  regrouped rest =
      append_assoc ((side ++ codes " ") ++ relation_text r.op) (codes " 0") rest
      ∙ append_assoc (side ++ codes " ") (relation_text r.op) (32 ∷ 48 ∷ rest) ∙ append_assoc side (codes " ") (relation_text r.op ++ (32 ∷ 48 ∷ rest))

  text-length : length (((side ++ codes " ") ++ relation_text r.op) ++ codes " 0") ≡ length side + 1 + length (relation_text r.op) + 2
  text-length = omega (arith, length-append ((side ++ codes " ") ++ relation_text r.op) (codes " 0"), length-append (side ++ codes " ") (relation_text r.op), length-append side (codes " "))

  -- ---- it begins a comparison

  module _ (s : State) (rest : List ℕ) (at : ℕ) where
    abbrev tail : List ℕ
    tail = relation_part r.op rest

    no-equation : (at : ℕ) → equation_sign (token_of (tokens_behind 0 at tail)) ≡ None
    no-equation at = ap (λ ts. equation_sign (token_of ts)) (relation-tokens r.op (48 ∷ rest) at)

    constant-begins : (c : ℤ) → InRange c → Begins s (tokens_behind 0 at (signed_decimal c ++ tail))
    constant-begins (pos n) small =
        let e = at + length (decimal n) in
        subst (Begins s) (sym (number-tokens n tail at small (relation-ends r.op rest).number ∙ ap (λ ts. placed at (token.Number (Some (integer (pos n)))) ∷ ts) (relation-tokens r.op (48 ∷ rest) e)))
        (number-begins s at (e + 1) (Some (integer (pos n))) r.op (tokens_behind 0 (e + 1 + length (relation_text r.op) + 1) (48 ∷ rest)))
    constant-begins (negsuc n) small =
        let e = at + 1 + length (decimal (suc n)) in
        subst (Begins s)
        (sym
        (minus-tokens (decimal (suc n) ++ tail) at (texts.number-begins (suc n) tail small)
        ∙ ap (λ ts. placed at (token.Sign sign.Minus) ∷ ts) (number-tokens (suc n) tail (at + 1) small (relation-ends r.op rest).number)
        ∙ ap (λ ts. placed at (token.Sign sign.Minus) ∷ placed (at + 1) (token.Number (Some (integer (pos (suc n))))) ∷ ts) (relation-tokens r.op (48 ∷ rest) e)))
        (minus_number-begins s at (at + 1) (e + 1) (Some (integer (pos (suc n)))) r.op (tokens_behind 0 (e + 1 + length (relation_text r.op) + 1) (48 ∷ rest)))

    first-begins : (x : ℕ) (z : ℤ) (more : List ℕ) → nat_lt x (length w.variables) ≡ true → InRange z → ends_name more ≡ true → ((at : ℕ) → equation_sign (token_of (tokens_behind 0 at more)) ≡ None)
        → Begins s (tokens_behind 0 at (first_text w x z ++ more))
    first-begins x (pos k) more h small end none =
        by-product (variable_text w x) more (variable-is w style x h) end k at small (Begins s)
        (λ a. variable-begins s at (variable_text w x) (tokens_behind 0 a more) (none a)) (λ q b ts. times-begins s at b (Some (integer (pos q))) ts)
    first-begins x (negsuc k) more h small end none =
        let body = size_text (suc k) ++ variable_text w x in
        subst (Begins s) (sym (minus-tokens (body ++ more) at (product-begins (variable_text w x) more (suc k) (variable-is w style x h) small)))
        (by-product (variable_text w x) more (variable-is w style x h) end (suc k) (at + 1) small (λ ts. Begins s (placed at (token.Sign sign.Minus) ∷ ts))
        (λ a. minus_variable-begins s at (at + 1) (variable_text w x) (tokens_behind 0 a more)) (λ q b ts. minus_times-begins s at (at + 1) b (Some (integer (pos q))) ts))

    side-begins : (xs : List ℕ) → list_all (λ x. nat_lt x (length w.variables)) xs ≡ true → Begins s (tokens_behind 0 at (side_text w r xs ++ tail))
    side-begins [] h = constant-begins r.constant fit.normal.constant_range
    side-begins (x ∷ xs) h =
        let p = and_parts (nat_lt x (length w.variables)) (list_all (λ x. nat_lt x (length w.variables)) xs) h in
        let others = summands_text w r false xs in
        let last = behind_text r.constant in
        let range = fit.normal.constant_range in
        let ends = later-ends w style None r fit.normal.range xs (last ++ tail) p.1 (behind-ends r.constant range tail (relation-ends r.op rest)) in
        subst (λ bytes. Begins s (tokens_behind 0 at bytes)) (sym (regroup w style r fit.normal.range range x xs tail))
        (first-begins x (coefficient x r.coeffs) (others ++ (last ++ tail)) p.0 (coefficient-fits r.coeffs x fit.normal.range) ends.variable
        (later-front w style None r fit.normal.range (λ t. equation_sign t ≡ None) refl refl xs (last ++ tail) p.1
        (behind-front (λ t. equation_sign t ≡ None) refl refl r.constant range tail no-equation)))

  -- ---- it is read

  pub linear-read : (n m : ℕ) → count_variables w n l.vars ≡ Some m → (s : State) (rest : List ℕ) → EndsExpression rest → Reads w n m item (linear_text w l) (form.Linear l) s rest
  linear-read n m c s rest end at =
      let tail = relation_part r.op rest in
      let e = at + length side in
      let f = e + 1 + length (relation_text r.op) + 1 in
      let us = tokens_behind 0 f (48 ∷ rest) in
      let behind = behind_term (had w m s) (f + 1) rest in
      let place : f + 1 ≡ at + length (((side ++ codes " ") ++ relation_text r.op) ++ codes " 0") = omega (arith, text-length) in
      subst (λ text. item (before (had w n s) at (text ++ rest)) ≡ Ok (form.Linear l, behind_term (had w m s) (at + length text) rest)) (sym (text-is w l))
      (ap (λ bytes. item (before (had w n s) at bytes)) (regrouped rest)
      ∙ side-begins (had w n s) rest at l.vars fit.there
      ∙ comparison-step (before (had w n s) at (side ++ tail)) (behind_term (had w m s) e tail) behind us (e + 1) r.op l.vars (whole_sum r.constant (pairs_of r.coeffs l.vars)) (whole_sum (pos 0) []) r
      (side-read w style r fit.normal.range fit.normal.constant_range l.vars DEPTH_LIMIT n m fit.there c fit.ascending s tail (relation-ends r.op rest) at
      ∙ ap (λ ts. Ok (listed_value r.coeffs l.vars r.constant, record (behind_term (had w m s) e tail) { tokens = ts })) (relation-tokens r.op (48 ∷ rest) e))
      (zero-read (record (had w m s) { is_behind_operand = false }) rest end f)
      (row-read r l.vars fit.normal fit.ascending fit.listed)
      ∙ ap (λ a. Ok (form.Linear l, behind_term (had w m s) a rest)) place)

  -- its text has a token at least
  pub linear-has : (rest : List ℕ) → EndsExpression rest → Has 1 (linear_text w l) rest
  linear-has rest end =
      subst (λ text. Has 1 text rest) (sym (text-is w l)) has
    where
      tail : List ℕ
      tail = relation_part r.op rest

      has : Has 1 (((side ++ codes " ") ++ relation_text r.op) ++ codes " 0") rest
      has at =
          let text = ((side ++ codes " ") ++ relation_text r.op) ++ codes " 0" in
          let e = at + length side in
          let f = e + 1 + length (relation_text r.op) + 1 in
          let first = side-has w style r fit.normal.range fit.normal.constant_range l.vars tail fit.there (relation-ends r.op rest) at in
          let second = ap length (relation-tokens r.op (48 ∷ rest) e) in
          let third = zero-has rest end f in
          let whole = ap (λ bytes. length (tokens_behind 0 at bytes)) (regrouped rest) in
          let place : f + 1 ≡ at + length text = omega (arith, text-length) in
          let behind = ap (λ a. length (tokens_behind 0 a rest)) place in
          omega (arith, first, second, third, whole, behind)

-- ---- what stands behind it

pub comma-ends : (rest : List ℕ) → EndsExpression (codes "," ++ rest)
comma-ends rest = record {
  number = sign-ends 44 rest refl refl;
  variable = refl;
  no_factor = λ at. ap (λ ts. factor_operation (token_of ts)) (comma_read rest at);
  no_product = λ at. ap (λ ts. product_operation (token_of ts)) (comma_read rest at);
}

pub stop-ends : (rest : List ℕ) → EndsExpression (codes ".\n" ++ rest)
stop-ends rest = record {
  number = refl;
  variable = refl;
  no_factor = λ at. ap (λ ts. factor_operation (token_of ts)) (stop_read rest at);
  no_product = λ at. ap (λ ts. product_operation (token_of ts)) (stop_read rest at);
}
