-- The tokens of an expression that means something are read as its value.
use Rattle.std.proofs.Common.{◌≡◌, ℕ, zero, suc, ◌≤◌, Bool, true, false, if◌then◌else◌, List, [], ◌∷◌, ◌++◌, length, Option, None, Some, is_none, option_map, Ok, refl, sym, ap, ◌∙◌, append_assoc, length-append, arith}
use Rattle.std.proofs.lemmas.List.{length-map}
use Rattle.scasp_num.specs.Number.{Number}
use Rattle.scasp_reader_tokens.specs.declared.sign.Sign.TheVariants as sign
use Rattle.scasp_reader_tokens.specs.declared.token.Token.{Token}
use Rattle.scasp_reader_tokens.specs.declared.token.Token.TheVariants as token
use Rattle.scasp_reader_tokens.specs.declared.token.Placed.{Placed}
use Rattle.scasp_reader_terms.specs.declared.fault.Kind.TheVariants as kind
use Rattle.scasp_reader_terms.specs.Constants.{number}
use Rattle.scasp_reader_terms.specs.Names.{variable_at, has_own_number}
use Rattle.scasp_reader_terms.specs.Steps.{State, Read, then_read, ◌>>=◌, give, get, note_if, behind, place_of, is_sign}
use Rattle.scasp_reader_terms.specs.Terms.{below}
use Rattle.scasp_reader_expressions.specs.declared.sums.Operation.{Operation}
use Rattle.scasp_reader_expressions.specs.declared.sums.Operation.TheVariants as operation
use Rattle.scasp_reader_expressions.specs.declared.values.Value.{Value}
use Rattle.scasp_reader_expressions.specs.Sums.{constant_sum, variable_sum, worked}
use Rattle.scasp_reader_expressions.specs.Values.{united, value_of, is_linear, combined, not_linear, operated, negated}
use Rattle.scasp_reader_expressions.specs.Expressions.{variable_value, factor_at, factor, operation_behind, repeated, factor_operation, product_operation, product, expression_with, expression}
use Rattle.scasp_law_program_text.specs.Grammar.Known.{Known, Make, means, nothing, then_make, numbered}
use Rattle.scasp_law_program_text.specs.Grammar.Trees.{Expression, an_expression, Products, no_products, plus, minus, Product, a_product, Factors, no_factors, times, over, Factor, a_number_factor, a_variable_factor, a_bracket}
use Rattle.scasp_law_program_text.specs.Grammar.Spelling.{expression_tokens, products_tokens, product_tokens, factors_tokens, factor_tokens}
use Rattle.scasp_law_program_text.specs.Grammar.Expressions.{Worth, worth, is_allowed, operation_meaning, negated_worth, number_worth, variable_worth, expression_meaning, products_meaning, product_meaning, factors_meaning, factor_meaning}
use Rattle.scasp_law_program_text.proofs.GrammarLemmas.Steps.{known, opened}
use Rattle.scasp_law_program_text.proofs.GrammarLemmas.Expressions.{valued, allowed, negated-valued}
use Rattle.scasp_law_program_text.proofs.GrammarLemmas.Given.{first, same, At, next-is, At_behind, At_so, Gives, Gives_by, Gives_ok, Gives_then, made, only-made, Gives_bind, Gives_taken, Gives_not_taken, between-gives}
use Rattle.scasp_law_program_text.proofs.GrammarLemmas.GivenTerms.{variable-given, number-given}

-- ---- operations

is-allowed : (b : Bool) (m : Make Worth) (k : Known) (w : Worth) (l : Known) → (if b then m else nothing) k ≡ Some (w, l) → (b ≡ true) × (m k ≡ Some (w, l))
is-allowed true m k w l e = (refl, e)
is-allowed false m k w l e = absurd cc

operated-given : (o : Operation) (at : ℕ) (w v : Worth) (s : State) (ts : List Token) (c : Worth) (l : Known) → At ts s → operation_meaning o w v (known s) ≡ Some (c, l) → Gives (valued c) ts l (operated o at (valued w) (valued v) s)
operated-given o at w v s ts c l h e =
    let xs = united w.variables v.variables in
    let (granted, meant) = is-allowed (is_allowed o w v) _ (known s) c l e in
    let (sum, is, rest) = only-made (worked o w.sum v.sum) (λ sum k. Some (worth xs sum, k)) (known s) c l meant in
    let linear : is_linear o (valued w) (valued v) ≡ true = sym (allowed o w v) ∙ granted in
    Gives_by (valued c) ts l _ _
    (ap (λ b. (if b then combined o at (valued w) (valued v) else not_linear at (valued w) (valued v)) s) linear
    ∙ ap (λ x. then_read (then_read (note_if (is_none x) at kind.NumberTooLarge s) (λ n. give x)) (λ sum. give (value_of xs sum))) is)
    (Gives_ok valued (worth xs sum) c ts s l h rest)

module _ (sign_of : Option Token → Option Operation) (operand : Read Value) where
  chain-ends : (n : ℕ) (w c : Worth) (s : State) (rest : List Token) (l : Known) → At rest s → sign_of (first rest) ≡ None → means w (known s) ≡ means c l → Gives (valued c) rest l (repeated sign_of operand n (valued w) s)
  chain-ends zero w c s rest l h none e = Gives_ok valued w c rest s l h e
  chain-ends (suc n) w c s rest l h none e =
      Gives_by (valued c) rest l _ _
      (ap (λ o. elim o [ None ↦ Ok (valued w, s) | Some o ↦ (operation_behind operand o (place_of s.tokens) (valued w) >>= repeated sign_of operand n) s ]) (ap sign_of (next-is rest s h) ∙ none))
      (Gives_ok valued w c rest s l h e)

  -- one operation more: its sign, its operand, and what goes on behind it
  chain-goes : (n : ℕ) (g : Token) (o : Operation) (w c : Worth) (s : State) (front more rest : List Token) (l : Known) (m : Make Worth) (next : Worth → Make Worth) → At (g ∷ ((front ++ more) ++ rest)) s
      → sign_of (Some g) ≡ Some o → then_make (m (known s)) (λ v k. then_make (operation_meaning o w v k) next) ≡ Some (c, l)
      → ((v : Worth) (k : Known) → At (front ++ (more ++ rest)) (behind s) → m (known s) ≡ Some (v, k) → Gives (valued v) (more ++ rest) k (operand (behind s)))
      → ((x : Worth) (t : State) → At (more ++ rest) t → next x (known t) ≡ Some (c, l) → Gives (valued c) rest l (repeated sign_of operand n (valued x) t))
      → Gives (valued c) rest l (repeated sign_of operand (suc n) (valued w) s)
  chain-goes n g o w c s front more rest l m next h is e operand_given rest_given =
      let us = more ++ rest in
      let a = made (m (known s)) (λ v k. then_make (operation_meaning o w v k) next) c l e in
      let b = made (operation_meaning o w a.value a.between) next c l a.rest in
      let operand_here = At_so _ (front ++ us) (behind s) (At_behind _ _ s h) (append_assoc front more rest) in
      let link : Gives (valued b.value) us b.between (operation_behind operand o (place_of s.tokens) (valued w) s) =
      Gives_then (valued a.value) (valued b.value) us us a.between b.between (operand (behind s)) (λ f. operated o (place_of s.tokens) (valued w) f) (operand_given a.value a.between operand_here a.first)
      (λ t there knows. operated-given o (place_of s.tokens) w a.value t us b.value b.between there (ap (λ k. operation_meaning o w a.value k) knows ∙ b.first)) in
      Gives_by (valued c) rest l _ ((operation_behind operand o (place_of s.tokens) (valued w) >>= repeated sign_of operand n) s)
      (ap (λ o. elim o [ None ↦ Ok (valued w, s) | Some o ↦ (operation_behind operand o (place_of s.tokens) (valued w) >>= repeated sign_of operand n) s ]) (ap sign_of (next-is _ s h) ∙ is))
      (Gives_then (valued b.value) (valued c) us rest b.between l (operation_behind operand o (place_of s.tokens) (valued w) s) (repeated sign_of operand n) link
      (λ t there knows. rest_given b.value t there (ap (λ k. next b.value k) knows ∙ b.rest)))

-- ---- what stands behind expressions, and how many operations there are

pub record EndsExpression (rest : List Token) : Type 0 where
  pub no_factor : factor_operation (first rest) ≡ None
  pub no_product : product_operation (first rest) ≡ None

products-end : (ps : Products) (rest : List Token) → factor_operation (first rest) ≡ None → factor_operation (first (products_tokens ps ++ rest)) ≡ None
products-end no_products rest e = e
products-end (plus p ps) rest e = refl
products-end (minus p ps) rest e = refl

abbrev factors_count : Factors → ℕ
factors_count no_factors = 0
factors_count (times f fs) = suc (factors_count fs)
factors_count (over f fs) = suc (factors_count fs)

abbrev products_count : Products → ℕ
products_count no_products = 0
products_count (plus p ps) = suc (products_count ps)
products_count (minus p ps) = suc (products_count ps)

factors-within : (fs : Factors) → factors_count fs ≤ length (factors_tokens fs)
factors-within no_factors = omega arith
factors-within (times f fs) = let h = factors-within fs in omega (arith, h, length-append (factor_tokens f) (factors_tokens fs))
factors-within (over f fs) = let h = factors-within fs in omega (arith, h, length-append (factor_tokens f) (factors_tokens fs))

products-within : (ps : Products) → products_count ps ≤ length (products_tokens ps)
products-within no_products = omega arith
products-within (plus p ps) = let h = products-within ps in omega (arith, h, length-append (product_tokens p) (products_tokens ps))
products-within (minus p ps) = let h = products-within ps in omega (arith, h, length-append (product_tokens p) (products_tokens ps))

pub tokens-length : (front rest : List Token) (s : State) → At (front ++ rest) s → length front ≤ length s.tokens
tokens-length front rest s h =
    let e : length s.tokens ≡ length (front ++ rest) = sym (length-map s.tokens (λ (t : Placed). t.token)) ∙ ap length h.tokens in
    omega (arith, e, length-append front rest)

factor-front : (f : Factor) (rest : List Token) → is_sign sign.Minus (first (factor_tokens f ++ rest)) ≡ false
factor-front (a_number_factor q) rest = refl
factor-front (a_variable_factor text) rest = refl
factor-front (a_bracket e) rest = refl

product-front : (p : Product) (rest : List Token) → is_sign sign.Minus (first (product_tokens p ++ rest)) ≡ false
product-front (a_product f fs) rest = ap (λ ts. is_sign sign.Minus (first ts)) (append_assoc (factor_tokens f) (factors_tokens fs) rest) ∙ factor-front f (factors_tokens fs ++ rest)

expression-is : (room : ℕ) → expression room ≡ expression_with (below expression room)
unfolding expression
expression-is zero = refl
expression-is (suc room) = refl

-- ---- factors without brackets

module _ (room : ℕ) (s : State) (rest : List Token) (c : Worth) (l : Known) where
  at-token : (ts : List Token) → At ts s → factor (below expression room) s ≡ factor_at (below expression room) (place_of s.tokens) (first ts) s
  at-token ts h = ap (λ o. factor_at (below expression room) (place_of s.tokens) o s) (next-is ts s h)

  number-factor-given : (q : Option Number) → At (token.Number q ∷ rest) s → factor_meaning room (a_number_factor q) (known s) ≡ Some (c, l) → Gives (valued c) rest l (factor (below expression room) s)
  number-factor-given q h e =
      let (a, is, meant) = only-made q (λ p. number_worth p) (known s) c l e in
      Gives_by (valued c) rest l _ _ (at-token _ h)
      (Gives_then q (valued c) rest rest (known s) l (number s) (λ q. give (value_of [] (option_map constant_sum q))) (number-given q a rest s is h)
      (λ t there knows. Gives_by (valued c) rest l _ _ (ap (λ q. give (value_of [] (option_map constant_sum q)) t) is)
      (Gives_ok valued (worth [] (constant_sum a)) c rest t l there (ap (λ k. Some (worth [] (constant_sum a), k)) knows ∙ meant))))

  variable-factor-given : (text : List ℕ) → At (token.Variable text ∷ rest) s → factor_meaning room (a_variable_factor text) (known s) ≡ Some (c, l) → Gives (valued c) rest l (factor (below expression room) s)
  variable-factor-given text h e =
      Gives_by (valued c) rest l _ _ (at-token _ h)
      (Gives_bind same (valued c) c rest rest l (variable_at (place_of s.tokens) text (behind s)) (λ x. get (λ s. has_own_number x s.fault) >>= (λ is_own. give (variable_value is_own x))) (numbered text (known s)) (λ x. variable_worth x) e
      (λ x k i. variable-given (place_of s.tokens) text (behind s) rest x k (At_behind _ rest s h) i)
      (λ x t there i.
      let (sum, is, meant) = only-made (variable_sum x) (λ sum k. Some (worth (x ∷ []) sum, k)) (known t) c l i in
      Gives_by (valued c) rest l _ _
      (ap (λ fault. give (variable_value (has_own_number x fault) x) t) there.fault ∙ ap (λ sum. give (value_of (x ∷ []) sum) t) is)
      (Gives_ok valued (worth (x ∷ []) sum) c rest t l there meant)))

-- ---- expressions

abbrev unsigned : ℕ → Bool → Read Value
unsigned room is_negated = product (below expression room) >>= (λ e. λ v. repeated product_operation (product (below expression room)) (length v.tokens) (negated is_negated e) v)

unsigned-given : (p : Product) (ps : Products) (is_negated : Bool) (room : ℕ) (s : State) (rest : List Token) (c : Worth) (l : Known)
    → then_make (product_meaning room p (known s)) (λ a. products_meaning room ps (negated_worth is_negated a)) ≡ Some (c, l)
    → ((a : Worth) (k : Known) → product_meaning room p (known s) ≡ Some (a, k) → Gives (valued a) (products_tokens ps ++ rest) k (product (below expression room) s))
    → ((a : Worth) (t : State) → At (products_tokens ps ++ rest) t → products_count ps ≤ length t.tokens → products_meaning room ps a (known t) ≡ Some (c, l)
    → Gives (valued c) rest l (repeated product_operation (product (below expression room)) (length t.tokens) (valued a) t))
    → Gives (valued c) rest l (unsigned room is_negated s)
unsigned-given p ps is_negated room s rest c l e first_given rest_given =
    Gives_bind valued (valued c) c (products_tokens ps ++ rest) rest l (product (below expression room) s) (λ e. λ v. repeated product_operation (product (below expression room)) (length v.tokens) (negated is_negated e) v)
    (product_meaning room p (known s)) (λ a. products_meaning room ps (negated_worth is_negated a)) e first_given
    (λ a t there i. Gives_by (valued c) rest l _ _ (ap (λ v. repeated product_operation (product (below expression room)) (length t.tokens) v t) (negated-valued is_negated a))
    (rest_given (negated_worth is_negated a) t there (let n = products-within ps in let m = tokens-length (products_tokens ps) rest t there in omega (arith, n, m)) i))

mutual
  pub expression-given : (e : Expression) (room : ℕ) (s : State) (rest : List Token) (c : Worth) (l : Known) → At (expression_tokens e ++ rest) s → EndsExpression rest → expression_meaning room e (known s) ≡ Some (c, l)
      → Gives (valued c) rest l (expression room s)
  expression-given (an_expression true p ps) room s rest c l h ends e =
      Gives_by (valued c) rest l _ _ (ap (λ f. f s) (expression-is room))
      (Gives_taken (valued c) rest l s sign.Minus (product_tokens p ++ (products_tokens ps ++ rest)) _ (At_so _ (token.Sign sign.Minus ∷ (product_tokens p ++ (products_tokens ps ++ rest))) s h (ap (λ ts. token.Sign sign.Minus ∷ ts) (append_assoc (product_tokens p) (products_tokens ps) rest))) refl
      (λ there. unsigned-given p ps true room (behind s) rest c l e
      (λ a k i. product-given p room (behind s) (products_tokens ps ++ rest) a k there (products-end ps rest ends.no_factor) i)
      (λ a t at le i. products-given ps room (length t.tokens) a t rest c l at ends le i)))
  expression-given (an_expression false p ps) room s rest c l h ends e =
      let g = At_so _ (product_tokens p ++ (products_tokens ps ++ rest)) s h (append_assoc (product_tokens p) (products_tokens ps) rest) in
      Gives_by (valued c) rest l _ _ (ap (λ f. f s) (expression-is room))
      (Gives_not_taken (valued c) rest l s sign.Minus (product_tokens p ++ (products_tokens ps ++ rest)) _ g (product-front p (products_tokens ps ++ rest))
      (unsigned-given p ps false room s rest c l e
      (λ a k i. product-given p room s (products_tokens ps ++ rest) a k g (products-end ps rest ends.no_factor) i)
      (λ a t at le i. products-given ps room (length t.tokens) a t rest c l at ends le i)))

  products-given : (ps : Products) (room n : ℕ) (w : Worth) (s : State) (rest : List Token) (c : Worth) (l : Known) → At (products_tokens ps ++ rest) s → EndsExpression rest → products_count ps ≤ n
      → products_meaning room ps w (known s) ≡ Some (c, l) → Gives (valued c) rest l (repeated product_operation (product (below expression room)) n (valued w) s)
  products-given no_products room n w s rest c l h ends le e = chain-ends product_operation (product (below expression room)) n w c s rest l h ends.no_product e
  products-given (plus p ps) room zero w s rest c l h ends le e = absurd (omega (arith, le))
  products-given (plus p ps) room (suc n) w s rest c l h ends le e =
      chain-goes product_operation (product (below expression room)) n (token.Sign sign.Plus) operation.Plus w c s (product_tokens p) (products_tokens ps) rest l (product_meaning room p) (products_meaning room ps) h refl e
      (λ v k here i. product-given p room (behind s) (products_tokens ps ++ rest) v k here (products-end ps rest ends.no_factor) i)
      (λ x t there i. products-given ps room n x t rest c l there ends (omega (arith, le)) i)
  products-given (minus p ps) room zero w s rest c l h ends le e = absurd (omega (arith, le))
  products-given (minus p ps) room (suc n) w s rest c l h ends le e =
      chain-goes product_operation (product (below expression room)) n (token.Sign sign.Minus) operation.Minus w c s (product_tokens p) (products_tokens ps) rest l (product_meaning room p) (products_meaning room ps) h refl e
      (λ v k here i. product-given p room (behind s) (products_tokens ps ++ rest) v k here (products-end ps rest ends.no_factor) i)
      (λ x t there i. products-given ps room n x t rest c l there ends (omega (arith, le)) i)

  product-given : (p : Product) (room : ℕ) (s : State) (rest : List Token) (c : Worth) (l : Known) → At (product_tokens p ++ rest) s → factor_operation (first rest) ≡ None → product_meaning room p (known s) ≡ Some (c, l)
      → Gives (valued c) rest l (product (below expression room) s)
  product-given (a_product f fs) room s rest c l h ends e =
      Gives_bind valued (valued c) c (factors_tokens fs ++ rest) rest l (factor (below expression room) s) (λ e. λ v. repeated factor_operation (factor (below expression room)) (length v.tokens) e v)
      (factor_meaning room f (known s)) (factors_meaning room fs) e
      (λ a k i. factor-given f room s (factors_tokens fs ++ rest) a k (At_so _ _ s h (append_assoc (factor_tokens f) (factors_tokens fs) rest)) i)
      (λ a t there i. factors-given fs room (length t.tokens) a t rest c l there ends (let n = factors-within fs in let m = tokens-length (factors_tokens fs) rest t there in omega (arith, n, m)) i)

  factors-given : (fs : Factors) (room n : ℕ) (w : Worth) (s : State) (rest : List Token) (c : Worth) (l : Known) → At (factors_tokens fs ++ rest) s → factor_operation (first rest) ≡ None → factors_count fs ≤ n
      → factors_meaning room fs w (known s) ≡ Some (c, l) → Gives (valued c) rest l (repeated factor_operation (factor (below expression room)) n (valued w) s)
  factors-given no_factors room n w s rest c l h ends le e = chain-ends factor_operation (factor (below expression room)) n w c s rest l h ends e
  factors-given (times f fs) room zero w s rest c l h ends le e = absurd (omega (arith, le))
  factors-given (times f fs) room (suc n) w s rest c l h ends le e =
      chain-goes factor_operation (factor (below expression room)) n (token.Sign sign.Times) operation.Times w c s (factor_tokens f) (factors_tokens fs) rest l (factor_meaning room f) (factors_meaning room fs) h refl e
      (λ v k here i. factor-given f room (behind s) (factors_tokens fs ++ rest) v k here i)
      (λ x t there i. factors-given fs room n x t rest c l there ends (omega (arith, le)) i)
  factors-given (over f fs) room zero w s rest c l h ends le e = absurd (omega (arith, le))
  factors-given (over f fs) room (suc n) w s rest c l h ends le e =
      chain-goes factor_operation (factor (below expression room)) n (token.Sign sign.Over) operation.Over w c s (factor_tokens f) (factors_tokens fs) rest l (factor_meaning room f) (factors_meaning room fs) h refl e
      (λ v k here i. factor-given f room (behind s) (factors_tokens fs ++ rest) v k here i)
      (λ x t there i. factors-given fs room n x t rest c l there ends (omega (arith, le)) i)

  factor-given : (f : Factor) (room : ℕ) (s : State) (rest : List Token) (c : Worth) (l : Known) → At (factor_tokens f ++ rest) s → factor_meaning room f (known s) ≡ Some (c, l) → Gives (valued c) rest l (factor (below expression room) s)
  factor-given (a_number_factor q) room s rest c l h e = number-factor-given room s rest c l q h e
  factor-given (a_variable_factor text) room s rest c l h e = variable-factor-given room s rest c l text h e
  factor-given (a_bracket x) zero s rest c l h e = absurd cc
  factor-given (a_bracket x) (suc room) s rest c l h e =
      let after = token.Sign sign.Close ∷ rest in
      let g = At_so _ (token.Sign sign.Open ∷ (expression_tokens x ++ after)) s h (ap (λ ts. token.Sign sign.Open ∷ ts) (append_assoc (expression_tokens x) (token.Sign sign.Close ∷ []) rest)) in
      Gives_by (valued c) rest l _ _ (at-token (suc room) s rest c l _ g)
      (between-gives (valued c) false sign.Open sign.Close (expression room) (expression_tokens x ++ after) rest l s refl refl g
      (λ there. expression-given x room (opened false s) after c l there (record { no_factor = refl; no_product = refl }) e))
