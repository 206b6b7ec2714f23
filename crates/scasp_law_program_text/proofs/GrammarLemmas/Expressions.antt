-- Expressions that are read.
use Rattle.std.proofs.Common.{◌≡◌, ℕ, zero, suc, Bool, true, false, if◌then◌else◌, List, [], ◌∷◌, ◌++◌, drop, length, Option, None, Some, is_none, option_map, Ok, refl, sym, ap, subst, ◌∙◌, append_assoc}
use Rattle.scasp_num.specs.Gcd.{gcd, gcd_within}
use Rattle.scasp_num.specs.Arithmetic.{lowest}
use Rattle.scasp_reader_tokens.specs.declared.sign.Sign.{Sign}
use Rattle.scasp_reader_tokens.specs.declared.sign.Sign.TheVariants as sign
use Rattle.scasp_reader_tokens.specs.declared.token.Token.{Token}
use Rattle.scasp_reader_tokens.specs.declared.token.Token.TheVariants as token
use Rattle.scasp_reader_terms.specs.declared.fault.Kind.TheVariants as kind
use Rattle.scasp_reader_terms.specs.Steps.{State, Read, ◌>>=◌, give, get, take, behind, place_of, token_of}
use Rattle.scasp_reader_terms.specs.Names.{variable_at, has_own_number}
use Rattle.scasp_reader_terms.specs.Constants.{number}
use Rattle.scasp_reader_terms.specs.Terms.{inside}
use Rattle.scasp_reader_expressions.specs.declared.sums.Operation.{Operation}
use Rattle.scasp_reader_expressions.specs.declared.sums.Operation.TheVariants as operation
use Rattle.scasp_reader_expressions.specs.declared.sums.Sum.{Sum}
use Rattle.scasp_reader_expressions.specs.declared.values.Value.{Value}
use Rattle.scasp_reader_expressions.specs.Sums.{constant_sum, variable_sum, worked}
use Rattle.scasp_reader_expressions.specs.Values.{united, value_of, is_linear, made_at, combined, not_linear, operated, negated}
use Rattle.scasp_reader_expressions.specs.Expressions.{variable_value, bracket_in, factor_at_sign, factor_at, factor, operation_behind, repeated, factor_operation, product_operation, product, expression_with, expression}
use Rattle.scasp_law_program_text.specs.Grammar.Known.{Known, Make, only, then_make}
use Rattle.scasp_law_program_text.specs.Grammar.Trees.{an_expression, Products, no_products, plus, minus, Product, a_product, Factors, no_factors, times, over, Factor, a_number_factor, a_variable_factor, a_bracket}
use Rattle.scasp_law_program_text.specs.Grammar.Spelling.{bare, minus_if, expression_tokens, products_tokens, product_tokens, factors_tokens, factor_tokens}
use Rattle.scasp_law_program_text.specs.Grammar.Expressions.{Worth, worth, is_allowed, operation_meaning, negated_worth, expression_meaning, products_meaning, product_meaning, factors_meaning, factor_meaning}
use Rattle.scasp_law_program_text.proofs.GrammarLemmas.Steps.{known, then-some, next-token, Post, Post_give, Post_err, Post_from, Post_map, Post_then, Post_taken, Post_note, opened, between_holds}
use Rattle.scasp_law_program_text.proofs.GrammarLemmas.Leaves.{IsNumbered, variable_holds, some-number, IsNumber, number_holds}
use Rattle.scasp_law_program_text.proofs.GrammarLemmas.Terms.{with-sign}

-- a worth as the reader has it
abbrev pub valued : Worth → Value
valued w = value_of w.variables (Some w.sum)

sums-same : (w v : Worth) → valued w ≡ valued v → w.sum ≡ v.sum
sums-same w v e = let same : Some w.sum ≡ Some v.sum = ap (λ (e : Value). e.sum) e in cc

-- ---- operations

-- what is worked out of two sums
pub record IsMade {A : Type 0} (f : Sum → Sum → Option A) (x y : Option Sum) (s : State) (r : Option A) (t : State) : Type 0 where
  pub same : s ≡ t
  pub made : (a b : Sum) → x ≡ Some a → y ≡ Some b → (c : A) × (f a b ≡ Some c) × (r ≡ Some c)

pub made_at_holds : {A : Type 0} (f : Sum → Sum → Option A) (at : ℕ) (x y : Option Sum) (s : State) → Post (IsMade f x y s) s (made_at f at x y s)
made_at_holds f at None y s = Post_give (IsMade f None y s) s None (λ fine. record { same = refl; made = λ a b d e. absurd cc })
made_at_holds f at (Some a) None s = Post_give (IsMade f (Some a) None s) s None (λ fine. record { same = refl; made = λ b c d e. absurd cc })
made_at_holds f at (Some a) (Some b) s =
    Post_note (IsMade f (Some a) (Some b) s) s (is_none (f a b)) at kind.NumberTooLarge _
    (λ t g same. Post_give (IsMade f (Some a) (Some b) s) t (f a b)
    (λ fine.
    let (is, past) = same fine in
    let (c, some) = some-number (f a b) past in
    record { same = is; made = λ x y d e. (let p : a ≡ x = cc in let q : b ≡ y = cc in (c, ap (λ a. f a y) (sym p) ∙ ap (λ b. f a b) (sym q) ∙ some, some)) }))

record IsOperation (o : Operation) (e f : Value) (s : State) (g : Value) (t : State) : Type 0 where
  same : s ≡ t
  made : (w v : Worth) → e ≡ valued w → f ≡ valued v → (c : Worth) × (operation_meaning o w v (known s) ≡ Some (c, known t)) × (g ≡ valued c)

pub allowed : (o : Operation) (w v : Worth) → is_allowed o w v ≡ is_linear o (valued w) (valued v)
allowed operation.Plus w v = refl
allowed operation.Minus w v = refl
allowed operation.Times w v = refl
allowed operation.Over w v = refl

operation-made : (o : Operation) (w v : Worth) (sum : Sum) (k : Known) → is_allowed o w v ≡ true → worked o w.sum v.sum ≡ Some sum → operation_meaning o w v k ≡ Some (worth (united w.variables v.variables) sum, k)
operation-made o w v sum k e f = rw (e, f) refl

operated_holds : (o : Operation) (at : ℕ) (e f : Value) (s : State) → Post (IsOperation o e f s) s (operated o at e f s)
operated_holds o at e f s = by (is_linear o e f) refl
  where
    by : (b : Bool) → is_linear o e f ≡ b → Post (IsOperation o e f s) s ((if b then combined o at e f else not_linear at e f) s)
    by true linear =
        Post_then (IsMade (worked o) e.sum f.sum s) (IsOperation o e f s) s _ _ (made_at_holds (worked o) at e.sum f.sum s)
        (λ sum t g m. Post_give (IsOperation o e f s) t (value_of (united e.variables f.variables) sum)
        (λ fine.
        let m = m fine in
        record {
          same = m.same;
          made = λ w v i j. (
              let (c, made, is) = m.made w.sum v.sum (ap (λ (e : Value). e.sum) i) (ap (λ (f : Value). f.sum) j) in
              let ok : is_allowed o w v ≡ true = allowed o w v ∙ ap (λ e. is_linear o e (valued v)) (sym i) ∙ ap (λ f. is_linear o e f) (sym j) ∙ linear in (
                worth (united w.variables v.variables) c,
                operation-made o w v c (known s) ok made ∙ ap (λ s. Some (worth (united w.variables v.variables) c, known s)) m.same,
                ap (λ xs. value_of (united xs f.variables) sum) (ap (λ (e : Value). e.variables) i) ∙ ap (λ ys. value_of (united w.variables ys) sum) (ap (λ (f : Value). f.variables) j) ∙ ap (λ sum. value_of (united w.variables v.variables) sum) is,
              ));
        }))
    by false linear =
        Post_note (IsOperation o e f s) s true at kind.NotLinear (λ u. give (value_of (united e.variables f.variables) None))
        (λ t g same. Post_give (IsOperation o e f s) t (value_of (united e.variables f.variables) None) (λ fine. let (is, past) = same fine in absurd cc))

-- ---- what is read is worth what its tree means

pub record IsWorth {T : Type 0} (of : T → List Token) (meaning : T → Make Worth) (s : State) (e : Value) (t : State) : Type 0 where
  pub tree : T
  pub made : Worth
  pub is : e ≡ valued made
  pub tokens : bare s.tokens ≡ of tree ++ bare t.tokens
  pub value : meaning tree (known s) ≡ Some (made, known t)

-- ---- factors

abbrev pub Inner : ℕ → Option (Read Value) → Type 0
Inner room None = Unit {0}
Inner zero (Some one) = ⊥
Inner (suc room) (Some one) = (s : State) → Post (IsWorth expression_tokens (expression_meaning room) s) s (one s)

variable-worth : (x : ℕ) → (sum : Sum) × (variable_sum x ≡ Some sum)
unfolding lowest gcd gcd_within
variable-worth x = (_, refl)

module _ (room : ℕ) (s : State) where
  abbrev IsFactor : Value → State → Type 0
  IsFactor e t = IsWorth factor_tokens (factor_meaning room) s e t

  number_factor_holds : Post IsFactor s ((number >>= (λ q. give (value_of [] (option_map constant_sum q)))) s)
  number_factor_holds =
      Post_then (IsNumber s) IsFactor s _ _ (number_holds s)
      (λ q t f n. Post_give IsFactor t (value_of [] (option_map constant_sum q))
      (λ fine.
      let n = n fine in
      record {
        tree = a_number_factor q;
        made = worth [] (constant_sum n.value);
        is = ap (λ q. value_of [] (option_map constant_sum q)) n.is;
        tokens = n.tokens;
        value = ap (λ q. factor_meaning room (a_number_factor q) (known s)) n.is ∙ ap (λ k. Some (worth [] (constant_sum n.value), k)) n.same;
      }))

  variable_factor_holds : (at : ℕ) (text : List ℕ) → bare s.tokens ≡ token.Variable text ∷ bare (drop 1 s.tokens)
      → Post IsFactor s ((take >>= (λ t. variable_at at text >>= (λ x. get (λ s. has_own_number x s.fault) >>= (λ is_own. give (variable_value is_own x))))) s)
  variable_factor_holds at text next =
      Post_from IsFactor s (behind s) _ (λ f. f)
      (Post_then (IsNumbered text (behind s)) IsFactor (behind s) _ _ (variable_holds at text (behind s))
      (λ x t f v. Post_give IsFactor t (variable_value (has_own_number x t.fault) x)
      (λ fine.
      let v = v fine in
      let (sum, is) = variable-worth x in
      record {
        tree = a_variable_factor text;
        made = worth (x ∷ []) sum;
        is = ap (λ fault. variable_value (has_own_number x fault) x) fine ∙ ap (λ sum. value_of (x ∷ []) sum) is;
        tokens = next ∙ ap (λ ts. token.Variable text ∷ ts) v.tokens;
        value = then-some _ _ _ _ _ v.value (ap (λ o. then_make (only o (known t)) (λ sum k. Some (worth (x ∷ []) sum, k))) is);
      })))

bracket_holds : (room : ℕ) (inner : Option (Read Value)) → Inner room inner → (s : State) → Post (IsWorth factor_tokens (factor_meaning room) s) s (inside inner bracket_in s)
bracket_holds room None h s = Post_err (IsWorth factor_tokens (factor_meaning room) s) s _
bracket_holds zero (Some one) h s = absurd h
bracket_holds (suc room) (Some one) h s =
    between_holds (IsWorth expression_tokens (expression_meaning room) (opened false s)) (IsWorth factor_tokens (factor_meaning (suc room)) s) false sign.Open sign.Close one s (h (opened false s))
    (λ e t opens close p. record {
      tree = a_bracket p.tree;
      made = p.made;
      is = p.is;
      tokens = opens ∙ ap (λ ts. token.Sign sign.Open ∷ ts) (p.tokens ∙ with-sign (expression_tokens p.tree) _ _ _ close);
      value = p.value;
    })

factor_holds : (room : ℕ) (inner : Option (Read Value)) → Inner room inner → (s : State) → Post (IsWorth factor_tokens (factor_meaning room) s) s (factor inner s)
factor_holds room inner h s = by (place_of s.tokens) (token_of s.tokens) refl
  where
    sign_by : (g : Sign) → Post (IsWorth factor_tokens (factor_meaning room) s) s (factor_at_sign inner g s)
    sign_by sign.Open = bracket_holds room inner h s
    sign_by g = Post_err (IsWorth factor_tokens (factor_meaning room) s) s _

    by : (at : ℕ) (o : Option Token) → token_of s.tokens ≡ o → Post (IsWorth factor_tokens (factor_meaning room) s) s (factor_at inner at o s)
    by at (Some (token.Number q)) e = number_factor_holds room s
    by at (Some (token.Variable text)) e = variable_factor_holds room s at text (next-token s.tokens _ e)
    by at (Some (token.Sign g)) e = sign_by g
    by at o e = Post_err (IsWorth factor_tokens (factor_meaning room) s) s _

-- ---- operations, one behind the other

-- the chain goes on behind e
record IsChain {C : Type 0} (of : C → List Token) (meaning : C → Worth → Make Worth) (e : Value) (s : State) (f : Value) (t : State) : Type 0 where
  tree : C
  tokens : bare s.tokens ≡ of tree ++ bare t.tokens
  value : (w : Worth) → e ≡ valued w → (c : Worth) × (meaning tree w (known s) ≡ Some (c, known t)) × (f ≡ valued c)

module _ {T C : Type 0} (of : T → List Token) (meaning : T → Make Worth) (chain_of : C → List Token) (chain_meaning : C → Worth → Make Worth)
    (none : C) (no_tokens : chain_of none ≡ []) (no_meaning : (w : Worth) (k : Known) → chain_meaning none w k ≡ Some (w, k))
    (sign_of : Option Token → Option Operation) (no_sign : sign_of None ≡ None)
    (more : (g : Token) (o : Operation) → sign_of (Some g) ≡ Some o → (p : T) (c : C) → (d : C) × (chain_of d ≡ g ∷ (of p ++ chain_of c))
    × ((w : Worth) (k : Known) → chain_meaning d w k ≡ then_make (meaning p k) (λ v l. then_make (operation_meaning o w v l) (λ x. chain_meaning c x))))
    (operand : Read Value) (h : (s : State) → Post (IsWorth of meaning s) s (operand s)) where
  -- one operation, and its operand
  record IsLink (o : Operation) (e : Value) (s : State) (f : Value) (t : State) : Type 0 where
    tree : T
    tokens : bare (drop 1 s.tokens) ≡ of tree ++ bare t.tokens
    value : (w : Worth) → e ≡ valued w → (v : Worth) × (l : Known) × (c : Worth) × (meaning tree (known s) ≡ Some (v, l)) × (operation_meaning o w v l ≡ Some (c, known t)) × (f ≡ valued c)

  link_holds : (o : Operation) (at : ℕ) (e : Value) (s : State) → Post (IsLink o e s) s (operation_behind operand o at e s)
  link_holds o at e s =
      Post_from (IsLink o e s) s (behind s) _ (λ f. f)
      (Post_then (IsWorth of meaning (behind s)) (IsLink o e s) (behind s) _ _ (h (behind s))
      (λ f t g p. Post_map (IsOperation o e f t) (IsLink o e s) t _ (operated_holds o at e f t)
      (λ x u i fine q.
      let p = p (i fine) in
      record {
        tree = p.tree;
        tokens = p.tokens ∙ ap (λ (t : State). of p.tree ++ bare t.tokens) q.same;
        value = λ w j. (let (c, made, is) = q.made w p.made j p.is in (p.made, known t, c, p.value, made, is));
      })))

  repeated_holds : (n : ℕ) (e : Value) (s : State) → Post (IsChain chain_of chain_meaning e s) s (repeated sign_of operand n e s)
  repeated_holds zero e s = Post_give (IsChain chain_of chain_meaning e s) s e (λ fine. record { tree = none; tokens = ap (λ ts. ts ++ bare s.tokens) (sym no_tokens); value = λ w i. (w, no_meaning w (known s), i) })
  repeated_holds (suc n) e s = by (sign_of (token_of s.tokens)) refl (repeated_holds n)
    where
      longer : (o : Operation) (f : Value) (t : State) (x : Value) (u : State) (q : Option Token) → token_of s.tokens ≡ q → sign_of q ≡ Some o → IsLink o e s f t → IsChain chain_of chain_meaning f t x u → IsChain chain_of chain_meaning e s x u
      longer o f t x u None there is l c = absurd (let e : None ≡ Some o = sym no_sign ∙ is in cc)
      longer o f t x u (Some g) there is l c =
          let (tree, spelling, meant) = more g o is l.tree c.tree in
          record {
            tree = tree;
            tokens = next-token s.tokens g there ∙ ap (λ ts. g ∷ ts) (l.tokens ∙ ap (λ ts. of l.tree ++ ts) c.tokens ∙ sym (append_assoc (of l.tree) (chain_of c.tree) (bare u.tokens)))
                ∙ ap (λ ts. ts ++ bare u.tokens) (sym spelling);
            value = λ w i. (
                let (v, k, y, first, made, is) = l.value w i in
                let (z, rest, j) = c.value y is in
                (z, meant w (known s) ∙ then-some _ _ _ _ _ first (then-some _ _ _ _ _ made rest), j));
          }

      by : (o : Option Operation) → sign_of (token_of s.tokens) ≡ o → ((f : Value) (t : State) → Post (IsChain chain_of chain_meaning f t) t (repeated sign_of operand n f t))
          → Post (IsChain chain_of chain_meaning e s) s (elim o [ None ↦ Ok (e, s) | Some o ↦ (operation_behind operand o (place_of s.tokens) e >>= repeated sign_of operand n) s ])
      by None is rest = Post_give (IsChain chain_of chain_meaning e s) s e (λ fine. record { tree = none; tokens = ap (λ ts. ts ++ bare s.tokens) (sym no_tokens); value = λ w i. (w, no_meaning w (known s), i) })
      by (Some o) is rest =
          Post_then (IsLink o e s) (IsChain chain_of chain_meaning e s) s _ _ (link_holds o (place_of s.tokens) e s)
          (λ f t g l. Post_map (IsChain chain_of chain_meaning f t) (IsChain chain_of chain_meaning e s) t _ (rest f t)
          (λ x u i fine c. longer o f t x u (token_of s.tokens) refl is (l (i fine)) c))

more-factors : (room : ℕ) (g : Token) (o : Operation) → factor_operation (Some g) ≡ Some o → (p : Factor) (c : Factors) → (d : Factors) × (factors_tokens d ≡ g ∷ (factor_tokens p ++ factors_tokens c))
    × ((w : Worth) (k : Known) → factors_meaning room d w k ≡ then_make (factor_meaning room p k) (λ v l. then_make (operation_meaning o w v l) (λ x. factors_meaning room c x)))
more-factors room (token.Sign g) o e p c = by g e
  where
    by : (g : Sign) → factor_operation (Some (token.Sign g)) ≡ Some o → (d : Factors) × (factors_tokens d ≡ token.Sign g ∷ (factor_tokens p ++ factors_tokens c))
        × ((w : Worth) (k : Known) → factors_meaning room d w k ≡ then_make (factor_meaning room p k) (λ v l. then_make (operation_meaning o w v l) (λ x. factors_meaning room c x)))
    by sign.Times e = (times p c, refl, λ w k. (let same : operation.Times ≡ o = cc in subst (λ o. factors_meaning room (times p c) w k ≡ then_make (factor_meaning room p k) (λ v l. then_make (operation_meaning o w v l) (λ x. factors_meaning room c x))) same refl))
    by sign.Over e = (over p c, refl, λ w k. (let same : operation.Over ≡ o = cc in subst (λ o. factors_meaning room (over p c) w k ≡ then_make (factor_meaning room p k) (λ v l. then_make (operation_meaning o w v l) (λ x. factors_meaning room c x))) same refl))
    by g e = absurd cc
more-factors room g o e p c = absurd cc

more-products : (room : ℕ) (g : Token) (o : Operation) → product_operation (Some g) ≡ Some o → (p : Product) (c : Products) → (d : Products) × (products_tokens d ≡ g ∷ (product_tokens p ++ products_tokens c))
    × ((w : Worth) (k : Known) → products_meaning room d w k ≡ then_make (product_meaning room p k) (λ v l. then_make (operation_meaning o w v l) (λ x. products_meaning room c x)))
more-products room (token.Sign g) o e p c = by g e
  where
    by : (g : Sign) → product_operation (Some (token.Sign g)) ≡ Some o → (d : Products) × (products_tokens d ≡ token.Sign g ∷ (product_tokens p ++ products_tokens c))
        × ((w : Worth) (k : Known) → products_meaning room d w k ≡ then_make (product_meaning room p k) (λ v l. then_make (operation_meaning o w v l) (λ x. products_meaning room c x)))
    by sign.Plus e = (plus p c, refl, λ w k. (let same : operation.Plus ≡ o = cc in subst (λ o. products_meaning room (plus p c) w k ≡ then_make (product_meaning room p k) (λ v l. then_make (operation_meaning o w v l) (λ x. products_meaning room c x))) same refl))
    by sign.Minus e = (minus p c, refl, λ w k. (let same : operation.Minus ≡ o = cc in subst (λ o. products_meaning room (minus p c) w k ≡ then_make (product_meaning room p k) (λ v l. then_make (operation_meaning o w v l) (λ x. products_meaning room c x))) same refl))
    by g e = absurd cc
more-products room g o e p c = absurd cc

-- ---- products and expressions

product_holds : (room : ℕ) (inner : Option (Read Value)) → Inner room inner → (s : State) → Post (IsWorth product_tokens (product_meaning room) s) s (product inner s)
product_holds room inner h s =
    Post_then (IsWorth factor_tokens (factor_meaning room) s) (IsWorth product_tokens (product_meaning room) s) s _ _ (factor_holds room inner h s)
    (λ e t f p. Post_map (IsChain factors_tokens (factors_meaning room) e t) (IsWorth product_tokens (product_meaning room) s) t _
    (repeated_holds factor_tokens (factor_meaning room) factors_tokens (factors_meaning room) no_factors refl (λ w k. refl) factor_operation refl (more-factors room) (factor inner) (factor_holds room inner h) (length t.tokens) e t)
    (λ x u g fine c.
    let p = p (g fine) in
    let (made, rest, is) = c.value p.made p.is in
    record {
      tree = a_product p.tree c.tree;
      made = made;
      is = is;
      tokens = p.tokens ∙ ap (λ ts. factor_tokens p.tree ++ ts) c.tokens ∙ sym (append_assoc (factor_tokens p.tree) (factors_tokens c.tree) (bare u.tokens));
      value = then-some _ _ _ _ _ p.value rest;
    }))

pub negated-valued : (is_negated : Bool) (w : Worth) → negated is_negated (valued w) ≡ valued (negated_worth is_negated w)
negated-valued true w = refl
negated-valued false w = refl

pub append-minus : (is_negated : Bool) (ts us : List Token) → minus_if is_negated ++ (ts ++ us) ≡ (minus_if is_negated ++ ts) ++ us
append-minus true ts us = refl
append-minus false ts us = refl

module _ (room : ℕ) (inner : Option (Read Value)) (h : Inner room inner) (s u : State) (is_negated : Bool) (front : bare s.tokens ≡ minus_if is_negated ++ bare u.tokens) (same : known s ≡ known u) where
  unsigned_holds : Post (IsWorth expression_tokens (expression_meaning room) s) u ((product inner >>= (λ e. λ v. repeated product_operation (product inner) (length v.tokens) (negated is_negated e) v)) u)
  unsigned_holds =
      Post_then (IsWorth product_tokens (product_meaning room) u) (IsWorth expression_tokens (expression_meaning room) s) u _ _ (product_holds room inner h u)
      (λ e t f p. Post_map (IsChain products_tokens (products_meaning room) (negated is_negated e) t) (IsWorth expression_tokens (expression_meaning room) s) t _
      (repeated_holds product_tokens (product_meaning room) products_tokens (products_meaning room) no_products refl (λ w k. refl) product_operation refl (more-products room) (product inner) (product_holds room inner h) (length t.tokens) (negated is_negated e) t)
      (λ x v g fine c.
      let p = p (g fine) in
      let (made, rest, is) = c.value (negated_worth is_negated p.made) (ap (λ e. negated is_negated e) p.is ∙ negated-valued is_negated p.made) in
      record {
        tree = an_expression is_negated p.tree c.tree;
        made = made;
        is = is;
        tokens = front ∙ ap (λ ts. minus_if is_negated ++ ts) (p.tokens ∙ ap (λ ts. product_tokens p.tree ++ ts) c.tokens ∙ sym (append_assoc (product_tokens p.tree) (products_tokens c.tree) (bare v.tokens)))
            ∙ append-minus is_negated (product_tokens p.tree ++ products_tokens c.tree) (bare v.tokens);
        value = then-some _ _ _ _ _ (ap (λ k. product_meaning room p.tree k) same ∙ p.value) rest;
      }))

expression_with_holds : (room : ℕ) (inner : Option (Read Value)) → Inner room inner → (s : State) → Post (IsWorth expression_tokens (expression_meaning room) s) s (expression_with inner s)
expression_with_holds room inner h s =
    Post_taken (IsWorth expression_tokens (expression_meaning room) s) s sign.Minus _
    (λ minus. unsigned_holds room inner h s (behind s) true minus refl)
    (unsigned_holds room inner h s s false refl refl)

pub expression_holds : (room : ℕ) (s : State) → Post (IsWorth expression_tokens (expression_meaning room) s) s (expression room s)
unfolding expression
expression_holds zero s = expression_with_holds zero None tt s
expression_holds (suc room) s = expression_with_holds (suc room) (Some (expression room)) (expression_holds room) s
