-- The tokens of an item that means something are read as this item.
use Rattle.std.proofs.Common.{◌≡◌, ℕ, Bool, true, false, ◌&&◌, ◌||◌, if◌then◌else◌, List, ◌∷◌, ◌++◌, length, slice_get, Option, None, Some, is_none, is_some, Ok, refl, sym, ap, ◌∙◌, append_assoc}
use Rattle.std.proofs.lemmas.Option.{slice_get-map}
use Rattle.scasp_num.specs.Number.{Number}
use Rattle.scasp_num.specs.Linear.{Linear}
use Rattle.scasp_num.specs.declared.linear.Op.{Op}
use Rattle.scasp_syntax.specs.Tm.{Tm, app, items, listed}
use Rattle.scasp_syntax.specs.declared.atom.Atom.{Atom as MeantAtom}
use Rattle.scasp_syntax.specs.declared.clause.Item.{Item as MeantItem}
use Rattle.scasp_reader_tokens.specs.declared.sign.Sign.TheVariants as sign
use Rattle.scasp_reader_tokens.specs.declared.token.Token.{Token}
use Rattle.scasp_reader_tokens.specs.declared.token.Token.TheVariants as token
use Rattle.scasp_reader_tokens.specs.declared.token.Placed.{Placed}
use Rattle.scasp_reader_terms.specs.declared.fault.Kind.TheVariants as kind
use Rattle.scasp_reader_terms.specs.Names.{place_in}
use Rattle.scasp_reader_terms.specs.Steps.{State, then_read, ◌>>=◌, give, get, stop_at, note_if, behind, place_of, token_of, is_sign}
use Rattle.scasp_reader_terms.specs.Terms.{arguments, term, below}
use Rattle.scasp_reader_expressions.specs.Values.{united}
use Rattle.scasp_reader_expressions.specs.Expressions.{expression}
use Rattle.scasp_reader.specs.declared.bodies.atoms.TheConstants.{DEPTH_LIMIT}
use Rattle.scasp_reader.specs.Bodies.Atoms.{reserved, is_reserved, atom_of, checked_atom, atom_behind, atom}
use Rattle.scasp_reader.specs.Bodies.Items.{call_of, equation_of, linear_of, equation_sign, relation, equation_behind, term_behind, equation, name_behind, named_item, literal, row_between, relation_behind, comparison, nth_token, is_number, is_variable, is_name, begins_negation, begins_equation, unnamed_item, item_at, item}
use Rattle.scasp_law_program_text.specs.Grammar.Known.{Known, Make, then_make}
use Rattle.scasp_law_program_text.specs.Grammar.Trees.{Term, a_variable, a_number, a_fraction, a_name, an_empty_list, a_list, a_list_with, Arguments, Expression, an_expression, Products, no_products, plus, minus, a_product, Factors, no_factors, times, over, a_number_factor, a_variable_factor, a_bracket, Atom, Item, a_call, a_negative_call, an_equation, a_disequation, a_comparison}
use Rattle.scasp_law_program_text.specs.Grammar.Spelling.{minus_if, term_tokens, arguments_tokens, expression_tokens, products_tokens, factors_tokens, atom_tokens, item_tokens}
use Rattle.scasp_law_program_text.specs.Grammar.Terms.{term_meaning, arguments_meaning}
use Rattle.scasp_law_program_text.specs.Grammar.Expressions.{Worth, expression_meaning}
use Rattle.scasp_law_program_text.specs.Grammar.Bodies.{allowed_atom, atom_meaning, call_meaning, equation_meaning, linear_item, comparison_meaning, item_meaning}
use Rattle.scasp_law_program_text.specs.Grammar.Bodies as meant
use Rattle.scasp_law_program_text.proofs.GrammarLemmas.Steps.{known}
use Rattle.scasp_law_program_text.proofs.GrammarLemmas.Leaves.{append-minus}
use Rattle.scasp_law_program_text.proofs.GrammarLemmas.Terms.{behind_name}
use Rattle.scasp_law_program_text.proofs.GrammarLemmas.Expressions.{valued}
use Rattle.scasp_law_program_text.proofs.GrammarLemmas.Items.{equal_sign}
use Rattle.scasp_law_program_text.proofs.GrammarLemmas.Given.{first, same, At, next-is, At_behind, At_so, Gives, Gives_by, so-is, Gives_ok, Gives_so, Gives_then, made, only-made, not-nothing, Gives_bind, Gives_taken, Gives_not_taken, Gives_note}
use Rattle.scasp_law_program_text.proofs.GrammarLemmas.GivenTerms.{EndsTerm, term-given, arguments-given}
use Rattle.scasp_law_program_text.proofs.GrammarLemmas.GivenExpressions.{EndsExpression, expression-given}

-- behind an item nothing stands that would go on with it
pub record EndsItem (rest : List Token) : Type 0 where
  pub term : EndsTerm rest
  pub expression : EndsExpression rest
  pub no_equation : equation_sign (first rest) ≡ None
  pub no_relation : relation (first rest) ≡ None

-- ---- atoms

checked-given : (at : ℕ) (is_negated : Bool) (text : List ℕ) (f : ℕ) (ts : List Tm) (s : State) (rest : List Token) (x : MeantAtom) (l : Known) → At rest s → allowed_atom is_negated text f ts (known s) ≡ Some (x, l)
    → Gives x rest l (checked_atom at is_negated text f (listed ts) s)
checked-given at is_negated text f ts s rest x l h e =
    let (past, rest_meant) = not-nothing (is_reserved reserved text (length (items (listed ts)))) (λ k. Some (atom_of is_negated f (listed ts), k)) (known s) x l e in
    Gives_note x rest l s (is_reserved reserved text (length (items (listed ts)))) at kind.Unsupported (λ n. give (atom_of is_negated f (listed ts))) past (Gives_ok same (atom_of is_negated f (listed ts)) x rest s l h rest_meant)

-- behind a name
behind-given : (args : Arguments) (text : List ℕ) (s : State) (rest : List Token) (ts : List Tm) (k : Known) → At (token.Name text ∷ (arguments_tokens args ++ rest)) s → is_sign sign.Open (first rest) ≡ false
    → arguments_meaning DEPTH_LIMIT args (known (behind_name text s)) ≡ Some (ts, k) → Gives ts rest k (arguments (below term DEPTH_LIMIT) (behind_name text s))
behind-given args text s rest ts k h ends e = arguments-given args DEPTH_LIMIT (behind_name text s) rest ts k (record { tokens = (At_behind _ _ s h).tokens; fault = h.fault }) ends e

named-given : (at : ℕ) (is_negated : Bool) (text : List ℕ) (args : Arguments) (s : State) (rest : List Token) (x : MeantAtom) (l : Known) → At (token.Name text ∷ (arguments_tokens args ++ rest)) s → is_sign sign.Open (first rest) ≡ false
    → atom_meaning (record { is_negated = is_negated; name = text; arguments = args }) (known s) ≡ Some (x, l) → Gives x rest l (atom_behind at is_negated (token_of s.tokens) s)
named-given at is_negated text args s rest x l h ends e =
    let u = behind_name text s in
    Gives_by x rest l _ _ (ap (λ o. atom_behind at is_negated o s) (next-is _ s h))
    (Gives_bind same x x rest rest l (arguments (below term DEPTH_LIMIT) u) (λ ts. checked_atom at is_negated text (place_in s.names text) (listed ts)) (arguments_meaning DEPTH_LIMIT args (known u))
    (λ ts. allowed_atom is_negated text (place_in s.names text) ts) e
    (λ ts k i. behind-given args text s rest ts k h ends i)
    (λ ts t there i. checked-given at is_negated text (place_in s.names text) ts t rest x l there i))

pub atom-given : (a : Atom) (s : State) (rest : List Token) (x : MeantAtom) (l : Known) → At (atom_tokens a ++ rest) s → is_sign sign.Open (first rest) ≡ false → atom_meaning a (known s) ≡ Some (x, l) → Gives x rest l (atom s)
atom-given a s rest x l h ends e =
    by a.is_negated e (At_so _ (minus_if a.is_negated ++ token.Name a.name ∷ (arguments_tokens a.arguments ++ rest)) s h (sym (append-minus a.is_negated (token.Name a.name) (arguments_tokens a.arguments) rest)))
  where
    by : (is_negated : Bool) → atom_meaning (record { is_negated = is_negated; name = a.name; arguments = a.arguments }) (known s) ≡ Some (x, l)
        → At (minus_if is_negated ++ token.Name a.name ∷ (arguments_tokens a.arguments ++ rest)) s → Gives x rest l (atom s)
    by true e h =
        Gives_taken x rest l s sign.Minus (token.Name a.name ∷ (arguments_tokens a.arguments ++ rest)) (λ is_negated. λ t. atom_behind (place_of s.tokens) is_negated (token_of t.tokens) t) h refl
        (λ there. named-given (place_of s.tokens) true a.name a.arguments (behind s) rest x l there ends e)
    by false e h =
        Gives_not_taken x rest l s sign.Minus (token.Name a.name ∷ (arguments_tokens a.arguments ++ rest)) (λ is_negated. λ t. atom_behind (place_of s.tokens) is_negated (token_of t.tokens) t) h refl
        (named-given (place_of s.tokens) false a.name a.arguments s rest x l h ends e)

-- an atom as a literal
literal-given : (at : ℕ) (positive : Bool) (a : Atom) (s : State) (rest : List Token) (x : MeantItem) (l : Known) → At (atom_tokens a ++ rest) s → EndsItem rest → call_meaning positive a (known s) ≡ Some (x, l)
    → Gives x rest l (literal at positive s)
literal-given at positive a s rest x l h ends e =
    Gives_bind same x x rest rest l (atom s) (λ a. get (λ s. is_some (relation (token_of s.tokens))) >>= (λ r. if positive && r then stop_at at kind.NotLinear else give (call_of positive a))) (atom_meaning a (known s)) _ e
    (λ y k i. atom-given a s rest y k h ends.term.not_open i)
    (λ y t there i. Gives_by x rest l _ _
    (ap (λ o. (if positive && is_some o then stop_at at kind.NotLinear else give (call_of positive y)) t) (ap relation (next-is rest t there) ∙ ends.no_relation)
    ∙ ap (λ b. (if b then stop_at at kind.NotLinear else give (call_of positive y)) t) (never positive))
    (Gives_ok same (call_of positive y) x rest t l there i))
  where
    never : (b : Bool) → (b && false) ≡ false
    never true = refl
    never false = refl

-- ---- equations

ends-equal : (are_equal : Bool) (ts : List Token) → EndsTerm (token.Sign (equal_sign are_equal) ∷ ts)
ends-equal true ts = record { not_over = refl; not_open = refl }
ends-equal false ts = record { not_over = refl; not_open = refl }

sign-is : (are_equal : Bool) → equation_sign (Some (token.Sign (equal_sign are_equal))) ≡ Some are_equal
sign-is true = refl
sign-is false = refl

module _ (are_equal : Bool) (r : Term) (rest : List Token) (ends : EndsItem rest) (x : MeantItem) (l : Known) where
  -- the sign, and the other side
  abbrev other_side : List Token
  other_side = token.Sign (equal_sign are_equal) ∷ (term_tokens r ++ rest)

  -- what the other side means, behind one side
  abbrev completed : Tm → Make MeantItem
  completed y k = then_make (term_meaning DEPTH_LIMIT r k) (λ z k. Some (equation_of are_equal y z, k))

  equation_behind-given : (y : Tm) (s : State) → At other_side s → completed y (known s) ≡ Some (x, l) → Gives x rest l (equation_behind y are_equal s)
  equation_behind-given y s h e =
      Gives_bind same x x rest rest l (term DEPTH_LIMIT (behind s)) (λ z. give (equation_of are_equal y z)) (term_meaning DEPTH_LIMIT r (known s)) _ e
      (λ z k i. term-given r DEPTH_LIMIT (behind s) rest z k (At_behind _ _ s h) ends.term i)
      (λ z t there i. Gives_ok same (equation_of are_equal y z) x rest t l there i)

  equation-given : (left : Term) (s : State) → At (term_tokens left ++ other_side) s → equation_meaning are_equal left r (known s) ≡ Some (x, l) → Gives x rest l (equation s)
  equation-given left s h e =
      Gives_bind same x x other_side rest l (term DEPTH_LIMIT s) (λ y. λ t. term_behind (place_of s.tokens) y (equation_sign (token_of t.tokens)) t) (term_meaning DEPTH_LIMIT left (known s)) completed e
      (λ y k i. term-given left DEPTH_LIMIT s other_side y k h (ends-equal are_equal (term_tokens r ++ rest)) i)
      (λ y t there i. Gives_by x rest l _ _ (ap (λ o. term_behind (place_of s.tokens) y o t) (ap equation_sign (next-is _ t there) ∙ sign-is are_equal)) (equation_behind-given y t there i))

  -- one that begins with a name
  named_equation-given : (at : ℕ) (text : List ℕ) (args : Arguments) (s : State) → At (token.Name text ∷ (arguments_tokens args ++ other_side)) s → equation_meaning are_equal (a_name text args) r (known s) ≡ Some (x, l)
      → Gives x rest l (named_item at text s)
  named_equation-given at text args s h e =
      let u = behind_name text s in
      let f = place_in s.names text in
      let m = made (term_meaning DEPTH_LIMIT (a_name text args) (known s)) completed x l e in
      let n = made (arguments_meaning DEPTH_LIMIT args (known u)) (λ ts k. Some (app f (listed ts), k)) m.value m.between m.first in
      Gives_then n.value x other_side rest n.between l (arguments (below term DEPTH_LIMIT) u) (λ ts. λ t. name_behind at text f (listed ts) (equation_sign (token_of t.tokens)) t)
      (behind-given args text s other_side n.value n.between h (ends-equal are_equal (term_tokens r ++ rest)).not_open n.first)
      (λ t there knows. Gives_by x rest l _ _ (ap (λ o. name_behind at text f (listed n.value) o t) (ap equation_sign (next-is _ t there) ∙ sign-is are_equal))
      (equation_behind-given (app f (listed n.value)) t there
      (ap (λ k. completed (app f (listed n.value)) k) knows ∙ so-is completed (app f (listed n.value)) m.value n.between m.between n.rest ∙ m.rest)))

-- ---- calls that begin with a name

named_call-given : (at : ℕ) (text : List ℕ) (args : Arguments) (s : State) (rest : List Token) (x : MeantItem) (l : Known) → At (token.Name text ∷ (arguments_tokens args ++ rest)) s → EndsItem rest
    → call_meaning true (record { is_negated = false; name = text; arguments = args }) (known s) ≡ Some (x, l) → Gives x rest l (named_item at text s)
named_call-given at text args s rest x l h ends e =
    let u = behind_name text s in
    let f = place_in s.names text in
    let m = made (atom_meaning (record { is_negated = false; name = text; arguments = args }) (known s)) (λ a k. Some (call_of true a, k)) x l e in
    Gives_so same (call_of true m.value) x rest m.between l _
    (Gives_bind same (call_of true m.value) m.value rest rest m.between (arguments (below term DEPTH_LIMIT) u) (λ ts. λ t. name_behind at text f (listed ts) (equation_sign (token_of t.tokens)) t)
    (arguments_meaning DEPTH_LIMIT args (known u)) (λ ts. allowed_atom false text f ts) m.first
    (λ ts k i. behind-given args text s rest ts k h ends.term.not_open i)
    (λ ts t there i. Gives_by (call_of true m.value) rest m.between _ _
    (ap (λ o. name_behind at text f (listed ts) o t) (ap equation_sign (next-is rest t there) ∙ ends.no_equation)
    ∙ ap (λ o. (if is_some o then stop_at at kind.NotLinear else (checked_atom at false text f (listed ts) >>= (λ a. give (call_of true a)))) t) (ap relation (next-is rest t there) ∙ ends.no_relation))
    (Gives_then m.value (call_of true m.value) rest rest m.between m.between (checked_atom at false text f (listed ts) t) (λ a. give (call_of true a)) (checked-given at false text f ts t rest m.value m.between there i)
    (λ v after knows. record { state = v; is = refl; there = after; knows = knows }))))
    m.rest

-- ---- comparisons

row-given : (o : Op) (is_turned : Bool) (at : ℕ) (w v : Worth) (row : Linear) (s : State) → meant.row_between o is_turned w v ≡ Some row
    → then_read (row_between (record { op = o; is_turned = is_turned }) at (Some w.sum) (Some v.sum) s) (λ row. give (linear_of (united w.variables v.variables) row)) ≡ Ok (linear_item w v row, s)
row-given o true at w v row s e =
    ap (λ z. then_read (then_read (note_if (is_none z) at kind.NumberTooLarge s) (λ n. give z)) (λ row. give (linear_of (united w.variables v.variables) row))) e
row-given o false at w v row s e =
    ap (λ z. then_read (then_read (note_if (is_none z) at kind.NumberTooLarge s) (λ n. give z)) (λ row. give (linear_of (united w.variables v.variables) row))) e

comparison-given : (left : Expression) (o : Op) (is_turned : Bool) (r : Expression) (s : State) (rest : List Token) (x : MeantItem) (l : Known)
    → At (expression_tokens left ++ token.Sign (sign.Relation o is_turned) ∷ (expression_tokens r ++ rest)) s → EndsItem rest → comparison_meaning left o is_turned r (known s) ≡ Some (x, l) → Gives x rest l (comparison s)
comparison-given left o is_turned r s rest x l h ends e =
    let after = token.Sign (sign.Relation o is_turned) ∷ (expression_tokens r ++ rest) in
    Gives_bind valued x x after rest l (expression DEPTH_LIMIT s) (λ e. λ t. relation_behind e (place_of t.tokens) (relation (token_of t.tokens)) t) (expression_meaning DEPTH_LIMIT left (known s)) _ e
    (λ w k i. expression-given left DEPTH_LIMIT s after w k h (record { no_factor = refl; no_product = refl }) i)
    (λ w t there i. Gives_by x rest l _ _ (ap (λ q. relation_behind (valued w) (place_of t.tokens) q t) (ap relation (next-is _ t there)))
    (Gives_bind valued x x rest rest l (expression DEPTH_LIMIT (behind t))
    (λ f. row_between (record { op = o; is_turned = is_turned }) (place_of t.tokens) (Some w.sum) f.sum >>= (λ row. give (linear_of (united w.variables f.variables) row))) (expression_meaning DEPTH_LIMIT r (known t)) _ i
    (λ v k j. expression-given r DEPTH_LIMIT (behind t) rest v k (At_behind _ _ t there) ends.expression j)
    (λ v u right j.
    let (row, is, rest_meant) = only-made (meant.row_between o is_turned w v) (λ row k. Some (linear_item w v row, k)) (known u) x l j in
    Gives_by x rest l _ _ (row-given o is_turned (place_of t.tokens) w v row u is) (Gives_ok same (linear_item w v row) x rest u l right rest_meant))))

-- ---- what tokens begin

abbrev is_equal : Option Token → Bool
is_equal o = is_some (equation_sign o)

abbrev number_by : Option Token → Option Token → Option Token → Option Token → Bool
number_by a b c d = is_number a && (is_equal b || (is_sign sign.Over b && is_number c && is_equal d))

abbrev equation_by : Option Token → Option Token → Option Token → Option Token → Option Token → Bool
equation_by a b c d e = (is_variable a && is_equal b) || number_by a b c d || (is_sign sign.Minus a && number_by b c d e)

abbrev begins_as_equation : List Token → Bool
begins_as_equation ts = equation_by (slice_get ts 0) (slice_get ts 1) (slice_get ts 2) (slice_get ts 3) (slice_get ts 4)

abbrev begins_as_negation : List Token → Bool
begins_as_negation ts = is_sign sign.Minus (slice_get ts 0) && is_name (slice_get ts 1)

nth-is : (ts : List Token) (s : State) (n : ℕ) → At ts s → nth_token s.tokens n ≡ slice_get ts n
nth-is ts s n h = sym (slice_get-map (λ (t : Placed). t.token) s.tokens n) ∙ ap (λ ts. slice_get ts n) h.tokens

negation-is : (ts : List Token) (s : State) → At ts s → begins_negation s.tokens ≡ begins_as_negation ts
negation-is ts s h = ap (λ a. is_sign sign.Minus a && is_name (nth_token s.tokens 1)) (nth-is ts s 0 h) ∙ ap (λ b. is_sign sign.Minus (slice_get ts 0) && is_name b) (nth-is ts s 1 h)

equation-is : (ts : List Token) (s : State) → At ts s → begins_equation s.tokens ≡ begins_as_equation ts
equation-is ts s h =
    let n = nth_token s.tokens in
    ap (λ a. equation_by a (n 1) (n 2) (n 3) (n 4)) (nth-is ts s 0 h)
    ∙ ap (λ b. equation_by (slice_get ts 0) b (n 2) (n 3) (n 4)) (nth-is ts s 1 h)
    ∙ ap (λ c. equation_by (slice_get ts 0) (slice_get ts 1) c (n 3) (n 4)) (nth-is ts s 2 h)
    ∙ ap (λ d. equation_by (slice_get ts 0) (slice_get ts 1) (slice_get ts 2) d (n 4)) (nth-is ts s 3 h)
    ∙ ap (λ e. equation_by (slice_get ts 0) (slice_get ts 1) (slice_get ts 2) (slice_get ts 3) e) (nth-is ts s 4 h)

module _ (at : ℕ) (ts : List Token) (s : State) (h : At ts s) where
  unnamed-literal : begins_as_negation ts ≡ true → unnamed_item at s ≡ literal at true s
  unnamed-literal e = ap (λ b. if b then literal at true s else (if begins_equation s.tokens then equation s else comparison s)) (negation-is ts s h ∙ e)

  unnamed-equation : begins_as_negation ts ≡ false → begins_as_equation ts ≡ true → unnamed_item at s ≡ equation s
  unnamed-equation e f =
      ap (λ b. if b then literal at true s else (if begins_equation s.tokens then equation s else comparison s)) (negation-is ts s h ∙ e)
      ∙ ap (λ b. if b then equation s else comparison s) (equation-is ts s h ∙ f)

  unnamed-comparison : begins_as_negation ts ≡ false → begins_as_equation ts ≡ false → unnamed_item at s ≡ comparison s
  unnamed-comparison e f =
      ap (λ b. if b then literal at true s else (if begins_equation s.tokens then equation s else comparison s)) (negation-is ts s h ∙ e)
      ∙ ap (λ b. if b then equation s else comparison s) (equation-is ts s h ∙ f)

item-at : (ts : List Token) (s : State) → At ts s → item s ≡ item_at (place_of s.tokens) (first ts) s
unfolding item
item-at ts s h = ap (λ o. item_at (place_of s.tokens) o s) (next-is ts s h)

-- behind a factor no sign of equations stands, nor behind one more number
module _ (o : Op) (is_turned : Bool) (more : List Token) where
  abbrev related : List Token
  related = token.Sign (sign.Relation o is_turned) ∷ more

  factor-quiet : (fs : Factors) (ps : Products) → is_equal (slice_get ((factors_tokens fs ++ products_tokens ps) ++ related) 0) ≡ false
  factor-quiet no_factors no_products = refl
  factor-quiet no_factors (plus p ps) = refl
  factor-quiet no_factors (minus p ps) = refl
  factor-quiet (times f fs) ps = refl
  factor-quiet (over f fs) ps = refl

  number-quiet : (q : Option Number) (fs : Factors) (ps : Products)
      → (let us = (factors_tokens fs ++ products_tokens ps) ++ related in number_by (Some (token.Number q)) (slice_get us 0) (slice_get us 1) (slice_get us 2)) ≡ false
  number-quiet q no_factors no_products = refl
  number-quiet q no_factors (plus p ps) = refl
  number-quiet q no_factors (minus p ps) = refl
  number-quiet q (times f fs) ps = refl
  number-quiet q (over (a_number_factor p) fs) ps = factor-quiet fs ps
  number-quiet q (over (a_variable_factor text) fs) ps = refl
  number-quiet q (over (a_bracket e) fs) ps = refl

  neither : (x y z : Bool) → x ≡ false → y ≡ false → z ≡ false → (x || y || z) ≡ false
  neither false false false e f g = refl
  neither x y z e f g = absurd cc

  compares : (left : Expression) → begins_as_equation (expression_tokens left ++ related) ≡ false
  compares (an_expression false (a_product (a_number_factor q) fs) ps) = neither _ _ _ refl (number-quiet q fs ps) refl
  compares (an_expression false (a_product (a_variable_factor text) fs) ps) = neither _ _ _ (factor-quiet fs ps) refl refl
  compares (an_expression false (a_product (a_bracket e) fs) ps) = refl
  compares (an_expression true (a_product (a_number_factor q) fs) ps) = neither _ _ _ refl refl (number-quiet q fs ps)
  compares (an_expression true (a_product (a_variable_factor text) fs) ps) = refl
  compares (an_expression true (a_product (a_bracket e) fs) ps) = refl

  no-negation : (left : Expression) → begins_as_negation (expression_tokens left ++ related) ≡ false
  no-negation (an_expression false (a_product (a_number_factor q) fs) ps) = refl
  no-negation (an_expression false (a_product (a_variable_factor text) fs) ps) = refl
  no-negation (an_expression false (a_product (a_bracket e) fs) ps) = refl
  no-negation (an_expression true (a_product (a_number_factor q) fs) ps) = refl
  no-negation (an_expression true (a_product (a_variable_factor text) fs) ps) = refl
  no-negation (an_expression true (a_product (a_bracket e) fs) ps) = refl

  unnamed : (left : Expression) (at : ℕ) (s : State) → item_at at (first (expression_tokens left ++ related)) s ≡ unnamed_item at s
  unnamed (an_expression false (a_product (a_number_factor q) fs) ps) at s = refl
  unnamed (an_expression false (a_product (a_variable_factor text) fs) ps) at s = refl
  unnamed (an_expression false (a_product (a_bracket e) fs) ps) at s = refl
  unnamed (an_expression true (a_product (a_number_factor q) fs) ps) at s = refl
  unnamed (an_expression true (a_product (a_variable_factor text) fs) ps) at s = refl
  unnamed (an_expression true (a_product (a_bracket e) fs) ps) at s = refl

-- ---- items

module _ (s : State) (rest : List Token) (ends : EndsItem rest) (x : MeantItem) (l : Known) where
  abbrev at : ℕ
  at = place_of s.tokens

  equation_item-given : (are_equal : Bool) (left r : Term) → At (term_tokens left ++ token.Sign (equal_sign are_equal) ∷ (term_tokens r ++ rest)) s → equation_meaning are_equal left r (known s) ≡ Some (x, l) → Gives x rest l (item s)
  equation_item-given are_equal left r h e = Gives_by x rest l _ _ (item-at _ s h) (by left are_equal h e)
    where
      by : (left : Term) (b : Bool) → At (term_tokens left ++ token.Sign (equal_sign b) ∷ (term_tokens r ++ rest)) s → equation_meaning b left r (known s) ≡ Some (x, l)
          → Gives x rest l (item_at (place_of s.tokens) (first (term_tokens left ++ token.Sign (equal_sign b) ∷ (term_tokens r ++ rest))) s)
      by (a_variable text) true h e = Gives_by x rest l _ _ (unnamed-equation at _ s h refl refl) (equation-given true r rest ends x l (a_variable text) s h e)
      by (a_variable text) false h e = Gives_by x rest l _ _ (unnamed-equation at _ s h refl refl) (equation-given false r rest ends x l (a_variable text) s h e)
      by (a_number true p) true h e = Gives_by x rest l _ _ (unnamed-equation at _ s h refl refl) (equation-given true r rest ends x l (a_number true p) s h e)
      by (a_number true p) false h e = Gives_by x rest l _ _ (unnamed-equation at _ s h refl refl) (equation-given false r rest ends x l (a_number true p) s h e)
      by (a_number false p) true h e = Gives_by x rest l _ _ (unnamed-equation at _ s h refl refl) (equation-given true r rest ends x l (a_number false p) s h e)
      by (a_number false p) false h e = Gives_by x rest l _ _ (unnamed-equation at _ s h refl refl) (equation-given false r rest ends x l (a_number false p) s h e)
      by (a_fraction true p q) true h e = Gives_by x rest l _ _ (unnamed-equation at _ s h refl refl) (equation-given true r rest ends x l (a_fraction true p q) s h e)
      by (a_fraction true p q) false h e = Gives_by x rest l _ _ (unnamed-equation at _ s h refl refl) (equation-given false r rest ends x l (a_fraction true p q) s h e)
      by (a_fraction false p q) true h e = Gives_by x rest l _ _ (unnamed-equation at _ s h refl refl) (equation-given true r rest ends x l (a_fraction false p q) s h e)
      by (a_fraction false p q) false h e = Gives_by x rest l _ _ (unnamed-equation at _ s h refl refl) (equation-given false r rest ends x l (a_fraction false p q) s h e)
      by (a_name text args) b h e = named_equation-given b r rest ends x l at text args s h e
      by an_empty_list b h e = equation-given b r rest ends x l an_empty_list s h e
      by (a_list ts) b h e = equation-given b r rest ends x l (a_list ts) s h e
      by (a_list_with ts t) b h e = equation-given b r rest ends x l (a_list_with ts t) s h e

  call_item-given : (a : Atom) → At (atom_tokens a ++ rest) s → call_meaning true a (known s) ≡ Some (x, l) → Gives x rest l (item s)
  call_item-given a h e = by a.is_negated h e
    where
      by : (is_negated : Bool) → At ((minus_if is_negated ++ token.Name a.name ∷ arguments_tokens a.arguments) ++ rest) s
          → call_meaning true (record { is_negated = is_negated; name = a.name; arguments = a.arguments }) (known s) ≡ Some (x, l) → Gives x rest l (item s)
      by true h e =
          Gives_by x rest l _ _ (item-at _ s h ∙ unnamed-literal at _ s h refl)
          (literal-given at true (record { is_negated = true; name = a.name; arguments = a.arguments }) s rest x l h ends e)
      by false h e = Gives_by x rest l _ _ (item-at _ s h) (named_call-given at a.name a.arguments s rest x l h ends e)

  pub item-given : (i : Item) → At (item_tokens i ++ rest) s → item_meaning i (known s) ≡ Some (x, l) → Gives x rest l (item s)
  item-given (a_call a) h e = call_item-given a h e
  item-given (a_negative_call a) h e = Gives_by x rest l _ _ (item-at _ s h) (literal-given at false a (behind s) rest x l (At_behind _ _ s h) ends e)
  item-given (an_equation left r) h e = equation_item-given true left r (At_so _ _ s h (append_assoc (term_tokens left) (token.Sign sign.Equal ∷ term_tokens r) rest)) e
  item-given (a_disequation left r) h e = equation_item-given false left r (At_so _ _ s h (append_assoc (term_tokens left) (token.Sign sign.Differ ∷ term_tokens r) rest)) e
  item-given (a_comparison left o is_turned r) h e =
      let after = token.Sign (sign.Relation o is_turned) ∷ (expression_tokens r ++ rest) in
      let g = At_so _ (expression_tokens left ++ after) s h (append_assoc (expression_tokens left) (token.Sign (sign.Relation o is_turned) ∷ expression_tokens r) rest) in
      let more = expression_tokens r ++ rest in
      Gives_by x rest l _ _ (item-at _ s g ∙ unnamed o is_turned more left at s ∙ unnamed-comparison at _ s g (no-negation o is_turned more left) (compares o is_turned more left))
      (comparison-given left o is_turned r s rest x l g ends e)
