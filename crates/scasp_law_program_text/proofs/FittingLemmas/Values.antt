-- The variables of an expression that is read are listed in it.
use Rattle.std.proofs.Common.{◌≡◌, ℕ, zero, suc, ◌≤◌, Bool, true, false, if◌then◌else◌, [], length, Option, None, Some, is_none, option_map, Ok, refl, sym, ap, subst, arith}
use Rattle.scasp_reader_tokens.specs.declared.sign.Sign.{Sign}
use Rattle.scasp_reader_tokens.specs.declared.sign.Sign.TheVariants as sign
use Rattle.scasp_reader_tokens.specs.declared.token.Token.{Token}
use Rattle.scasp_reader_tokens.specs.declared.token.Token.TheVariants as token
use Rattle.scasp_reader_terms.specs.declared.fault.Kind.TheVariants as kind
use Rattle.scasp_reader_terms.specs.Steps.{State, Read, ◌>>=◌, give, behind, place_of, token_of}
use Rattle.scasp_reader_terms.specs.Names.{has_own_number}
use Rattle.scasp_reader_terms.specs.Terms.{inside}
use Rattle.scasp_reader_expressions.specs.declared.sums.Operation.{Operation}
use Rattle.scasp_reader_expressions.specs.declared.sums.Sum.{Sum}
use Rattle.scasp_reader_expressions.specs.declared.values.Value.{Value}
use Rattle.scasp_reader_expressions.specs.Sums.{constant_sum, worked}
use Rattle.scasp_reader_expressions.specs.Values.{united, value_of, is_linear, made_at, combined, not_linear, operated, negated}
use Rattle.scasp_reader_expressions.specs.Expressions.{variable_value, bracket_in, factor_at_sign, factor_at, factor, operation_behind, repeated, factor_operation, product_operation, product, expression_with, expression}
use Rattle.scasp_print_program.specs.Terms.{Style}
use Rattle.scasp_law_program_text.specs.TermFitting.Readers.{known, IsReader}
use Rattle.scasp_law_program_text.proofs.TermFittingLemmas.Steps.{more_variables, follows_behind, reader_behind, reader_in, Post, Post_give, Post_err, Post_from, Post_then, IsNext, next_is, Post_taken, Post_note, between_holds}
use Rattle.scasp_law_program_text.proofs.TermFittingLemmas.Names.{IsVariable, variable_at_holds}
use Rattle.scasp_law_program_text.proofs.TermFittingLemmas.Numbers.{IsConstant, number_holds}
use Rattle.scasp_law_program_text.proofs.FittingLemmas.Listed.{IsListed, none-listed, variable-listed, united-listed}

-- the variables of the value are listed
abbrev pub IsValue : ℕ → Value → Style → Type 0
IsValue n e k = IsListed n e.variables k

-- nothing more is known
abbrev pub IsSame : {A : Type 0} → Style → A → Style → Type 0
IsSame old x k = old ≡ k

-- ---- operations

pub made_at_holds : {A : Type 0} (f : Sum → Sum → Option A) (at : ℕ) (a b : Option Sum) (s : State) → IsReader s → Post (IsSame (known s)) s (made_at f at a b s)
made_at_holds f at None b s r = Post_give (IsSame (known s)) s None r (λ fine. refl)
made_at_holds f at (Some a) None s r = Post_give (IsSame (known s)) s None r (λ fine. refl)
made_at_holds f at (Some a) (Some b) s r = Post_note (IsSame (known s)) s r (is_none (f a b)) at kind.NumberTooLarge _ (λ t g same none. Post_give (IsSame (known s)) t (f a b) g.reader (λ fine. same))

operated_holds : (n : ℕ) (o : Operation) (at : ℕ) (e f : Value) (s : State) → IsReader s → (s.fault ≡ None → IsListed n (united e.variables f.variables) (known s)) → Post (IsValue n) s (operated o at e f s)
operated_holds n o at e f s r h = by (is_linear o e f)
  where
    by : (b : Bool) → Post (IsValue n) s ((if b then combined o at e f else not_linear at e f) s)
    by true =
        Post_then (IsSame (known s)) (IsValue n) s _ _ (made_at_holds (worked o) at e.sum f.sum s r)
        (λ sum t g same. Post_give (IsValue n) t (value_of (united e.variables f.variables) sum) g.reader (λ fine. subst (λ k. IsListed n (united e.variables f.variables) k) (same fine) (h (g.fault fine))))
    by false =
        Post_note (IsValue n) s r true at kind.NotLinear (λ u. give (value_of (united e.variables f.variables) None))
        (λ t g same none. Post_give (IsValue n) t (value_of (united e.variables f.variables) None) g.reader (λ fine. subst (λ k. IsListed n (united e.variables f.variables) k) same (h (g.fault fine))))

negated-IsValue : (n : ℕ) (minus : Bool) (e : Value) (k : Style) → IsValue n e k → IsValue n (negated minus e) k
negated-IsValue n true e k h = h
negated-IsValue n false e k h = h

-- ---- factors

-- what is read in a bracket, where one may be opened
abbrev Inside : Option (Read Value) → Type 0
Inside None = Unit {0}
Inside (Some one) = (s : State) → IsReader s → Post (IsValue (length s.variables)) s (one s)

factor_holds : (inner : Option (Read Value)) → Inside inner → (s : State) → IsReader s → Post (IsValue (length s.variables)) s (factor inner s)
factor_holds inner h s r = by (place_of s.tokens) (token_of s.tokens) (next_is s r)
  where
    bracket : (i : Option (Read Value)) → Inside i → Post (IsValue (length s.variables)) s (inside i bracket_in s)
    bracket None h = Post_err (IsValue (length s.variables)) s _
    bracket (Some one) h =
        between_holds (IsValue (length s.variables)) false sign.Open sign.Close one s r (h (record (behind s) { is_in_list = false }) (reader_in false (behind s) (reader_behind s r)))

    sign_by : (g : Sign) → Post (IsValue (length s.variables)) s (factor_at_sign inner g s)
    sign_by sign.Open = bracket inner h
    sign_by g = Post_err (IsValue (length s.variables)) s _

    by : (at : ℕ) (o : Option Token) → IsNext o → Post (IsValue (length s.variables)) s (factor_at inner at o s)
    by at (Some (token.Number q)) k =
        Post_then (IsConstant (known s)) (IsValue (length s.variables)) s _ _ (number_holds s r)
        (λ p t f c. Post_give (IsValue (length s.variables)) t (value_of [] (option_map constant_sum p)) f.reader
        (λ fine. none-listed (length s.variables) (known t) (ap (λ (k : Style). length k.variables) (sym (c fine).0))))
    by at (Some (token.Variable text)) k =
        Post_from (IsValue (length s.variables)) s (behind s) _ (follows_behind s r)
        (Post_then (IsVariable (length s.variables)) (IsValue (length s.variables)) (behind s) _ _ (variable_at_holds at text (behind s) (reader_behind s r) k)
        (λ x t f v. Post_give (IsValue (length s.variables)) t (variable_value (has_own_number x t.fault) x) f.reader (λ fine. variable-listed (length s.variables) x (known t) (v fine))))
    by at (Some (token.Sign g)) k = sign_by g
    by at o k = Post_err (IsValue (length s.variables)) s _

-- ---- operations, one behind the other

module _ (sign_of : Option Token → Option Operation) (operand : Read Value) (h : (s : State) → IsReader s → Post (IsValue (length s.variables)) s (operand s)) where
  operation_holds : (n : ℕ) (o : Operation) (at : ℕ) (e : Value) (s : State) → IsReader s → n ≤ length s.variables → (s.fault ≡ None → IsValue n e (known s))
      → Post (IsValue n) s (operation_behind operand o at e s)
  operation_holds n o at e s r le he =
      Post_from (IsValue n) s (behind s) _ (follows_behind s r)
      (Post_then (IsValue (length s.variables)) (IsValue n) (behind s) _ _ (h (behind s) (reader_behind s r))
      (λ f t g hf. operated_holds n o at e f t g.reader (λ fine. united-listed n e.variables f.variables (known s) (known t) g.variables le (he (g.fault fine)) (hf fine))))

  repeated_holds : (n m : ℕ) (e : Value) (s : State) → IsReader s → n ≤ length s.variables → (s.fault ≡ None → IsValue n e (known s)) → Post (IsValue n) s (repeated sign_of operand m e s)
  repeated_holds n zero e s r le he = Post_give (IsValue n) s e r he
  repeated_holds n (suc m) e s r le he = by (sign_of (token_of s.tokens)) (repeated_holds n m)
    where
      by : (o : Option Operation) → ((f : Value) (t : State) → IsReader t → n ≤ length t.variables → (t.fault ≡ None → IsValue n f (known t)) → Post (IsValue n) t (repeated sign_of operand m f t))
          → Post (IsValue n) s (elim o [ None ↦ Ok (e, s) | Some o ↦ (operation_behind operand o (place_of s.tokens) e >>= repeated sign_of operand m) s ])
      by None rest = Post_give (IsValue n) s e r he
      by (Some o) rest =
          Post_then (IsValue n) (IsValue n) s _ _ (operation_holds n o (place_of s.tokens) e s r le he)
          (λ f t g hf. rest f t g.reader (let more = more_variables s t g in omega (arith, le, more)) hf)

product_holds : (inner : Option (Read Value)) → Inside inner → (s : State) → IsReader s → Post (IsValue (length s.variables)) s (product inner s)
product_holds inner h s r =
    Post_then (IsValue (length s.variables)) (IsValue (length s.variables)) s _ _ (factor_holds inner h s r)
    (λ e t f he. repeated_holds factor_operation (factor inner) (factor_holds inner h) (length s.variables) (length t.tokens) e t f.reader (more_variables s t f) he)

expression_with_holds : (inner : Option (Read Value)) → Inside inner → (s : State) → IsReader s → Post (IsValue (length s.variables)) s (expression_with inner s)
expression_with_holds inner h s r = Post_taken (IsValue (length s.variables)) s r sign.Minus _ (by true (behind s) (reader_behind s r)) (by false s r)
  where
    by : (minus : Bool) (t : State) → IsReader t
        → Post (IsValue (length t.variables)) t ((product inner >>= (λ e. λ v. repeated product_operation (product inner) (length v.tokens) (negated minus e) v)) t)
    by minus t rt =
        Post_then (IsValue (length t.variables)) (IsValue (length t.variables)) t _ _ (product_holds inner h t rt)
        (λ e v f he. repeated_holds product_operation (product inner) (product_holds inner h) (length t.variables) (length v.tokens) (negated minus e) v f.reader (more_variables t v f)
        (λ fine. negated-IsValue (length t.variables) minus e (known v) (he fine)))

pub expression_holds : (room : ℕ) (s : State) → IsReader s → Post (IsValue (length s.variables)) s (expression room s)
unfolding expression
expression_holds zero s r = expression_with_holds None tt s r
expression_holds (suc room) s r = expression_with_holds (Some (expression room)) (expression_holds room) s r
