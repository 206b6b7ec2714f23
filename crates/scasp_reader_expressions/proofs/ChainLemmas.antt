-- Operations one behind the other: none more, or one more.
use Rattle.std.proofs.Common.{◌≡◌, ℕ, zero, suc, ◌-◌, ◌<◌, Bool, Option, None, Some, Result, Ok, Err, refl, sym, ap, ◌∙◌, arith}
use Rattle.scasp_reader_tokens.specs.declared.sign.Sign.TheVariants as sign
use Rattle.scasp_reader_tokens.specs.declared.token.Token.{Token}
use Rattle.scasp_reader_terms.specs.declared.fault.Fault.{Fault}
use Rattle.scasp_reader_terms.specs.declared.fault.Stop.{Stop}
use Rattle.scasp_reader_terms.specs.declared.fault.Stop.TheVariants.{At, Memory}
use Rattle.scasp_reader_terms.specs.Steps.{Read, State, Does, place_of, token_of, taken, behind}
use Rattle.scasp_reader_terms.specs.Terms.{below}
use Rattle.scasp_reader_expressions.specs.declared.sums.Operation.{Operation}
use Rattle.scasp_reader_expressions.specs.declared.values.Value.{Value}
use Rattle.scasp_reader_expressions.specs.Values.{operated, negated}
use Rattle.scasp_reader_expressions.specs.Expressions.{operation_behind, repeated, chain, product_operation, product, expression_with, expression}

module _ (sign_of : Option Token → Option Operation) (operand : Read Value) (n : ℕ) (e : Value) (s : State) where
  pub repeated_none : sign_of (token_of s.tokens) ≡ None → repeated sign_of operand n e s ≡ Ok (e, s)
  repeated_none h = by n
    where
      by : (m : ℕ) → repeated sign_of operand m e s ≡ Ok (e, s)
      by zero = refl
      by (suc m) = rw (h, repeated) refl

  module _ (some : 0 < n) (o : Operation) (is_sign : sign_of (token_of s.tokens) ≡ Some o) where
    pub repeated_more : (f : Value) (t : State) → operation_behind operand o (place_of s.tokens) e s ≡ Ok (f, t) → repeated sign_of operand n e s ≡ repeated sign_of operand (n - 1) f t
    repeated_more f t h = by n some
      where
        by : (m : ℕ) → 0 < m → repeated sign_of operand m e s ≡ repeated sign_of operand (m - 1) f t
        by zero q = absurd (omega arith)
        by (suc m) q = let k : suc m - 1 ≡ m = omega arith in rw (is_sign, repeated) (rw h (ap (λ i. repeated sign_of operand i f t) (sym k)))

    pub repeated_stops : (fault : Fault) → operation_behind operand o (place_of s.tokens) e s ≡ Err fault → repeated sign_of operand n e s ≡ Err fault
    repeated_stops fault h = by n some
      where
        by : (m : ℕ) → 0 < m → repeated sign_of operand m e s ≡ Err fault
        by zero q = absurd (omega arith)
        by (suc m) q = rw (is_sign, repeated) (rw h refl)

pub expression-is : (room : ℕ) → expression room ≡ expression_with (below expression room)
unfolding expression
expression-is zero = refl
expression-is (suc room) = refl

-- a step that goes on like another one, which is begun later
pub Does_on : {A B : Type 0} (view : B → A) (f g : Read A) (old mid : State) (r : Result B Stop) (new : State) → f old ≡ g mid → Does view g mid r new → Does view f old r new
Does_on view f g old mid (Ok x) new e d = e ∙ d
Does_on view f g old mid (Err (At fault)) new e d = e ∙ d
Does_on view f g old mid (Err Memory) new e d = tt

-- a step that stops where another one stops, which is begun later
pub Does_stops : {A B C D : Type 0} (view : B → A) (later : D → C) (f : Read A) (g : Read C) (old mid : State) (r : Result B Stop) (stop : Stop) (new new2 : State)
    → ((fault : Fault) → g mid ≡ Err fault → f old ≡ Err fault) → r ≡ Err stop → Does later g mid (Err stop) new → Does view f old r new2
Does_stops view later f g old mid r (At fault) new new2 h e d = rw e (h fault d)
Does_stops view later f g old mid r Memory new new2 h e d = rw e tt

pub operation_on : (operand : Read Value) (o : Operation) (at : ℕ) (e f : Value) (s t : State) → operand (behind s) ≡ Ok (f, t) → operation_behind operand o at e s ≡ operated o at e f t
operation_on operand o at e f s t h = rw h refl

module _ (room : ℕ) (s s1 : State) (minus : Bool) (is_taken : taken sign.Minus s ≡ Ok (minus, s1)) where
  pub expression_on : (e : Value) (s2 : State) → product (below expression room) s1 ≡ Ok (e, s2) → expression room s ≡ chain product_operation (product (below expression room)) (negated minus e) s2
  expression_on e s2 h = ap (λ f. f s) (expression-is room) ∙ rw is_taken (rw h refl)

  pub expression_stops : (fault : Fault) → product (below expression room) s1 ≡ Err fault → expression room s ≡ Err fault
  expression_stops fault h = ap (λ f. f s) (expression-is room) ∙ rw is_taken (rw h refl)
