-- The variables of an expression that is read: they ascend, are among the clause's, and hold those of its sum.
use Rattle.std.proofs.Common.{◌≡◌, ℕ, zero, suc, ◌<◌, Bool, true, false, if◌then◌else◌, List, [], ◌∷◌, length, Option, None, Some, option_map, Ok, refl, subst, arith}
use Rattle.std.specs.List.{Contains}
use Rattle.scasp_list.specs.Each.{Each}
use Rattle.scasp_list.proofs.EachLemmas.{Each-map}
use Rattle.scasp_list.proofs.MemberLemmas.{Contains-here}
use Rattle.scasp_num.specs.declared.linear.RatPair.{RatPair}
use Rattle.scasp_num.specs.Number.{Number}
use Rattle.scasp_reader_tokens.specs.declared.sign.Sign.{Sign}
use Rattle.scasp_reader_tokens.specs.declared.sign.Sign.TheVariants as sign
use Rattle.scasp_reader_tokens.specs.declared.token.Token.{Token}
use Rattle.scasp_reader_tokens.specs.declared.token.Token.TheVariants as token
use Rattle.scasp_reader_terms.specs.Steps.{State, Read, ◌>>=◌, behind, place_of, token_of}
use Rattle.scasp_reader_terms.specs.Names.{has_own_number}
use Rattle.scasp_reader_terms.specs.Terms.{inside}
use Rattle.scasp_reader_expressions.specs.declared.sums.Operation.{Operation}
use Rattle.scasp_reader_expressions.specs.declared.sums.Sum.{Sum}
use Rattle.scasp_reader_expressions.specs.declared.values.Value.{Value}
use Rattle.scasp_reader_expressions.specs.Sums.{constant_sum, variable_sum, negated_sum, worked}
use Rattle.scasp_reader_expressions.specs.Values.{united, value_of, is_linear, made_at, combined, not_linear, operated, negated}
use Rattle.scasp_reader_expressions.specs.Expressions.{variable_value, bracket_in, factor_at_sign, factor_at, factor, operation_behind, repeated, factor_operation, product_operation, product, expression_with, expression}
use Rattle.scasp_reader.proofs.ProgramsLemmas.Keeping.{Post, Post_ok, Post_err, Post_then, Any, le_self, taken_keeps, note_if_keeps, Below, variable_at_keeps, Lasts, between_keeps}
use Rattle.scasp_reader.proofs.ProgramsLemmas.TermKeeping.{number_keeps}
use Rattle.scasp_reader.proofs.ProgramsLemmas.SumKeeping.{Ascending, united-Ascending, united-Each, united-left, united-right, Pairs, negated-Pairs, worked-Pairs, variable_sum-Pairs}

-- the variables of the sum are among these
abbrev pub Covered : List ℕ → Option Sum → Type 0
Covered xs None = Unit {0}
Covered xs (Some a) = Pairs (λ x. Contains xs x) a.pairs

pub record IsValue (n : ℕ) (e : Value) : Type 0 where
  pub ascending : Ascending e.variables
  pub below : Each (λ x. x < n) e.variables
  pub covered : Covered e.variables e.sum

pub IsValue-lasts : Lasts IsValue
IsValue-lasts n m le e h =
    record { ascending = h.ascending; below = Each-map (λ x. x < n) (λ x. x < m) (λ x k. omega arith) e.variables h.below; covered = h.covered }

pub Pairs-more : (xs ys : List ℕ) → ((x : ℕ) → Contains xs x → Contains ys x) → (ps : List RatPair) → Pairs (λ x. Contains xs x) ps → Pairs (λ x. Contains ys x) ps
Pairs-more xs ys f ps h = Each-map (λ (k : RatPair). Contains xs k.x) (λ (k : RatPair). Contains ys k.x) (λ k g. f k.x g) ps h

-- ---- operations

-- what holds of each thing that is made of the two sums holds of what this step gives
pub made_at_keeps : {A : Type 0} (R : Option A → Type 0) → R None → (f : Sum → Sum → Option A) (at : ℕ) (a b : Option Sum)
    → ((x y : Sum) → a ≡ Some x → b ≡ Some y → R (f x y)) → (s : State) → Post (λ n o. R o) (length s.variables) (made_at f at a b s)
made_at_keeps R none f at None b h s = Post_ok (λ n o. R o) _ None s (le_self _) none
made_at_keeps R none f at (Some a) None h s = Post_ok (λ n o. R o) _ None s (le_self _) none
made_at_keeps R none f at (Some a) (Some b) h s =
    Post_then Any (λ n o. R o) _ _ _ (note_if_keeps s _ at _) (λ u t le v. Post_ok (λ n o. R o) _ (f a b) t (le_self _) (h a b refl refl))

worked-Covered : (xs : List ℕ) (o : Operation) (a b : Sum) → Pairs (λ x. Contains xs x) a.pairs → Pairs (λ x. Contains xs x) b.pairs → Covered xs (worked o a b)
worked-Covered xs o a b h k = by (worked o a b) refl
  where
    by : (r : Option Sum) → worked o a b ≡ r → Covered xs r
    by None e = tt
    by (Some r) e = worked-Pairs (λ x. Contains xs x) o a b r h k e

united-IsValue : (n : ℕ) (e f : Value) (sum : Option Sum) → IsValue n e → IsValue n f → Covered (united e.variables f.variables) sum
    → IsValue n (value_of (united e.variables f.variables) sum)
united-IsValue n e f sum h k c =
    record {
      ascending = united-Ascending e.variables f.variables h.ascending;
      below = united-Each (λ x. x < n) e.variables f.variables h.below k.below;
      covered = c;
    }

-- the variables of both sides' sums are among those of both sides
pub both-Pairs : (n m : ℕ) (e f : Value) → IsValue n e → IsValue m f → (x y : Sum) → e.sum ≡ Some x → f.sum ≡ Some y
    → Pairs (λ z. Contains (united e.variables f.variables) z) x.pairs × Pairs (λ z. Contains (united e.variables f.variables) z) y.pairs
both-Pairs n m e f h k x y p q = (
  Pairs-more e.variables (united e.variables f.variables) (united-left e.variables f.variables) x.pairs (subst (λ (o : Option Sum). Covered e.variables o) p h.covered),
  Pairs-more f.variables (united e.variables f.variables) (united-right e.variables f.variables) y.pairs (subst (λ (o : Option Sum). Covered f.variables o) q k.covered),
)

operated_keeps : (o : Operation) (at : ℕ) (e f : Value) (s : State) → IsValue (length s.variables) e → IsValue (length s.variables) f → Post IsValue (length s.variables) (operated o at e f s)
operated_keeps o at e f s h k = by (is_linear o e f)
  where
    by : (b : Bool) → Post IsValue (length s.variables) ((if b then combined o at e f else not_linear at e f) s)
    by true =
        Post_then (λ n sum. Covered (united e.variables f.variables) sum) IsValue _ _ _
        (made_at_keeps (Covered (united e.variables f.variables)) tt (worked o) at e.sum f.sum
        (λ x y p q. let both = both-Pairs _ _ e f h k x y p q in worked-Covered (united e.variables f.variables) o x y both.0 both.1) s)
        (λ sum t le c. Post_ok IsValue _ _ t (le_self _) (united-IsValue _ e f sum (IsValue-lasts _ _ le e h) (IsValue-lasts _ _ le f k) c))
    by false = Post_ok IsValue _ _ _ (le_self _) (united-IsValue _ e f None h k tt)

negated-IsValue : (n : ℕ) (minus : Bool) (e : Value) → IsValue n e → IsValue n (negated minus e)
negated-IsValue n true e h = record { ascending = h.ascending; below = h.below; covered = by e.sum h.covered }
  where
    by : (o : Option Sum) → Covered e.variables o → Covered e.variables (option_map negated_sum o)
    by None c = tt
    by (Some a) c = negated-Pairs (λ x. Contains e.variables x) a.pairs c
negated-IsValue n false e h = h

-- ---- factors

variable_value-IsValue : (n x : ℕ) (is_own : Bool) → x < n → IsValue n (variable_value is_own x)
variable_value-IsValue n x false h = record { ascending = (tt, tt); below = (h, tt); covered = tt }
variable_value-IsValue n x true h = record { ascending = (tt, tt); below = (h, tt); covered = by (variable_sum x) refl }
  where
    by : (r : Option Sum) → variable_sum x ≡ r → Covered (x ∷ []) r
    by None e = tt
    by (Some a) e = variable_sum-Pairs (λ y. Contains (x ∷ []) y) x a (Contains-here x []) e

number-IsValue : (n : ℕ) (q : Option Number) → IsValue n (value_of [] (option_map constant_sum q))
number-IsValue n None = record { ascending = tt; below = tt; covered = tt }
number-IsValue n (Some q) = record { ascending = tt; below = tt; covered = tt }

-- what is read in a bracket, where one may be opened
abbrev Inside : Option (Read Value) → Type 0
Inside None = Unit {0}
Inside (Some one) = (s : State) → Post IsValue (length s.variables) (one s)

factor_keeps : (inner : Option (Read Value)) → Inside inner → (s : State) → Post IsValue (length s.variables) (factor inner s)
factor_keeps inner h s = by (place_of s.tokens) (token_of s.tokens)
  where
    bracket : (i : Option (Read Value)) → Inside i → Post IsValue (length s.variables) (inside i bracket_in s)
    bracket None h = Post_err IsValue _ _
    bracket (Some one) h = between_keeps IsValue IsValue-lasts false sign.Open sign.Close one h s

    sign_by : (g : Sign) → Post IsValue (length s.variables) (factor_at_sign inner g s)
    sign_by sign.Open = bracket inner h
    sign_by g = Post_err IsValue _ _

    by : (at : ℕ) (o : Option Token) → Post IsValue (length s.variables) (factor_at inner at o s)
    by at (Some (token.Number q)) = Post_then Any IsValue _ _ _ (number_keeps s) (λ p t le u. Post_ok IsValue _ _ t (le_self _) (number-IsValue _ p))
    by at (Some (token.Variable text)) =
        Post_then Below IsValue _ _ _ (variable_at_keeps at text (behind s)) (λ x t le k. Post_ok IsValue _ (variable_value (has_own_number x t.fault) x) t (le_self _) (variable_value-IsValue _ x _ k))
    by at (Some (token.Sign g)) = sign_by g
    by at o = Post_err IsValue _ _

-- ---- operations, one behind the other

module _ (sign_of : Option Token → Option Operation) (operand : Read Value) (h : (s : State) → Post IsValue (length s.variables) (operand s)) where
  operation_keeps : (o : Operation) (at : ℕ) (e : Value) (s : State) → IsValue (length s.variables) e → Post IsValue (length s.variables) (operation_behind operand o at e s)
  operation_keeps o at e s he = Post_then IsValue IsValue _ _ _ (h (behind s)) (λ f t le hf. operated_keeps o at e f t (IsValue-lasts _ _ le e he) hf)

  repeated_keeps : (n : ℕ) (e : Value) (s : State) → IsValue (length s.variables) e → Post IsValue (length s.variables) (repeated sign_of operand n e s)
  repeated_keeps zero e s he = Post_ok IsValue _ e s (le_self _) he
  repeated_keeps (suc n) e s he = by (sign_of (token_of s.tokens)) (repeated_keeps n)
    where
      by : (o : Option Operation) → ((f : Value) (t : State) → IsValue (length t.variables) f → Post IsValue (length t.variables) (repeated sign_of operand n f t))
          → Post IsValue (length s.variables) (elim o [ None ↦ Ok (e, s) | Some o ↦ (operation_behind operand o (place_of s.tokens) e >>= repeated sign_of operand n) s ])
      by None rest = Post_ok IsValue _ e s (le_self _) he
      by (Some o) rest = Post_then IsValue IsValue _ _ _ (operation_keeps o (place_of s.tokens) e s he) (λ f t le hf. rest f t hf)

product_keeps : (inner : Option (Read Value)) → Inside inner → (s : State) → Post IsValue (length s.variables) (product inner s)
product_keeps inner h s =
    Post_then IsValue IsValue _ _ _ (factor_keeps inner h s)
    (λ e t le he. repeated_keeps factor_operation (factor inner) (factor_keeps inner h) (length t.tokens) e t he)

expression_with_keeps : (inner : Option (Read Value)) → Inside inner → (s : State) → Post IsValue (length s.variables) (expression_with inner s)
expression_with_keeps inner h s =
    Post_then Any IsValue _ _ _ (taken_keeps s sign.Minus)
    (λ minus t le u. Post_then IsValue IsValue _ _ _ (product_keeps inner h t)
    (λ e v le he. repeated_keeps product_operation (product inner) (product_keeps inner h) (length v.tokens) (negated minus e) v (negated-IsValue _ minus e he)))

pub expression_keeps : (room : ℕ) (s : State) → Post IsValue (length s.variables) (expression room s)
unfolding expression
expression_keeps zero s = expression_with_keeps None tt s
expression_keeps (suc room) s = expression_with_keeps (Some (expression room)) (expression_keeps room) s
