-- Values of expressions: the variables that are written in one, and its sum, which is missing where a fault was noted in it.
use Rattle.std.specs.Prelude.{ℕ, Bool, true, not, ◌&&◌, nat_lt, List, [], ◌∷◌, ◌++◌, length, filter, if◌then◌else◌, Option, None, Some, is_none, option_map}
use Rattle.scasp_reader_terms.specs.declared.fault.Kind.TheVariants as kind
use Rattle.scasp_reader_terms.specs.Steps.{Read, ◌>>=◌, give, note, note_if}
use Rattle.scasp_reader_expressions.specs.declared.sums.Operation.{Operation}
use Rattle.scasp_reader_expressions.specs.declared.sums.Operation.TheVariants as operation
use Rattle.scasp_reader_expressions.specs.declared.sums.Sum.{Sum}
use Rattle.scasp_reader_expressions.specs.declared.values.Value.{Value}
use Rattle.scasp_reader_expressions.specs.Sums.{is_defined, negated_sum, worked}

-- x at its place among numbers that ascend
abbrev pub inserted : ℕ → List ℕ → List ℕ
inserted x xs = filter (λ y. nat_lt y x) xs ++ x ∷ filter (λ y. nat_lt x y) xs

-- all of both, ascending
abbrev pub united : List ℕ → List ℕ → List ℕ
united xs [] = xs
united xs (y ∷ ys) = united (inserted y xs) ys

abbrev pub value_of : List ℕ → Option Sum → Value
value_of xs sum = record { variables = xs; sum = sum }

abbrev pub has_variables : Value → Bool
has_variables e = nat_lt 0 (length e.variables)

-- the operation is defined with this sum on its right side, where there is one
abbrev pub is_defined_with : Operation → Option Sum → Bool
is_defined_with o None = true
is_defined_with o (Some a) = is_defined o a.constant

-- no product of two that have variables, and nothing divided by a variable or by 0
abbrev pub is_linear : Operation → Value → Value → Bool
is_linear operation.Plus e f = true
is_linear operation.Minus e f = true
is_linear operation.Times e f = not (has_variables e && has_variables f)
is_linear operation.Over e f = not (has_variables f) && is_defined_with operation.Over f.sum

-- what is worked out of two sums by an operation whose sign stands at this place; where one of them is missing a fault was noted before
abbrev pub made_at : {A : Type 0} → (Sum → Sum → Option A) → ℕ → Option Sum → Option Sum → Read (Option A)
made_at f at None y = give None
made_at f at (Some a) None = give None
made_at f at (Some a) (Some b) = do
  n ← note_if (is_none (f a b)) at kind.NumberTooLarge
  give (f a b)

abbrev pub combined : Operation → ℕ → Value → Value → Read Value
combined o at e f = do
  sum ← made_at (worked o) at e.sum f.sum
  give (value_of (united e.variables f.variables) sum)

abbrev pub not_linear : ℕ → Value → Value → Read Value
not_linear at e f = do
  n ← note at kind.NotLinear
  give (value_of (united e.variables f.variables) None)

-- two values, by an operation whose sign stands at this place
abbrev pub operated : Operation → ℕ → Value → Value → Read Value
operated o at e f = if is_linear o e f then combined o at e f else not_linear at e f

abbrev pub negated : Bool → Value → Value
negated minus e = if minus then value_of e.variables (option_map negated_sum e.sum) else e
