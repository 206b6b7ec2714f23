-- Sums of a constant and of numbers with a variable each, and bounded arithmetic on them. A variable whose numbers cancel stays.
use Rattle.std.specs.Prelude.{ℕ, ◌==◌, Bool, true, not, pos, List, [], ◌∷◌, ◌++◌, map, length, if◌then◌else◌, Option, Some}
use Rattle.scasp_num.specs.declared.linear.Op.{Op}
use Rattle.scasp_num.specs.declared.linear.RatPair.{RatPair}
use Rattle.scasp_num.specs.Number.{Number}
use Rattle.scasp_num.specs.Arithmetic.{◌>>=◌, lowest, sum_of, difference_of, product_of, quotient_of, negation_of}
use Rattle.scasp_num.specs.Linear.{Linear, is_zero}
use Rattle.scasp_num.specs.Sums.{summed, normal_of}
use Rattle.scasp_reader_expressions.specs.declared.sums.Operation.{Operation}
use Rattle.scasp_reader_expressions.specs.declared.sums.Operation.TheVariants as operation
use Rattle.scasp_reader_expressions.specs.declared.sums.Sum.{Sum}

-- the operation on two numbers
abbrev pub number_by : Operation → Number → Number → Option Number
number_by operation.Plus p q = sum_of p q
number_by operation.Minus p q = difference_of p q
number_by operation.Times p q = product_of p q
number_by operation.Over p q = quotient_of p q

-- nothing is divided by 0
abbrev pub is_defined : Operation → Number → Bool
is_defined operation.Plus q = true
is_defined operation.Minus q = true
is_defined operation.Times q = true
is_defined operation.Over q = not (is_zero q.num)

abbrev pub pair_of : ℕ → Number → RatPair
pair_of x q = record { x = x; value = q }

-- the sum that is a number
abbrev pub constant_sum : Number → Sum
constant_sum q = record { constant = q; pairs = [] }

-- the sum that is a variable: 0 + 1*x
abbrev pub variable_sum : ℕ → Option Sum
variable_sum x = lowest (pos 0) (pos 1) >>= (λ constant. lowest (pos 1) (pos 1) >>= (λ one. Some (record { constant = constant; pairs = pair_of x one ∷ [] })))

abbrev pub negated_pairs : List RatPair → List RatPair
negated_pairs pairs = map (λ k. pair_of k.x (negation_of k.value)) pairs

abbrev pub negated_sum : Sum → Sum
negated_sum a = record { constant = negation_of a.constant; pairs = negated_pairs a.pairs }

abbrev pub total : Sum → Sum → Option Sum
total a b = sum_of a.constant b.constant >>= (λ constant. summed a.pairs b.pairs >>= (λ pairs. Some (record { constant = constant; pairs = pairs })))

-- the operation on the number of each pair, with q
abbrev pub each_pair : Operation → Number → List RatPair → Option (List RatPair)
each_pair o q [] = Some []
each_pair o q (k ∷ ks) = number_by o k.value q >>= (λ v. each_pair o q ks >>= (λ rest. Some (pair_of k.x v ∷ rest)))

-- the operation on each number of the sum, with q
abbrev pub each_number : Operation → Number → Sum → Option Sum
each_number o q a = number_by o a.constant q >>= (λ constant. each_pair o q a.pairs >>= (λ pairs. Some (record { constant = constant; pairs = pairs })))

-- the product; one of the two has no variable
abbrev pub product : Sum → Sum → Option Sum
product a b = if length a.pairs == 0 then each_number operation.Times a.constant b else each_number operation.Times b.constant a

-- the operation on two sums
abbrev pub worked : Operation → Sum → Sum → Option Sum
worked operation.Plus a b = total a b
worked operation.Minus a b = total a (negated_sum b)
worked operation.Times a b = product a b
worked operation.Over a b = each_number operation.Over b.constant a

-- a - b OP 0 in normal form
abbrev pub row_of : Op → Sum → Sum → Option Linear
row_of op a b = difference_of a.constant b.constant >>= (λ constant. normal_of (a.pairs ++ negated_pairs b.pairs) constant op)
