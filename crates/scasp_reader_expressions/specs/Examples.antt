-- Expressions, computed.
use Rattle.std.specs.Prelude.{◌≡◌, ℕ, List, [], ◌∷◌, codes, Option, None, Some, Result, Ok, Err, pos, negsuc}
use Rattle.std.proofs.Common.{refl}
use Rattle.scasp_num.specs.declared.linear.Op.{Op}
use Rattle.scasp_num.specs.declared.linear.Op.TheVariants as op
use Rattle.scasp_num.specs.Gcd.{gcd, gcd_within}
use Rattle.scasp_num.specs.Arithmetic.{◌>>=◌, lowest, sum_of, product_of, quotient_of, difference_of}
use Rattle.scasp_num.specs.Linear.{Linear, normal_form}
use Rattle.scasp_num.specs.Sums.{normal_of}
use Rattle.scasp_reader_tokens.specs.Numbers.{literal_value}
use Rattle.scasp_reader_tokens.specs.Tokens.{tokens_of}
use Rattle.scasp_reader_terms.specs.declared.fault.Fault.{Fault}
use Rattle.scasp_reader_terms.specs.declared.fault.Count.TheVariants as count
use Rattle.scasp_reader_terms.specs.declared.fault.Kind.TheVariants as kind
use Rattle.scasp_reader_terms.specs.Faults.{fault_at}
use Rattle.scasp_reader_terms.specs.Steps.{State, start}
use Rattle.scasp_reader_expressions.specs.declared.sums.Sum.{Sum}
use Rattle.scasp_reader_expressions.specs.declared.values.Value.{Value}
use Rattle.scasp_reader_expressions.specs.Sums.{row_of}
use Rattle.scasp_reader_expressions.specs.Values.{united}
use Rattle.scasp_reader_expressions.specs.Expressions.{expression}

abbrev read : ℕ → List ℕ → Result (Value × State) Fault
read room text = expression room (start (tokens_of text) [])

-- the fault that was noted, or that stopped the reader
abbrev fault_of : Result (Value × State) Fault → Option Fault
fault_of (Ok x) = x.1.fault
fault_of (Err f) = Some f

abbrev variables_of : Result (Value × State) Fault → List ℕ
variables_of (Ok x) = x.0.variables
variables_of (Err f) = []

abbrev sum_of_read : Result (Value × State) Fault → Option Sum
sum_of_read (Ok x) = x.0.sum
sum_of_read (Err f) = None

-- the row between two expressions, by a relation
abbrev row_between : Op → List ℕ → List ℕ → Option Linear
row_between o left right = sum_of_read (read 1 left) >>= (λ a. sum_of_read (read 1 right) >>= (λ b. row_of o a b))

a_united_list : united (1 ∷ 4 ∷ []) (4 ∷ 0 ∷ 2 ∷ []) ≡ 0 ∷ 1 ∷ 2 ∷ 4 ∷ []
a_united_list = refl

a_minus_binds_the_first_product : row_between op.Eq (codes "-2*3+7") (codes "0") ≡ Some (record { coeffs = []; constant = pos 1; op = op.Eq })
unfolding expression tokens_of literal_value lowest gcd gcd_within sum_of product_of difference_of normal_of normal_form
a_minus_binds_the_first_product = refl

a_row : row_between op.Le (codes "(X-1)/2") (codes "0.25*X") ≡ Some (record { coeffs = record { x = 0; c = pos 1 } ∷ []; constant = negsuc 1; op = op.Le })
unfolding expression tokens_of literal_value lowest gcd gcd_within sum_of product_of quotient_of difference_of normal_of normal_form
a_row = refl

a_cancelled_variable : variables_of (read 0 (codes "Y-Y+X*0 ")) ≡ 0 ∷ 1 ∷ []
unfolding expression tokens_of literal_value lowest gcd gcd_within sum_of product_of
a_cancelled_variable = refl

a_product_of_variables : fault_of (read 0 (codes "0*X*Y.")) ≡ Some (fault_at 3 kind.NotLinear)
unfolding expression tokens_of literal_value lowest gcd gcd_within product_of
a_product_of_variables = refl

a_zero_divisor : fault_of (read 1 (codes "1/(2-2)")) ≡ Some (fault_at 1 kind.NotLinear)
unfolding expression tokens_of literal_value lowest gcd gcd_within sum_of
a_zero_divisor = refl

a_name_as_operand : fault_of (read 0 (codes "X+a")) ≡ Some (fault_at 2 kind.NotLinear)
unfolding expression tokens_of lowest gcd gcd_within
a_name_as_operand = refl

an_overflow : fault_of (read 0 (codes "170141183460469231731687303715884105727+1+1.")) ≡ Some (fault_at 39 kind.NumberTooLarge)
unfolding expression tokens_of literal_value lowest gcd gcd_within sum_of
an_overflow = refl

a_bracket_too_many : fault_of (read 1 (codes "((X))")) ≡ Some (fault_at 1 (kind.Limit count.Depth))
unfolding expression tokens_of
a_bracket_too_many = refl
