-- Small cases of the definitions, computed.
use Rattle.std.specs.Prelude.{◌≡◌, ℕ, true, false, ℤ, pos, negsuc, [], ◌∷◌, Some}
use Rattle.std.proofs.Common.{refl}
use Rattle.scasp_num.specs.declared.linear.Coeff.{Coeff}
use Rattle.scasp_num.specs.declared.linear.Op.TheVariants as op
use Rattle.scasp_num.specs.declared.hints.Step.{Step}
use Rattle.scasp_num.specs.Gcd.{gcd, gcd_within}
use Rattle.scasp_num.specs.Linear.{Linear, normal_form}
use Rattle.scasp_num.specs.Arithmetic.{lowest, sum_of}
use Rattle.scasp_num.specs.Sums.{normal_of}
use Rattle.scasp_rows.specs.Steps.{row_sum}
use Rattle.scasp_rows.specs.Elimination.{without, elimination}
use Rattle.scasp_unify.specs.Unification.{unifier}
use Rattle.scasp_syntax.specs.declared.con.Con.{Con}
use Rattle.scasp_syntax.specs.declared.con.Con.TheVariants as con
use Rattle.scasp_syntax.specs.declared.term.Term.TheVariants.{Var}
use Rattle.scasp_rows.specs.PlainRows.{is_met}
use Rattle.scasp_hint.specs.Satisfying.{sat}
use Rattle.scasp_hint.specs.Showing.{fault_of}
use Rattle.scasp_hint.specs.Finding.{found, hint, nothing}
use Rattle.scasp_hint.specs.declared.fault.HintFault.TheVariants as fault
use Rattle.scasp_syntax.specs.declared.hint.Hint.TheVariants as hints

abbrev term : ℕ → ℤ → Coeff
term x c = record { x = x; c = c }

-- V0-3 #< 0
abbrev below_three : Linear
below_three = record { coeffs = term 0 (pos 1) ∷ []; constant = negsuc 2; op = op.Lt }

-- -V0+1 #=< 0
abbrev above_one : Linear
above_one = record { coeffs = term 0 (negsuc 0) ∷ []; constant = pos 1; op = op.Le }

-- -V0+5 #=< 0
abbrev above_five : Linear
above_five = record { coeffs = term 0 (negsuc 0) ∷ []; constant = pos 5; op = op.Le }

-- V0-V1 #=< 0, and the other way
abbrev at_most : Linear
at_most = record { coeffs = term 0 (pos 1) ∷ term 1 (negsuc 0) ∷ []; constant = pos 0; op = op.Le }

abbrev at_least : Linear
at_least = record { coeffs = term 0 (negsuc 0) ∷ term 1 (pos 1) ∷ []; constant = pos 0; op = op.Le }

-- V0-V1 #\= 0
abbrev differs : Linear
differs = record { coeffs = term 0 (pos 1) ∷ term 1 (negsuc 0) ∷ []; constant = pos 0; op = op.Ne }

-- ---- the elimination without bounds

met : is_met (below_three ∷ above_one ∷ []) ≡ true
unfolding is_met
met = refl

unmet : is_met (below_three ∷ above_five ∷ []) ≡ false
unfolding is_met
unmet = refl

-- ---- lists

-- the sum of two rows
abbrev step : ℕ → ℕ → Step
step p q = record { a = pos 1; p = p; b = pos 1; q = q }

abbrev zero : Con
zero = con.Num (Var 0)

abbrev one : Con
one = con.Num (Var 1)

clashing : found (con.Neq (Var 0) (Var 1) ∷ con.Eq (Var 0) (Var 1) ∷ []) ≡ hint hints.Terms
unfolding unifier
clashing = refl

summed : found (zero ∷ con.Row below_three ∷ con.Row above_five ∷ []) ≡ hint (hints.Rows (step 2 1 ∷ []))
unfolding elimination without row_sum normal_of normal_form lowest sum_of gcd gcd_within
summed = refl

valued : found (zero ∷ con.Row below_three ∷ con.Row above_one ∷ []) ≡ nothing
unfolding elimination without row_sum normal_of normal_form lowest sum_of gcd gcd_within
valued = refl

passes : sat (zero ∷ con.Row below_three ∷ con.Row above_one ∷ []) ≡ true
unfolding is_met
passes = refl

-- the disequation of two numbers that the rows make equal, as terms and as a row
parted : found (zero ∷ one ∷ con.Row at_most ∷ con.Row at_least ∷ con.Neq (Var 0) (Var 1) ∷ []) ≡ hint (hints.Same 1 ((step 2 1 ∷ step 2 3 ∷ []) ∷ (step 2 1 ∷ step 3 1 ∷ []) ∷ []))
unfolding elimination without row_sum normal_of normal_form lowest sum_of gcd gcd_within
parted = refl

fails : sat (zero ∷ one ∷ con.Row at_most ∷ con.Row at_least ∷ con.Neq (Var 0) (Var 1) ∷ []) ≡ false
unfolding is_met
fails = refl

-- a disequation with a variable that is no number is none between numbers
Mixed : fault_of (zero ∷ con.Row at_most ∷ con.Row at_least ∷ con.Neq (Var 0) (Var 1) ∷ []) (hints.Same 1 ([] ∷ [] ∷ [])) ≡ Some fault.Step
Mixed = refl

-- a hint without steps reaches nothing
empty : fault_of (zero ∷ con.Row below_three ∷ con.Row above_five ∷ []) (hints.Rows []) ≡ Some fault.NotReached
empty = refl
