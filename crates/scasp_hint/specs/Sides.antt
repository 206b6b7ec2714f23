-- The disequations of a list of constraints, and the rows of their sides.
use Rattle.std.specs.Prelude.{◌≡◌, ℕ, true, if◌then◌else◌, pos, negsuc, List, [], ◌∷◌, ◌++◌, Option, None, Some}
use Rattle.std.proofs.Common.{refl}
use Rattle.scasp_num.specs.declared.linear.Op.{Op}
use Rattle.scasp_num.specs.declared.linear.Op.TheVariants as op
use Rattle.scasp_num.specs.Gcd.{gcd, gcd_within}
use Rattle.scasp_num.specs.Number.{Number}
use Rattle.scasp_num.specs.Arithmetic.{◌>>=◌, is_reduced, IsReduced-from_test, negation_of}
use Rattle.scasp_num.specs.Linear.{Linear, negation}
use Rattle.scasp_num.specs.Sums.{normal_of}
use Rattle.scasp_syntax.specs.Tm.{Tm, var, num, app}
use Rattle.scasp_syntax.specs.Values.{under}
use Rattle.scasp_syntax.specs.View.{tm_of}
use Rattle.scasp_unify.specs.Parts.{Part, parts}
use Rattle.scasp_unify.specs.Resolver.{resolver}
use Rattle.scasp_unify.specs.Numbers.{is_among_numbers}
use Rattle.scasp_num.specs.Number.{zero_number}
use Rattle.scasp_unify.specs.ResolvedRows.{resolved_row}
use Rattle.scasp_syntax.specs.declared.con.Con.{Con}
use Rattle.scasp_syntax.specs.declared.con.Con.TheVariants as con
use Rattle.scasp_hint.specs.declared.sides.Sides.{Sides}
use Rattle.scasp_hint.specs.declared.sides.Sides.TheVariants.{Mixed, Large, Listed}

pub one-reduced : is_reduced (pos 1) (pos 1) ≡ true
unfolding gcd gcd_within
one-reduced = refl

pub minus-reduced : is_reduced (negsuc 0) (pos 1) ≡ true
unfolding gcd gcd_within
minus-reduced = refl

abbrev pub one : Number
one = record { num = pos 1; den = pos 1; reduced = IsReduced-from_test (pos 1) (pos 1) one-reduced }

abbrev pub minus_one : Number
minus_one = record { num = negsuc 0; den = pos 1; reduced = IsReduced-from_test (negsuc 0) (pos 1) minus-reduced }

-- the variable is below the term
abbrev pub less : ℕ → Tm → Option Linear
less x (var y) = normal_of (record { x = x; value = one } ∷ record { x = y; value = minus_one } ∷ []) zero_number op.Lt
less x (num q) = normal_of (record { x = x; value = one } ∷ []) (negation_of q) op.Lt
less x (app f ts) = None

-- the variable is above the term
abbrev pub more : ℕ → Tm → Option Linear
more x (var y) = normal_of (record { x = x; value = minus_one } ∷ record { x = y; value = one } ∷ []) zero_number op.Lt
more x (num q) = normal_of (record { x = x; value = minus_one } ∷ []) q op.Lt
more x (app f ts) = None

abbrev pub two_sides : Option Linear → Option Linear → Option (List Linear) → Option (List Linear)
two_sides a b rest = a >>= (λ a. b >>= (λ b. rest >>= (λ rs. Some (a ∷ b ∷ rs))))

-- of each part, that its left side is below the right one, and then the other way
abbrev pub parts_sides : List Part → Option (List Linear)
parts_sides [] = Some []
parts_sides (p ∷ ps) =
    if p.turned then two_sides (more p.at p.term) (less p.at p.term) (parts_sides ps) else two_sides (less p.at p.term) (more p.at p.term) (parts_sides ps)

abbrev pub sides_or_large : Option (List Linear) → Sides
sides_or_large None = Large
sides_or_large (Some ss) = Listed ss

-- what a disequation of terms is, by its parts; nothing where it is true by itself
abbrev pub parted : List Con → Option (List Part) → List Sides
parted cs None = []
parted cs (Some ps) = (if is_among_numbers cs ps then sides_or_large (parts_sides ps) else Mixed) ∷ []

-- the two sides of a disequation's row: its sum is below 0, and above 0
abbrev pub below : Linear → Linear
below r = record { coeffs = r.coeffs; constant = r.constant; op = op.Lt }

abbrev pub above : Linear → Linear
above r = negation (record { coeffs = r.coeffs; constant = r.constant; op = op.Le })

abbrev pub compared : Option Linear → Sides
compared None = Large
compared (Some q) = Listed (below q ∷ above q ∷ [])

abbrev pub row_sides : Op → Option Linear → List Sides
row_sides op.Eq o = []
row_sides op.Lt o = []
row_sides op.Le o = []
row_sides op.Ne o = compared o ∷ []

abbrev pub con_sides : List Con → Con → List Sides
con_sides cs (con.Neq t u) = parted cs (parts (under (resolver cs) (tm_of t)) (under (resolver cs) (tm_of u)))
con_sides cs (con.Row r) = row_sides r.op (resolved_row (resolver cs) r)
con_sides cs (con.Eq t u) = []
con_sides cs (con.NotShape x f n) = []
con_sides cs (con.Num t) = []
con_sides cs (con.NotNum t) = []

abbrev pub differs_in : List Con → List Con → List Sides
differs_in cs [] = []
differs_in cs (d ∷ ds) = con_sides cs d ++ differs_in cs ds

-- the disequations that their resolved terms do not make true, in order
abbrev pub differs : List Con → List Sides
differs cs = differs_in cs cs
