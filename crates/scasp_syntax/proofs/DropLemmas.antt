-- Weights of terms that are moved while they are freed.
use Rattle.std.proofs.Common.{◌≡◌, ℕ, ◌+◌, ◌≤◌, Bool, true, false, if◌then◌else◌, ap, List, [], ◌∷◌, ◌++◌, arith}
use Rattle.scasp_syntax.specs.Tm.{Tms, weight, weight_s}
use Rattle.scasp_syntax.specs.View.{tm_of, tms_of}
use Rattle.scasp_syntax.specs.declared.term.Term.{Term}
use Rattle.scasp_syntax.specs.declared.term.Term.TheVariants.{Var, Num, App}

-- one more term at the end
pub weight-pushed : (ts : List Term) (t : Term) → weight_s (tms_of (ts ++ t ∷ [])) ≡ weight_s (tms_of ts) + weight (tm_of t)
weight-pushed [] t = omega arith
weight-pushed (u ∷ ts) t = omega (arith, weight-pushed ts t)

-- one more term in front, where it was put there
pub weight-put : (b : Bool) (f : ℕ) (us : Tms) (ts made : List Term) → made ≡ (if b then App f us ∷ ts else ts) → weight_s (tms_of made) ≤ 1 + weight_s us + weight_s (tms_of ts)
weight-put true f us ts made e = let n = ap (λ l. weight_s (tms_of l)) e in omega (arith, n)
weight-put false f us ts made e = let n = ap (λ l. weight_s (tms_of l)) e in omega (arith, n)

-- a term has a node
pub weight-least : (t : Term) → 1 ≤ weight (tm_of t)
weight-least (Var x) = omega arith
weight-least (Num q) = omega arith
weight-least (App f ts) = omega arith
