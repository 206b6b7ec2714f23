-- How many trees a list has, and which rules its covers name.
use Rattle.std.proofs.Common.{◌≡◌, ℕ, List, [], ◌∷◌, length, map, refl, ap, arith}
use Rattle.scasp_cert.specs.Trees.{Tree, Branch, listed, covering}
use Rattle.scasp_lines.specs.Below.{count, rule_numbers}

pub count-listed : (ts : List Tree) → count (listed ts) ≡ length ts
count-listed [] = refl
count-listed (t ∷ ts) = let e = count-listed ts in omega (arith, e)

-- the numbers of the rules of covers
pub numbers-covering : (cs : List (ℕ × Branch)) → rule_numbers (covering cs) ≡ map (λ c. c.0) cs
numbers-covering [] = refl
numbers-covering (c ∷ cs) = ap (λ ks. c.0 ∷ ks) (numbers-covering cs)
