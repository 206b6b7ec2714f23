-- The variables of new parts.
use Rattle.std.specs.Prelude.{◌≡◌, ℕ, zero, suc, ◌∷◌, refl}
use Rattle.std.proofs.Common.{ap}
use Rattle.scasp_search_rules.specs.Successors.Reading.{count_from}
use Rattle.scasp_unify.specs.Negations.{new_parts}
use Rattle.scasp_unify.specs.Unification.{terms_vars}

pub parts_counted : (k n : ℕ) → terms_vars (new_parts k n) ≡ count_from k n
parts_counted k zero = refl
parts_counted k (suc n) = ap (λ xs. k ∷ xs) (parts_counted (suc k) n)
