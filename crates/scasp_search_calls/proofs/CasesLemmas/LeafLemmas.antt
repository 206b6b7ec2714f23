-- Items that are false, and numbers that are counted.
use Rattle.std.specs.Prelude.{◌≡◌, ℕ, zero, suc, ◌+◌, ◌<◌, List, [], ◌∷◌, ◌++◌, length, take}
use Rattle.std.proofs.Common.{arith, sym, ap, get_or, ◌∙◌}
use Rattle.scasp_search_rules.specs.Successors.Cases.{failing_at}
use Rattle.scasp_search_rules.specs.Successors.Items.{opposite_item}
use Rattle.scasp_search_rules.specs.Successors.Reading.{count_from}
use Rattle.scasp_syntax.specs.declared.clause.FlatItem.{FlatItem}

pub failing_after : (k : ℕ) (is : List FlatItem) (i : FlatItem) → k < length is → i ≡ get_or is k i
    → failing_at k is ≡ take k is ++ opposite_item i ∷ []
failing_after k [] i h e = absurd (omega (arith, h))
failing_after zero (j ∷ js) i h e = ap (λ x. opposite_item x ∷ []) (sym e)
failing_after (suc k) (j ∷ js) i h e = ap (λ xs. j ∷ xs) (failing_after k js i (omega (arith, h)) e)

counted_to : (k n : ℕ) → count_from k (suc n) ≡ count_from k n ++ (k + n) ∷ []
counted_to k zero = let e : k ≡ k + 0 = omega arith in ap (λ x. x ∷ []) e
counted_to k (suc n) =
    let e : suc k + n ≡ k + suc n = omega arith in
    ap (λ xs. k ∷ xs) (counted_to (suc k) n ∙ ap (λ x. count_from (suc k) n ++ x ∷ []) e)

pub counted_more : (k n : ℕ) → count_from k (n + 1) ≡ count_from k n ++ (k + n) ∷ []
counted_more k n = let e : n + 1 ≡ suc n = omega arith in ap (λ m. count_from k m) e ∙ counted_to k n
