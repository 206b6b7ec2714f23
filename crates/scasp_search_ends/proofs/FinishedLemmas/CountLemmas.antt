-- Numbers that are counted, one after the other.
use Rattle.std.specs.Prelude.{◌≡◌, ℕ, suc, ◌+◌, ◌-◌, ◌<◌, Bool, true, false, not, if◌then◌else◌, List, [], ◌∷◌, ◌++◌, filter, refl}
use Rattle.std.proofs.Common.{add-one, append_assoc, arith, ap, sym, ◌∙◌}
use Rattle.scasp_search_rules.specs.Successors.Reading.{among, count_from}

counted : (x end : ℕ) → x < end → count_from x (end - x) ≡ x ∷ count_from (x + 1) (end - (x + 1))
counted x end h =
    let e : end - x ≡ suc (end - (x + 1)) = omega (arith, h) in
    ap (count_from x) e ∙ ap (λ y. x ∷ count_from y (end - (x + 1))) (sym (add-one x))

-- all of them, where the count does not pass the numbers
pub counted-all : (first count end : ℕ) → end ≡ first + count → end - first ≡ count
counted-all first count end e = omega (arith, e)

-- the next one is put behind those before
pub counted-next : (old new all : List ℕ) (x end : ℕ) → x < end → new ≡ old ++ x ∷ [] → old ++ count_from x (end - x) ≡ all
    → new ++ count_from (x + 1) (end - (x + 1)) ≡ all
counted-next old new all x end h e i =
    ap (λ xs. xs ++ count_from (x + 1) (end - (x + 1))) e
    ∙ append_assoc old (x ∷ []) (count_from (x + 1) (end - (x + 1)))
    ∙ ap (λ xs. old ++ xs) (sym (counted x end h)) ∙ i

-- ---- but for some

abbrev others : List ℕ → List ℕ → List ℕ
others but xs = filter (λ x. not (among x but)) xs

first : (but : List ℕ) (x : ℕ) (xs : List ℕ) → others but (x ∷ xs) ≡ others but (x ∷ []) ++ others but xs
first but x xs = by (among x but)
  where
    by : (b : Bool) → (if not b then x ∷ others but xs else others but xs) ≡ (if not b then x ∷ [] else []) ++ others but xs
    by true = refl
    by false = refl

pub others-next : (but old new all : List ℕ) (x end : ℕ) → x < end → new ≡ old ++ filter (λ x. not (among x but)) (x ∷ [])
    → old ++ filter (λ x. not (among x but)) (count_from x (end - x)) ≡ all
    → new ++ filter (λ x. not (among x but)) (count_from (x + 1) (end - (x + 1))) ≡ all
others-next but old new all x end h e i =
    ap (λ xs. xs ++ others but (count_from (x + 1) (end - (x + 1)))) e
    ∙ append_assoc old (others but (x ∷ [])) (others but (count_from (x + 1) (end - (x + 1))))
    ∙ ap (λ xs. old ++ xs) (sym (ap (others but) (counted x end h) ∙ first but x (count_from (x + 1) (end - (x + 1))))) ∙ i
