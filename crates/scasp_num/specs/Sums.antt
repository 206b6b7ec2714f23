-- The normal form of a row that is given by pairs of a variable and a number.
use Rattle.std.specs.Prelude.{◌≡◌, ℕ, ◌==◌, nat_lt, if◌then◌else◌, ℤ, pos, ◌+ℤ◌, ◌*ℤ◌, unsigned_abs, int_div, Option, Some, List, [], ◌∷◌, map, ⊤}
use Rattle.scasp_num.specs.declared.linear.Coeff.{Coeff}
use Rattle.scasp_num.specs.declared.linear.RatPair.{RatPair}
use Rattle.scasp_num.specs.declared.linear.Op.{Op}
use Rattle.scasp_num.specs.Gcd.{gcd}
use Rattle.scasp_num.specs.Number.{Number}
use Rattle.scasp_num.specs.Arithmetic.{◌>>=◌, within, sum_of, sum_integers}
use Rattle.scasp_num.specs.Linear.{Linear, Compares, normal_form}

-- a number of x added to pairs whose variables ascend
abbrev pub added : ℕ → Number → List RatPair → Option (List RatPair)
added x v [] = Some (record { x = x; value = v } ∷ [])
added x v (k ∷ ks) =
    if nat_lt k.x x
    then (added x v ks >>= (λ rest. Some (k ∷ rest)))
    else (if k.x == x
    then (sum_of k.value v >>= (λ sum. Some (record { x = x; value = sum } ∷ ks)))
    else Some (record { x = x; value = v } ∷ k ∷ ks))

-- the sum of each variable's numbers, added in order
abbrev pub summed : List RatPair → List RatPair → Option (List RatPair)
summed sums [] = Some sums
summed sums (p ∷ ps) = added p.x p.value sums >>= (λ next. summed next ps)

-- the least common multiple of two numbers above 0
abbrev pub next_multiple : ℤ → ℤ → ℤ
next_multiple l d = l *ℤ int_div d (pos (gcd (unsigned_abs l) (unsigned_abs d)))

-- the least common multiple of l and all denominators, built in order
abbrev pub multiple : ℤ → List RatPair → Option ℤ
multiple l [] = Some l
multiple l (k ∷ ks) =
    within (next_multiple l k.value.den) >>= (λ next. multiple next ks)

-- l times a number whose denominator divides l
abbrev pub whole_times : ℤ → Number → ℤ
whole_times l q = q.num *ℤ int_div l (pos (unsigned_abs q.den))

abbrev pub whole_number : ℤ → Number → Option ℤ
whole_number l q = within (whole_times l q)

abbrev pub whole : ℤ → List RatPair → Option (List Coeff)
whole l [] = Some []
whole l (k ∷ ks) = whole_number l k.value >>= (λ c. whole l ks >>= (λ rest. Some (record { x = k.x; c = c } ∷ rest)))

unfoldable pub normal_of : List RatPair → Number → Op → Option Linear
normal_of pairs q op = do
  sums ← summed [] pairs
  l ← multiple q.den sums
  coeffs ← whole l sums
  constant ← whole_number l q
  Some (normal_form (record { coeffs = coeffs; constant = constant; op = op }))

-- ---- meaning

-- z is l times the number
abbrev pub IsTimes : ℤ → Number → ℤ → Type 0
IsTimes l q z = z *ℤ q.den ≡ q.num *ℤ l

-- the terms are l times the pairs, one by one
abbrev pub AreTimes : ℤ → List RatPair → List Coeff → Type 0
AreTimes l [] [] = ⊤
AreTimes l [] (k ∷ ks) = ⊥
AreTimes l (p ∷ ps) [] = ⊥
AreTimes l (p ∷ ps) (k ∷ ks) = (k.x ≡ p.x) × IsTimes l p.value k.c × AreTimes l ps ks

-- the sum of the pairs, each its number times its variable's value, as a fraction: the numerator, and the denominator
abbrev pub pair_sum : (ℕ → Number) → List RatPair → ℤ × ℤ
pair_sum v [] = (pos 0, pos 1)
pair_sum v (p ∷ ps) =
    let rest = pair_sum v ps in
    let q = v p.x in
    let den = p.value.den *ℤ q.den in
    ((p.value.num *ℤ q.num) *ℤ rest.1 +ℤ rest.0 *ℤ den, den *ℤ rest.1)

-- the sum of the pairs and a number compares so with 0
abbrev pub SumHolds : (ℕ → Number) → List RatPair → Number → Op → Type 0
SumHolds v pairs q op =
    let sum = pair_sum v pairs in
    Compares op (sum.0 *ℤ q.den +ℤ q.num *ℤ sum.1)

-- ---- the integers that are formed: there is a result where all of them lie in range

-- of a number of x added to pairs: those of the sum with the number that x has there
abbrev pub addition_integers : ℕ → Number → List RatPair → List ℤ
addition_integers x v [] = []
addition_integers x v (k ∷ ks) =
    if nat_lt k.x x then addition_integers x v ks else (if k.x == x then sum_integers k.value v else [])

-- the least common multiple of l and all denominators
abbrev pub common_multiple : ℤ → List RatPair → ℤ
common_multiple l [] = l
common_multiple l (k ∷ ks) = common_multiple (next_multiple l k.value.den) ks

-- of the normal form of sums, one for each variable, and a constant: their least common multiple, and all numbers times it
abbrev pub normal_integers : List RatPair → Number → List ℤ
normal_integers sums q =
    let l = common_multiple q.den sums in
    l ∷ whole_times l q ∷ map (λ k. whole_times l k.value) sums
