-- Values of expressions with whole numbers, worked out.
use Rattle.std.proofs.Common.{◌≡◌, ℕ, suc, ◌*◌, ◌<◌, ◌^◌, true, false, nat_lt, List, [], ◌∷◌, ◌++◌, Some, Ok, ℤ, pos, negsuc, ◌+ℤ◌, neg_ℤ, refl, sym, ap, subst, ◌∙◌, arith, append-nil}
use Rattle.std.specs.List.{list_all, filter}
use Rattle.std.proofs.lemmas.Bool.{and_parts}
use Rattle.std.proofs.lemmas.Bool.Decides.{nat_tests}
use Rattle.std.proofs.lemmas.Int.{ints}
use Rattle.scasp_num.specs.declared.linear.Coeff.{Coeff}
use Rattle.scasp_num.specs.declared.linear.RatPair.{RatPair}
use Rattle.scasp_num.specs.Number.{InRange}
use Rattle.scasp_num.specs.Arithmetic.{◌>>=◌, lowest, sum_of, difference_of, product_of}
use Rattle.scasp_num.specs.Linear.{Linear, IsNormal, coefficient}
use Rattle.scasp_num.specs.Sums.{summed, normal_of}
use Rattle.scasp_num.proofs.Numbers.{ltb_lt}
use Rattle.scasp_syntax.specs.WellFormed.{ascends}
use Rattle.scasp_reader_terms.specs.Steps.{State, then_read, give}
use Rattle.scasp_reader_expressions.specs.declared.sums.Operation.{Operation}
use Rattle.scasp_reader_expressions.specs.declared.sums.Operation.TheVariants as operation
use Rattle.scasp_reader_expressions.specs.declared.sums.Sum.{Sum}
use Rattle.scasp_reader_expressions.specs.declared.values.Value.{Value}
use Rattle.scasp_reader_expressions.specs.Sums.{pair_of, variable_sum, negated_sum, each_pair, worked, row_of}
use Rattle.scasp_reader_expressions.specs.Values.{united, value_of, is_linear, made_at, operated}
use Rattle.scasp_reader_expressions.specs.Expressions.{variable_value}
use Rattle.scasp_law_program_text.proofs.LinearReadbackLemmas.WholeNumbers.{integer, lowest-integer, sum-integers, product-integers, negation-integer}
use Rattle.scasp_law_program_text.proofs.LinearReadbackLemmas.Rows.{ListedIn, pairs_of, added-last, row-is}

-- ---- sums and values

-- a sum with a whole constant
abbrev pub whole_sum : ℤ → List RatPair → Sum
whole_sum c pairs = record { constant = integer c; pairs = pairs }

-- the value of a whole number
abbrev pub number_value : ℤ → Value
number_value c = value_of [] (Some (whole_sum c []))

-- the value of c times x
abbrev pub product_value : ℤ → ℕ → Value
product_value c x = value_of (x ∷ []) (Some (whole_sum (pos 0) (pair_of x (integer c) ∷ [])))

-- the value of these variables, each with its coefficient, and a constant
abbrev pub listed_value : List Coeff → List ℕ → ℤ → Value
listed_value ks xs c = value_of xs (Some (whole_sum c (pairs_of ks xs)))

zero-fits : InRange (pos 0)
zero-fits = ltb_lt refl

one-fits : InRange (pos 1)
one-fits = ltb_lt refl

zero-left : (z : ℤ) → pos 0 +ℤ z ≡ z
zero-left z = omega (arith, ints)

zero-right : (z : ℤ) → z +ℤ pos 0 ≡ z
zero-right z = omega (arith, ints)

-- ---- operations on values

-- an operation that has a result
pub operated-step : (o : Operation) (at : ℕ) (xs ys : List ℕ) (a b c : Sum) (s : State) → is_linear o (value_of xs (Some a)) (value_of ys (Some b)) ≡ true → worked o a b ≡ Some c
    → operated o at (value_of xs (Some a)) (value_of ys (Some b)) s ≡ Ok (value_of (united xs ys) (Some c), s)
operated-step o at xs ys a b c s l e = rw l (ap (λ r. then_read r (λ sum. give (value_of (united xs ys) sum))) (made s e))
  where
    made : (s : State) → worked o a b ≡ Some c → made_at (worked o) at (Some a) (Some b) s ≡ Ok (Some c, s)
    made s e = rw e refl

-- ---- products

pub variable-sum : (x : ℕ) → variable_sum x ≡ Some (whole_sum (pos 0) (pair_of x (integer (pos 1)) ∷ []))
variable-sum x =
    ap (λ o. o >>= (λ constant. lowest (pos 1) (pos 1) >>= (λ one. Some (record { constant = constant; pairs = pair_of x one ∷ [] })))) (lowest-integer (pos 0) zero-fits)
    ∙ ap (λ o. o >>= (λ one. Some (record { constant = integer (pos 0); pairs = pair_of x one ∷ [] }))) (lowest-integer (pos 1) one-fits)

pub variable-value : (x : ℕ) → variable_value true x ≡ product_value (pos 1) x
variable-value x = ap (value_of (x ∷ [])) (variable-sum x)

product-zero : (n : ℕ) → product_of (integer (pos 0)) (integer (pos n)) ≡ Some (integer (pos 0))
product-zero n = let none : 0 * n ≡ 0 = omega arith in product-integers 0 n (subst (λ k. k < 2 ^ 127) (sym none) zero-fits) ∙ ap (λ k. Some (integer (pos k))) none

product-one : (n : ℕ) → n < 2 ^ 127 → product_of (integer (pos 1)) (integer (pos n)) ≡ Some (integer (pos n))
product-one n h = let same : 1 * n ≡ n = omega arith in product-integers 1 n (subst (λ k. k < 2 ^ 127) (sym same) h) ∙ ap (λ k. Some (integer (pos k))) same

times-worked : (n x : ℕ) → n < 2 ^ 127 → worked operation.Times (whole_sum (pos n) []) (whole_sum (pos 0) (pair_of x (integer (pos 1)) ∷ [])) ≡ Some (whole_sum (pos 0) (pair_of x (integer (pos n)) ∷ []))
times-worked n x h =
    ap (λ o. o >>= (λ constant. each_pair operation.Times (integer (pos n)) (pair_of x (integer (pos 1)) ∷ []) >>= (λ pairs. Some (record { constant = constant; pairs = pairs })))) (product-zero n)
    ∙ ap (λ o. (o >>= (λ v. Some (pair_of x v ∷ []))) >>= (λ pairs. Some (record { constant = integer (pos 0); pairs = pairs }))) (product-one n h)

-- a whole number times a variable
pub times-value : (n x at : ℕ) (s : State) → n < 2 ^ 127 → operated operation.Times at (number_value (pos n)) (variable_value true x) s ≡ Ok (product_value (pos n) x, s)
times-value n x at s h =
    ap (λ e. operated operation.Times at (number_value (pos n)) e s) (variable-value x)
    ∙ operated-step operation.Times at [] (x ∷ []) (whole_sum (pos n) []) (whole_sum (pos 0) (pair_of x (integer (pos 1)) ∷ [])) (whole_sum (pos 0) (pair_of x (integer (pos n)) ∷ [])) s refl (times-worked n x h)

-- ---- negations

pub negated-product : (z : ℤ) (x : ℕ) → negated_sum (whole_sum (pos 0) (pair_of x (integer z) ∷ [])) ≡ whole_sum (pos 0) (pair_of x (integer (neg_ℤ z)) ∷ [])
negated-product z x = λ i. record { constant = negation-integer (pos 0) i; pairs = pair_of x (negation-integer z i) ∷ [] }

pub negated-number : (z : ℤ) → negated_sum (whole_sum z []) ≡ whole_sum (neg_ℤ z) []
negated-number z = λ i. record { constant = negation-integer z i; pairs = [] }

-- ---- sums of products

filter-all : (x : ℕ) (xs : List ℕ) → list_all (λ y. nat_lt y x) xs ≡ true → filter (λ y. nat_lt y x) xs ≡ xs
filter-all x [] h = refl
filter-all x (y ∷ xs) h = let p = and_parts (nat_lt y x) (list_all (λ y. nat_lt y x) xs) h in rw p.0 (ap (λ ys. y ∷ ys) (filter-all x xs p.1))

filter-none : (x : ℕ) (xs : List ℕ) → list_all (λ y. nat_lt y x) xs ≡ true → filter (λ y. nat_lt x y) xs ≡ []
filter-none x [] h = refl
filter-none x (y ∷ xs) h =
    let p = and_parts (nat_lt y x) (list_all (λ y. nat_lt y x) xs) h in
    let other : nat_lt x y ≡ false = turned x y p.0 in
    rw other (filter-none x xs p.1)
  where
    turned : (x y : ℕ) → nat_lt y x ≡ true → nat_lt x y ≡ false
    turned x y h = grind (arith, nat_tests)

united-last : (xs : List ℕ) (x : ℕ) → list_all (λ y. nat_lt y x) xs ≡ true → united xs (x ∷ []) ≡ xs ++ x ∷ []
united-last xs x h = λ i. filter-all x xs h i ++ x ∷ filter-none x xs h i

module _ (ks : List Coeff) (xs : List ℕ) (x at : ℕ) (s : State) (below : list_all (λ y. nat_lt y x) xs ≡ true) where
  total-worked : worked operation.Plus (whole_sum (pos 0) (pairs_of ks xs)) (whole_sum (pos 0) (pair_of x (integer (coefficient x ks)) ∷ [])) ≡ Some (whole_sum (pos 0) (pairs_of ks (xs ++ x ∷ [])))
  total-worked =
      ap (λ o. o >>= (λ constant. summed (pairs_of ks xs) (pair_of x (integer (coefficient x ks)) ∷ []) >>= (λ pairs. Some (record { constant = constant; pairs = pairs })))) (sum-integers (pos 0) (pos 0) zero-fits zero-fits zero-fits)
      ∙ ap (λ o. (o >>= Some) >>= (λ pairs. Some (record { constant = integer (pos 0); pairs = pairs }))) (added-last ks xs x below)

  -- one product more
  pub plus-value : (n : ℕ) → coefficient x ks ≡ pos n → operated operation.Plus at (listed_value ks xs (pos 0)) (product_value (pos n) x) s ≡ Ok (listed_value ks (xs ++ x ∷ []) (pos 0), s)
  plus-value n e =
      let b = whole_sum (pos 0) (pair_of x (integer (pos n)) ∷ []) in
      let made : worked operation.Plus (whole_sum (pos 0) (pairs_of ks xs)) b ≡ Some (whole_sum (pos 0) (pairs_of ks (xs ++ x ∷ []))) =
      ap (λ z. worked operation.Plus (whole_sum (pos 0) (pairs_of ks xs)) (whole_sum (pos 0) (pair_of x (integer z) ∷ []))) (sym e) ∙ total-worked in
      operated-step operation.Plus at xs (x ∷ []) (whole_sum (pos 0) (pairs_of ks xs)) b (whole_sum (pos 0) (pairs_of ks (xs ++ x ∷ []))) s refl made
      ∙ ap (λ ys. Ok (value_of ys (Some (whole_sum (pos 0) (pairs_of ks (xs ++ x ∷ [])))), s)) (united-last xs x below)

  pub minus-value : (n : ℕ) → coefficient x ks ≡ negsuc n → operated operation.Minus at (listed_value ks xs (pos 0)) (product_value (pos (suc n)) x) s ≡ Ok (listed_value ks (xs ++ x ∷ []) (pos 0), s)
  minus-value n e =
      let a = whole_sum (pos 0) (pairs_of ks xs) in
      let b = whole_sum (pos 0) (pair_of x (integer (pos (suc n))) ∷ []) in
      let made : worked operation.Minus a b ≡ Some (whole_sum (pos 0) (pairs_of ks (xs ++ x ∷ []))) =
      ap (worked operation.Plus a) (negated-product (pos (suc n)) x)
      ∙ ap (λ z. worked operation.Plus a (whole_sum (pos 0) (pair_of x (integer z) ∷ []))) (sym e) ∙ total-worked in
      operated-step operation.Minus at xs (x ∷ []) a b (whole_sum (pos 0) (pairs_of ks (xs ++ x ∷ []))) s refl made
      ∙ ap (λ ys. Ok (value_of ys (Some (whole_sum (pos 0) (pairs_of ks (xs ++ x ∷ [])))), s)) (united-last xs x below)

-- ---- the constant behind them

module _ (ps : List RatPair) (xs : List ℕ) (at : ℕ) (s : State) where
  constant-worked : (z : ℤ) → InRange z → worked operation.Plus (whole_sum (pos 0) ps) (whole_sum z []) ≡ Some (whole_sum z ps)
  constant-worked z h =
      ap (λ o. o >>= (λ constant. Some (record { constant = constant; pairs = ps }))) (sum-integers (pos 0) z zero-fits h (subst InRange (sym (zero-left z)) h))
      ∙ ap (λ c. Some (whole_sum c ps)) (zero-left z)

  pub plus-constant : (n : ℕ) → n < 2 ^ 127 → operated operation.Plus at (value_of xs (Some (whole_sum (pos 0) ps))) (number_value (pos n)) s ≡ Ok (value_of xs (Some (whole_sum (pos n) ps)), s)
  plus-constant n h = operated-step operation.Plus at xs [] (whole_sum (pos 0) ps) (whole_sum (pos n) []) (whole_sum (pos n) ps) s refl (constant-worked (pos n) h)

  pub minus-constant : (n : ℕ) → suc n < 2 ^ 127 → operated operation.Minus at (value_of xs (Some (whole_sum (pos 0) ps))) (number_value (pos (suc n))) s ≡ Ok (value_of xs (Some (whole_sum (negsuc n) ps)), s)
  minus-constant n h =
      operated-step operation.Minus at xs [] (whole_sum (pos 0) ps) (whole_sum (pos (suc n)) []) (whole_sum (negsuc n) ps) s refl
      (ap (worked operation.Plus (whole_sum (pos 0) ps)) (negated-number (pos (suc n))) ∙ constant-worked (negsuc n) h)

-- ---- the row

difference-zero : (z : ℤ) → InRange z → difference_of (integer z) (integer (pos 0)) ≡ Some (integer z)
unfolding difference_of
difference-zero z h =
    ap (sum_of (integer z)) (negation-integer (pos 0))
    ∙ sum-integers z (pos 0) h zero-fits (subst InRange (sym (zero-right z)) h)
    ∙ ap (λ c. Some (integer c)) (zero-right z)

-- what is compared with 0 is the row
pub row-read : (r : Linear) (xs : List ℕ) → IsNormal r → ascends xs ≡ true → ListedIn xs r.coeffs → row_of r.op (whole_sum r.constant (pairs_of r.coeffs xs)) (whole_sum (pos 0) []) ≡ Some r
row-read r xs normal a h =
    ap (λ o. o >>= (λ constant. normal_of (pairs_of r.coeffs xs ++ []) constant r.op)) (difference-zero r.constant normal.constant_range)
    ∙ ap (λ ps. normal_of ps (integer r.constant) r.op) (append-nil (pairs_of r.coeffs xs))
    ∙ row-is r xs normal a h
