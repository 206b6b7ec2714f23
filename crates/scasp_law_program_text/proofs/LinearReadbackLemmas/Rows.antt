-- The row of listed variables, each with its coefficient in a row in normal form, is this row.
use Rattle.std.proofs.Common.{◌≡◌, ◌≢◌, ℕ, zero, suc, ◌<◌, Bool, true, false, ◌&&◌, ◌||◌, ◌==◌, nat_lt, List, [], ◌∷◌, ◌++◌, map, Some, ℤ, pos, negsuc, int_div, unsigned_abs, refl, sym, ap, subst, ◌∙◌, arith, append-nil}
use Rattle.std.specs.Prelude.{if◌then◌else◌, nat_eq, int_lt}
use Rattle.std.specs.List.{list_all, list_any}
use Rattle.std.proofs.lemmas.Bool.{and_parts, false≢true}
use Rattle.std.proofs.lemmas.Bool.Decides.{nat_tests}
use Rattle.std.proofs.Math.Nat.{div-one}
use Rattle.scasp_list.specs.Each.{Each}
use Rattle.scasp_list.proofs.EachLemmas.{Each-map}
use Rattle.scasp_num.specs.declared.linear.Coeff.{Coeff}
use Rattle.scasp_num.specs.declared.linear.RatPair.{RatPair}
use Rattle.scasp_num.specs.Gcd.{gcd}
use Rattle.scasp_num.specs.Number.{InRange}
use Rattle.scasp_num.specs.Arithmetic.{◌>>=◌, within}
use Rattle.scasp_num.specs.Linear.{Linear, Ascends, IsNormal, integers, common_divisor, divisor, is_zero, leads_below, is_symmetric, is_negated, negated_if, coefficient, shares, normal_form}
use Rattle.scasp_num.specs.Sums.{added, summed, next_multiple, multiple, whole_number, whole, normal_of}
use Rattle.scasp_num.proofs.Gcds.{gcd_comm, gcd-zero}
use Rattle.scasp_num.proofs.Numbers.{ltb_lt}
use Rattle.scasp_syntax.specs.WellFormed.{ascends}
use Rattle.scasp_law_program_text.proofs.LinearReadbackLemmas.WholeNumbers.{gcd-one, integer, within-of, times-one}

-- ---- listed variables

abbrev coeff_of : List Coeff → ℕ → Coeff
coeff_of ks x = record { x = x; c = coefficient x ks }

-- each of these variables with its coefficient, which may be 0
abbrev pub coeffs_of : List Coeff → List ℕ → List Coeff
coeffs_of ks [] = []
coeffs_of ks (x ∷ xs) = coeff_of ks x ∷ coeffs_of ks xs

abbrev pub pair_at : List Coeff → ℕ → RatPair
pair_at ks x = record { x = x; value = integer (coefficient x ks) }

-- the same as pairs
abbrev pub pairs_of : List Coeff → List ℕ → List RatPair
pairs_of ks [] = []
pairs_of ks (x ∷ xs) = pair_at ks x ∷ pairs_of ks xs

-- ---- adding the pairs one by one

not-less : (x y : ℕ) → nat_lt y x ≡ true → nat_lt x y ≡ false
not-less x y h = grind (arith, nat_tests)

pub added-last : (ks : List Coeff) (xs : List ℕ) (x : ℕ) → list_all (λ y. nat_lt y x) xs ≡ true → added x (integer (coefficient x ks)) (pairs_of ks xs) ≡ Some (pairs_of ks (xs ++ x ∷ []))
added-last ks [] x h = refl
added-last ks (y ∷ xs) x h =
    let p = and_parts (nat_lt y x) (list_all (λ y. nat_lt y x) xs) h in
    rw p.0 (ap (λ o. o >>= (λ rest. Some (pair_at ks y ∷ rest))) (added-last ks xs x p.1))

-- what stands in front of an ascending list is below what follows
pub below-front : (xs : List ℕ) (x : ℕ) (ys : List ℕ) → ascends (xs ++ x ∷ ys) ≡ true → list_all (λ y. nat_lt y x) xs ≡ true
below-front [] x ys h = refl
below-front (z ∷ xs) x ys h =
    let p = and_parts (list_all (nat_lt z) (xs ++ x ∷ ys)) (ascends (xs ++ x ∷ ys)) h in
    rw (later xs p.0) (below-front xs x ys p.1)
  where
    later : (zs : List ℕ) → list_all (nat_lt z) (zs ++ x ∷ ys) ≡ true → nat_lt z x ≡ true
    later [] e = (and_parts (nat_lt z x) (list_all (nat_lt z) ys) e).0
    later (u ∷ zs) e = later zs (and_parts (nat_lt z u) (list_all (nat_lt z) (zs ++ x ∷ ys)) e).1

-- the pairs behind these are added behind them
summed-from : (ks : List Coeff) (before xs : List ℕ) → ascends (before ++ xs) ≡ true → summed (pairs_of ks before) (pairs_of ks xs) ≡ Some (pairs_of ks (before ++ xs))
summed-from ks before [] h = ap (λ ys. Some (pairs_of ks ys)) (sym (append-nil before))
summed-from ks before (x ∷ xs) h =
    let whole = append-one before x xs in
    ap (λ o. o >>= (λ next. summed next (pairs_of ks xs))) (added-last ks before x (below-front before x xs h))
    ∙ summed-from ks (before ++ x ∷ []) xs (ap ascends whole ∙ h)
    ∙ ap (λ ys. Some (pairs_of ks ys)) whole
  where
    append-one : (before : List ℕ) (x : ℕ) (xs : List ℕ) → (before ++ x ∷ []) ++ xs ≡ before ++ x ∷ xs
    append-one [] x xs = refl
    append-one (y ∷ before) x xs = ap (λ ys. y ∷ ys) (append-one before x xs)

-- ---- whole numbers

one-multiple : next_multiple (pos 1) (pos 1) ≡ pos 1
one-multiple = rw (gcd-one 1) refl

one-fits : InRange (pos 1)
one-fits = ltb_lt refl

multiple-one : (ks : List Coeff) (xs : List ℕ) → multiple (pos 1) (pairs_of ks xs) ≡ Some (pos 1)
multiple-one ks [] = refl
multiple-one ks (x ∷ xs) =
    ap (λ z. within z >>= (λ next. multiple next (pairs_of ks xs))) one-multiple
    ∙ ap (λ o. o >>= (λ next. multiple next (pairs_of ks xs))) (within-of (pos 1) one-fits)
    ∙ multiple-one ks xs

whole-one : (z : ℤ) → InRange z → whole_number (pos 1) (integer z) ≡ Some z
whole-one z h = ap within (times-one z) ∙ within-of z h

whole-of : (ks : List Coeff) (xs : List ℕ) → ((x : ℕ) → InRange (coefficient x ks)) → whole (pos 1) (pairs_of ks xs) ≡ Some (coeffs_of ks xs)
whole-of ks [] h = refl
whole-of ks (x ∷ xs) h =
    ap (λ o. o >>= (λ c. whole (pos 1) (pairs_of ks xs) >>= (λ rest. Some (record { x = x; c = c } ∷ rest)))) (whole-one (coefficient x ks) (h x))
    ∙ ap (λ o. o >>= (λ rest. Some (coeff_of ks x ∷ rest))) (whole-of ks xs h)

pub coefficient-fits : (ks : List Coeff) (x : ℕ) → Each (λ k. InRange k.c) ks → InRange (coefficient x ks)
coefficient-fits [] x h = zero-fits
  where
    zero-fits : InRange (pos 0)
    zero-fits = ltb_lt refl
coefficient-fits (k ∷ ks) x h = by (k.x == x) (coefficient-fits ks x h.1)
  where
    by : (b : Bool) → InRange (coefficient x ks) → InRange (if b then k.c else coefficient x ks)
    by true e = h.0
    by false e = e

-- ---- coefficients that are 0

-- those that are not
abbrev nonzeros : List Coeff → List Coeff
nonzeros [] = []
nonzeros (k ∷ ks) = if is_zero k.c then nonzeros ks else k ∷ nonzeros ks

is-zero : (z : ℤ) → is_zero z ≡ true → z ≡ pos 0
is-zero (pos zero) h = refl
is-zero (pos (suc n)) h = cc
is-zero (negsuc n) h = cc

divisor-nonzeros : (ks : List Coeff) → common_divisor (map (λ k. k.c) ks) ≡ common_divisor (map (λ k. k.c) (nonzeros ks))
divisor-nonzeros [] = refl
divisor-nonzeros (k ∷ ks) = by (is_zero k.c) refl (divisor-nonzeros ks)
  where
    by : (b : Bool) → is_zero k.c ≡ b → common_divisor (map (λ k. k.c) ks) ≡ common_divisor (map (λ k. k.c) (nonzeros ks))
        → gcd (unsigned_abs k.c) (common_divisor (map (λ k. k.c) ks)) ≡ common_divisor (map (λ k. k.c) (if b then nonzeros ks else k ∷ nonzeros ks))
    by true z e =
        ap (λ c. gcd (unsigned_abs c) (common_divisor (map (λ k. k.c) ks))) (is-zero k.c z)
        ∙ gcd_comm 0 (common_divisor (map (λ k. k.c) ks)) ∙ gcd-zero (common_divisor (map (λ k. k.c) ks)) ∙ e
    by false z e = ap (gcd (unsigned_abs k.c)) e

leads-nonzeros : (ks : List Coeff) (z : ℤ) → leads_below ks z ≡ leads_below (nonzeros ks) z
leads-nonzeros [] z = refl
leads-nonzeros (k ∷ ks) z = by (is_zero k.c) refl (leads-nonzeros ks z)
  where
    by : (b : Bool) → is_zero k.c ≡ b → leads_below ks z ≡ leads_below (nonzeros ks) z
        → (if b then leads_below ks z else int_lt k.c (pos 0)) ≡ leads_below (if b then nonzeros ks else k ∷ nonzeros ks) z
    by true q e = e
    by false q e = rw q refl

-- divided by 1
over-one : (z : ℤ) → int_div z (pos 1) ≡ z
over-one (pos n) = ap pos (div-one n)
over-one (negsuc n) = rw (div-one (suc n)) refl

shares-nonzeros : (ks : List Coeff) → shares false 1 ks ≡ nonzeros ks
shares-nonzeros [] = refl
shares-nonzeros (k ∷ ks) = by (is_zero k.c) (shares-nonzeros ks)
  where
    by : (b : Bool) → shares false 1 ks ≡ nonzeros ks → (if b then shares false 1 ks else (record { x = k.x; c = int_div k.c (pos 1) } ∷ shares false 1 ks)) ≡ (if b then nonzeros ks else k ∷ nonzeros ks)
    by true e = e
    by false e = ap (λ c. record { x = k.x; c = c } ∷ shares false 1 ks) (over-one k.c) ∙ ap (λ rest. k ∷ rest) e

-- ---- what is left of the listed ones is the row's

coefficient-none : (x : ℕ) (ks : List Coeff) → Each (λ k. x < k.x) ks → coefficient x ks ≡ pos 0
coefficient-none x [] h = refl
coefficient-none x (k ∷ ks) h = let other : (k.x == x) ≡ false = apart k.x h.0 in rw other (coefficient-none x ks h.1)
  where
    apart : (y : ℕ) → x < y → (y == x) ≡ false
    apart y h = grind (arith, nat_tests)

coeffs-later : (k : Coeff) (ks : List Coeff) (xs : List ℕ) → list_all (nat_lt k.x) xs ≡ true → coeffs_of (k ∷ ks) xs ≡ coeffs_of ks xs
coeffs-later k ks [] h = refl
coeffs-later k ks (x ∷ xs) h =
    let p = and_parts (nat_lt k.x x) (list_all (nat_lt k.x) xs) h in
    let other : (k.x == x) ≡ false = apart k.x p.0 in
    rw other (ap (λ rest. coeff_of ks x ∷ rest) (coeffs-later k ks xs p.1))
  where
    apart : (y : ℕ) → nat_lt y x ≡ true → (y == x) ≡ false
    apart y h = grind (arith, nat_tests)

abbrev pub ListedIn : List ℕ → List Coeff → Type 0
ListedIn xs ks = list_all (λ (k : Coeff). list_any (nat_eq k.x) xs) ks ≡ true

-- a row's variables that are listed, where the first is none of them
listed-later : (x : ℕ) (xs : List ℕ) (ks : List Coeff) → Each (λ k. x < k.x) ks → ListedIn (x ∷ xs) ks → ListedIn xs ks
listed-later x xs [] a h = refl
listed-later x xs (k ∷ ks) a h =
    let p = and_parts (list_any (nat_eq k.x) (x ∷ xs)) (list_all (λ (j : Coeff). list_any (nat_eq j.x) (x ∷ xs)) ks) h in
    let other : nat_eq k.x x ≡ false = apart k.x a.0 in
    let here : list_any (nat_eq k.x) xs ≡ true = ap (λ b. b || list_any (nat_eq k.x) xs) (sym other) ∙ p.0 in
    rw here (listed-later x xs ks a.1 p.1)
  where
    apart : (y : ℕ) → x < y → nat_eq y x ≡ false
    apart y h = grind (arith, nat_tests)

-- the first of a row's variables is the first that is listed, or comes behind it
data First (x y : ℕ) : Type 0 where
  same : y ≡ x → First x y
  behind : x < y → First x y

first-of : (x y : ℕ) (xs : List ℕ) → list_all (nat_lt x) xs ≡ true → list_any (nat_eq y) (x ∷ xs) ≡ true → First x y
first-of x y xs a h = by (nat_eq y x) refl h
  where
    equal : nat_eq y x ≡ true → y ≡ x
    equal e = grind (arith, nat_tests)

    less : (z : ℕ) → nat_lt x z ≡ true → nat_eq y z ≡ true → x < y
    less z a e = grind (arith, nat_tests)

    one : (z : ℕ) (others b : Bool) → nat_lt x z ≡ true → nat_eq y z ≡ b → (others ≡ true → x < y) → (b || others) ≡ true → x < y
    one z others true a q f e = less z a q
    one z others false a q f e = f e

    among : (zs : List ℕ) → list_all (nat_lt x) zs ≡ true → list_any (nat_eq y) zs ≡ true → x < y
    among [] a e = absurd (false≢true e)
    among (z ∷ zs) a e =
        let p = and_parts (nat_lt x z) (list_all (nat_lt x) zs) a in
        one z (list_any (nat_eq y) zs) (nat_eq y z) p.0 refl (λ f. among zs p.1 f) e

    by : (b : Bool) → nat_eq y x ≡ b → (b || list_any (nat_eq y) xs) ≡ true → First x y
    by true q e = same (equal q)
    by false q e = behind (among xs a e)

nonzero-first : (k : Coeff) (ks : List Coeff) → is_zero k.c ≡ false → nonzeros (k ∷ ks) ≡ k ∷ nonzeros ks
nonzero-first k ks h = rw h refl

is-nonzero : (z : ℤ) → (z ≡ pos 0 → ⊥) → is_zero z ≡ false
is-nonzero (pos zero) h = absurd (h refl)
is-nonzero (pos (suc n)) h = refl
is-nonzero (negsuc n) h = refl

pub nonzeros-are : (xs : List ℕ) (ks : List Coeff) → ascends xs ≡ true → Ascends ks → Each (λ k. k.c ≢ pos 0) ks → ListedIn xs ks → nonzeros (coeffs_of ks xs) ≡ ks
nonzeros-are [] [] a b c h = refl
nonzeros-are [] (k ∷ ks) a b c h = absurd (false≢true h)
nonzeros-are (x ∷ xs) [] a b c h = nonzeros-are xs [] (and_parts (list_all (nat_lt x) xs) (ascends xs) a).1 b c refl
nonzeros-are (x ∷ xs) (k ∷ ks) a b c h =
    let p = and_parts (list_all (nat_lt x) xs) (ascends xs) a in
    let q = and_parts (list_any (nat_eq k.x) (x ∷ xs)) (list_all (λ (j : Coeff). list_any (nat_eq j.x) (x ∷ xs)) ks) h in
    elim (first-of x k.x xs p.0 q.0) [
      | same e ↦ found e p.0 (subst (λ y. Each (λ (j : Coeff). y < j.x) ks) e b.0) (nonzeros-are xs ks p.1 b.1 c.1 (listed-later x xs ks (subst (λ y. Each (λ (j : Coeff). y < j.x) ks) e b.0) q.1))
      | behind l ↦ left-out l (Each-map (λ (j : Coeff). k.x < j.x) (λ j. x < j.x) (λ j g. omega arith) ks b.0) (λ d. nonzeros-are xs (k ∷ ks) p.1 b c (listed-later x xs (k ∷ ks) d h))
    ]
  where
    here : (z : ℕ) → k.x ≡ z → coefficient z (k ∷ ks) ≡ k.c
    here z e = let is : (k.x == z) ≡ true = test k.x e in rw is refl
      where
        test : (y : ℕ) → y ≡ z → (y == z) ≡ true
        test y e = grind (arith, nat_tests)

    found : k.x ≡ x → list_all (nat_lt x) xs ≡ true → Each (λ (j : Coeff). x < j.x) ks → nonzeros (coeffs_of ks xs) ≡ ks → nonzeros (coeffs_of (k ∷ ks) (x ∷ xs)) ≡ k ∷ ks
    found e l d rest =
        let value : coefficient x (k ∷ ks) ≡ k.c = here x e in
        let first : coeff_of (k ∷ ks) x ≡ k = (λ i. record { x = sym e i; c = value i }) in
        ap (λ j. nonzeros (j ∷ coeffs_of (k ∷ ks) xs)) first
        ∙ nonzero-first k (coeffs_of (k ∷ ks) xs) (is-nonzero k.c c.0)
        ∙ ap (λ js. k ∷ nonzeros js) (coeffs-later k ks xs (subst (λ y. list_all (nat_lt y) xs ≡ true) (sym e) l))
        ∙ ap (λ js. k ∷ js) rest

    left-out : x < k.x → Each (λ (j : Coeff). x < j.x) ks → (Each (λ (j : Coeff). x < j.x) (k ∷ ks) → nonzeros (coeffs_of (k ∷ ks) xs) ≡ k ∷ ks) → nonzeros (coeffs_of (k ∷ ks) (x ∷ xs)) ≡ k ∷ ks
    left-out l d rest = rw (coefficient-none x (k ∷ ks) (l, d)) (rest (l, d))

-- ---- the row

module _ (r : Linear) (xs : List ℕ) (normal : IsNormal r) (a : ascends xs ≡ true) (h : ListedIn xs r.coeffs) where
  listed : Linear
  listed = record { coeffs = coeffs_of r.coeffs xs; constant = r.constant; op = r.op }

  left : nonzeros (coeffs_of r.coeffs xs) ≡ r.coeffs
  left = nonzeros-are xs r.coeffs a normal.ascending normal.nonzero h

  same-divisor : common_divisor (integers listed) ≡ common_divisor (integers r)
  unfolding listed
  same-divisor = ap (gcd (unsigned_abs r.constant)) (divisor-nonzeros (coeffs_of r.coeffs xs) ∙ ap (λ ks. common_divisor (map (λ (k : Coeff). k.c) ks)) left)

  divisor-one : divisor listed ≡ 1
  divisor-one = let least = normal.primitive in omega (arith, same-divisor, least)

  not-negated : is_negated listed ≡ false
  unfolding listed
  not-negated =
      ap (λ b. is_symmetric r.op && b) (leads-nonzeros (coeffs_of r.coeffs xs) r.constant ∙ ap (λ ks. leads_below ks r.constant) left)
      ∙ normal.sign

  normal-is : normal_form listed ≡ r
  unfolding normal_form listed
  normal-is =
      let divided : shares (is_negated listed) (divisor listed) (coeffs_of r.coeffs xs) ≡ r.coeffs =
      (λ i. shares (not-negated i) (divisor-one i) (coeffs_of r.coeffs xs)) ∙ shares-nonzeros (coeffs_of r.coeffs xs) ∙ left in
      let last : negated_if (is_negated listed) (int_div r.constant (pos (divisor listed))) ≡ r.constant =
      (λ i. negated_if (not-negated i) (int_div r.constant (pos (divisor-one i)))) ∙ over-one r.constant in
      λ i. record { coeffs = divided i; constant = last i; op = r.op }

  -- the pairs of the listed variables have this row as their normal form
  pub row-is : normal_of (pairs_of r.coeffs xs) (integer r.constant) r.op ≡ Some r
  unfolding normal_of listed
  row-is =
      let f = λ (cs : List Coeff) (c : ℤ). Some (normal_form (record { coeffs = cs; constant = c; op = r.op })) in
      ap (λ o. o >>= (λ sums. multiple (pos 1) sums >>= (λ l. whole l sums >>= (λ cs. whole_number l (integer r.constant) >>= f cs)))) (summed-from r.coeffs [] xs a)
      ∙ ap (λ o. o >>= (λ l. whole l (pairs_of r.coeffs xs) >>= (λ cs. whole_number l (integer r.constant) >>= f cs))) (multiple-one r.coeffs xs)
      ∙ ap (λ o. o >>= (λ cs. whole_number (pos 1) (integer r.constant) >>= f cs)) (whole-of r.coeffs xs (λ x. coefficient-fits r.coeffs x normal.range))
      ∙ ap (λ o. o >>= f (coeffs_of r.coeffs xs)) (whole-one r.constant normal.constant_range)
      ∙ ap Some normal-is
