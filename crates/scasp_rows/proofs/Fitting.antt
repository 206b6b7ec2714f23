-- A sum of two rows is made exactly where its products and sums lie in range.
use Rattle.std.proofs.Common.{◌≡◌, ℕ, suc, ◌<◌, ◌^◌, ◌==◌, nat_lt, Bool, true, false, ◌&&◌, ℤ, pos, negsuc, ◌+ℤ◌, ◌*ℤ◌, neg_ℤ, unsigned_abs, int_div, Some, None, Option, is_some, List, [], ◌∷◌, ◌++◌, refl, sym, ap, subst, ◌∙◌, arith, append-nil, append_assoc}
use Rattle.std.specs.Prelude.{if◌then◌else◌, Err, IsOk}
use Rattle.std.specs.List.{list_all}
use Rattle.std.proofs.lemmas.Bool.{and_parts, eqb-true}
use Rattle.std.proofs.lemmas.Bool.Decides.{nat_tests}
use Rattle.std.proofs.lemmas.List.Folds.{list_all-append}
use Rattle.std.proofs.Math.IntN.{*ℤ-zero}
use Rattle.std.proofs.lemmas.Int.{ints}
use Rattle.std.proofs.Math.Nat.{div-one}
use Rattle.scasp_num.specs.declared.linear.Coeff.{Coeff}
use Rattle.scasp_num.specs.declared.linear.RatPair.{RatPair}
use Rattle.scasp_num.specs.declared.linear.Op.{Op}
use Rattle.scasp_num.specs.declared.linear.Op.TheVariants as op
use Rattle.scasp_num.specs.Gcd.{gcd, gcd_within}
use Rattle.scasp_num.specs.Number.{Number, IsReduced, IsFraction, InRange}
use Rattle.scasp_num.specs.Arithmetic.{◌>>=◌, in_range, within, sum_of, unsigned_abs-neg}
use Rattle.scasp_list.specs.Each.{Each}
use Rattle.scasp_list.proofs.EachLemmas.{Each-map, Each-append, Each-both}
use Rattle.scasp_num.specs.Linear.{Linear, Ascends, IsNormal, coefficient, merged, normal_form}
use Rattle.scasp_num.specs.Sums
use Rattle.scasp_num.specs.Sums.{added, summed, multiple, whole_number, normal_of}
use Rattle.scasp_num.proofs.Numbers.{ltb_lt, lt_ltb, some-same, within-some}
use Rattle.scasp_num.proofs.Exact.{bind-some, lowest-exact, lowest-fits, sum_of-exact, sum_of-fits}
use Rattle.scasp_num.proofs.SameNumber.{same_number}
use Rattle.scasp_num.proofs.Joins.{coefficient-range, later, merged-range, merged-Ascends}
use Rattle.scasp_rows.specs.declared.steps.StepErr.TheVariants as step_err
use Rattle.scasp_rows.specs.Samples.{strict, alternatives}
use Rattle.scasp_rows.specs.Steps.{whole, times, terms_sum, joined, row_sum, products, sums_with, step_integers, pair_sum, pairs_fit, may_step, step_of, sum_or_overflow}
use Rattle.scasp_rows.proofs.Sums.{scaled}
use Rattle.scasp_rows.proofs.Values.{coefficient-absent}

-- ---- whole numbers

gcd-one : (n : ℕ) → gcd n 1 ≡ 1
unfolding gcd gcd_within
gcd-one n = refl

pub reduced-one : (z : ℤ) → IsReduced z (pos 1)
reduced-one z = record { positive = omega (arith, ints); lowest = gcd-one (unsigned_abs z) }

abbrev pub num_of : ℤ → Number
num_of z = record { num = z; den = pos 1; reduced = reduced-one z }

over-one : (z : ℤ) → int_div z (pos 1) ≡ z
over-one (pos n) = ap pos (div-one n)
over-one (negsuc n) = ap (λ k. neg_ℤ (pos k)) (div-one (suc n))

and-true : (b : Bool) → (b && true) ≡ b
and-true true = refl
and-true false = refl

whole-fits : (z : ℤ) → is_some (whole z) ≡ in_range z
whole-fits z =
    lowest-fits z (pos 1) (λ e. cc) ∙ ap (λ g. in_range (int_div z (pos g)) && (in_range (int_div (pos 1) (pos g)) && true)) (gcd-one (unsigned_abs z)) ∙ ap (λ w. in_range w && true) (over-one z) ∙ and-true (in_range z)

whole-num : (z : ℤ) (q : Number) → Some q ≡ whole z → q ≡ num_of z
whole-num z q e = same_number q (num_of z) z (pos 1) (λ f. cc) (lowest-exact q z (pos 1) e) refl

-- the whole number where it lies in range
pub whole-is : (z : ℤ) → whole z ≡ (if in_range z then Some (num_of z) else None)
whole-is z = by (whole z) refl (in_range z) refl
  where
    by : (o : Option Number) → whole z ≡ o → (b : Bool) → in_range z ≡ b → o ≡ (if b then Some (num_of z) else None)
    by (Some q) e true f = ap (λ (n : Number). Some n) (whole-num z q (sym e))
    by None e false f = refl
    by (Some q) e false f = absurd (let wrong : true ≡ false = sym (ap (is_some {T = Number}) e) ∙ whole-fits z ∙ f in cc)
    by None e true f = absurd (let wrong : false ≡ true = sym (ap (is_some {T = Number}) e) ∙ whole-fits z ∙ f in cc)

times-one : (z : ℤ) → z *ℤ pos 1 ≡ z
times-one z = omega (arith, ints)

-- the sum of two whole numbers in range
sum-fits : (y z : ℤ) → in_range y ≡ true → in_range z ≡ true → is_some (sum_of (num_of y) (num_of z)) ≡ in_range (y +ℤ z)
sum-fits y z e f =
    sum_of-fits (num_of y) (num_of z) ∙ ap (λ g. list_all in_range ((y *ℤ int_div (pos 1) (pos g)) ∷ (z *ℤ int_div (pos 1) (pos g)) ∷ (y *ℤ int_div (pos 1) (pos g) +ℤ z *ℤ int_div (pos 1) (pos g)) ∷ (pos 1 *ℤ int_div (pos 1) (pos g)) ∷ [])) (gcd-one 1) ∙ (λ i. in_range (times-one y i) && (in_range (times-one z i) && (in_range (times-one y i +ℤ times-one z i) && true))) ∙ (λ i. e i && (f i && (in_range (y +ℤ z) && true))) ∙ and-true (in_range (y +ℤ z))

sum-num : (y z : ℤ) (q : Number) → Some q ≡ sum_of (num_of y) (num_of z) → q ≡ num_of (y +ℤ z)
sum-num y z q e =
    let h = sum_of-exact (num_of y) (num_of z) q e in
    let same : y *ℤ pos 1 +ℤ z *ℤ pos 1 ≡ y +ℤ z = omega (arith, ints) in
    same_number q (num_of (y +ℤ z)) (y +ℤ z) (pos 1) (λ f. cc) (subst (λ n. IsFraction q n (pos 1)) same h) refl

pub sum-is : (y z : ℤ) → in_range y ≡ true → in_range z ≡ true → sum_of (num_of y) (num_of z) ≡ (if in_range (y +ℤ z) then Some (num_of (y +ℤ z)) else None)
sum-is y z r s = by (sum_of (num_of y) (num_of z)) refl (in_range (y +ℤ z)) refl
  where
    by : (o : Option Number) → sum_of (num_of y) (num_of z) ≡ o → (b : Bool) → in_range (y +ℤ z) ≡ b → o ≡ (if b then Some (num_of (y +ℤ z)) else None)
    by (Some q) e true f = ap (λ (n : Number). Some n) (sum-num y z q (sym e))
    by None e false f = refl
    by (Some q) e false f = absurd (let wrong : true ≡ false = sym (ap (is_some {T = Number}) e) ∙ sum-fits y z r s ∙ f in cc)
    by None e true f = absurd (let wrong : false ≡ true = sym (ap (is_some {T = Number}) e) ∙ sum-fits y z r s ∙ f in cc)

-- ---- terms with whole numbers

-- the terms as pairs with numbers
abbrev pub paired : List Coeff → List RatPair
paired [] = []
paired (k ∷ ks) = record { x = k.x; value = num_of k.c } ∷ paired ks

abbrev pub InRanges : List Coeff → Type 0
InRanges ks = Each (λ k. in_range k.c ≡ true) ks

times-is : (a : ℤ) (ks : List Coeff) → times a ks ≡ (if list_all in_range (products a ks) then Some (paired (scaled a ks)) else None)
times-is a [] = refl
times-is a (k ∷ ks) = by (in_range (a *ℤ k.c)) refl (list_all in_range (products a ks)) refl (times-is a ks)
  where
    last : (b c : Bool) → times a ks ≡ (if c then Some (paired (scaled a ks)) else None) → ((if b then Some (num_of (a *ℤ k.c)) else None) >>= (λ product. times a ks >>= (λ rest. Some (record { x = k.x; value = product } ∷ rest)))) ≡ (if b && c then Some (paired (scaled a (k ∷ ks))) else None)
    last false c i = refl
    last true true i = ap (λ (o : Option (List RatPair)). o >>= (λ rest. Some (record { x = k.x; value = num_of (a *ℤ k.c) } ∷ rest))) i
    last true false i = ap (λ (o : Option (List RatPair)). o >>= (λ rest. Some (record { x = k.x; value = num_of (a *ℤ k.c) } ∷ rest))) i

    by : (b : Bool) → in_range (a *ℤ k.c) ≡ b → (c : Bool) → list_all in_range (products a ks) ≡ c → times a ks ≡ (if list_all in_range (products a ks) then Some (paired (scaled a ks)) else None) → times a (k ∷ ks) ≡ (if b && c then Some (paired (scaled a (k ∷ ks))) else None)
    by b e c f i =
        ap (λ (o : Option Number). o >>= (λ product. times a ks >>= (λ rest. Some (record { x = k.x; value = product } ∷ rest)))) (whole-is (a *ℤ k.c) ∙ ap (λ t. if t then Some (num_of (a *ℤ k.c)) else None) e) ∙ last b c (i ∙ ap (λ t. if t then Some (paired (scaled a ks)) else None) f)

-- adding a whole number to a variable is merging its coefficient
pub added-merged : (x : ℕ) (c : ℤ) → in_range c ≡ true → (ks : List Coeff) → InRanges ks → added x (num_of c) (paired ks) ≡ (merged x c ks >>= (λ out. Some (paired out)))
added-merged x c h [] r = refl
added-merged x c h (k ∷ ks) r = by (nat_lt k.x x) (k.x == x) refl (added-merged x c h ks r.1)
  where
    sum : (b : Bool) → in_range (k.c +ℤ c) ≡ b → (sum_of (num_of k.c) (num_of c) >>= (λ sum. Some (record { x = x; value = sum } ∷ paired ks))) ≡ ((within (k.c +ℤ c) >>= (λ sum. Some (record { x = x; c = sum } ∷ ks))) >>= (λ out. Some (paired out)))
    sum b e = ap (λ (o : Option Number). o >>= (λ sum. Some (record { x = x; value = sum } ∷ paired ks))) (sum-is k.c c r.0 h ∙ ap (λ t. if t then Some (num_of (k.c +ℤ c)) else None) e) ∙ two b ∙ sym (ap (λ t. ((if t then Some (k.c +ℤ c) else None) >>= (λ sum. Some (record { x = x; c = sum } ∷ ks))) >>= (λ out. Some (paired out))) e)
      where
        two : (b : Bool) → ((if b then Some (num_of (k.c +ℤ c)) else None) >>= (λ sum. Some (record { x = x; value = sum } ∷ paired ks))) ≡ (((if b then Some (k.c +ℤ c) else None) >>= (λ sum. Some (record { x = x; c = sum } ∷ ks))) >>= (λ out. Some (paired out)))
        two true = refl
        two false = refl

    rest : (o : Option (List Coeff)) → ((o >>= (λ out. Some (paired out))) >>= (λ rest. Some (record { x = k.x; value = num_of k.c } ∷ rest))) ≡ ((o >>= (λ rest. Some (k ∷ rest))) >>= (λ out. Some (paired out)))
    rest None = refl
    rest (Some out) = refl

    by : (s t : Bool) → (k.x == x) ≡ t → added x (num_of c) (paired ks) ≡ (merged x c ks >>= (λ out. Some (paired out))) → (if s then (added x (num_of c) (paired ks) >>= (λ rest. Some (record { x = k.x; value = num_of k.c } ∷ rest))) else (if t then (sum_of (num_of k.c) (num_of c) >>= (λ sum. Some (record { x = x; value = sum } ∷ paired ks))) else Some (record { x = x; value = num_of c } ∷ record { x = k.x; value = num_of k.c } ∷ paired ks))) ≡ ((if s then (merged x c ks >>= (λ rest. Some (k ∷ rest))) else (if t then (within (k.c +ℤ c) >>= (λ sum. Some (record { x = x; c = sum } ∷ ks))) else Some (record { x = x; c = c } ∷ k ∷ ks))) >>= (λ out. Some (paired out)))
    by true t e i = ap (λ (o : Option (List RatPair)). o >>= (λ rest. Some (record { x = k.x; value = num_of k.c } ∷ rest))) i ∙ rest (merged x c ks)
    by false true e i = sum (in_range (k.c +ℤ c)) refl
    by false false e i = refl

-- the coefficients merged one by one
abbrev pub all_merged : List Coeff → List Coeff → Option (List Coeff)
all_merged ks [] = Some ks
all_merged ks (j ∷ js) = merged j.x j.c ks >>= (λ next. all_merged next js)

abbrev pub Fit : List Coeff → Type 0
Fit ks = Each (λ k. InRange k.c) ks

tested : (ks : List Coeff) → Fit ks → InRanges ks
tested = Each-map (λ (k : Coeff). InRange k.c) (λ k. in_range k.c ≡ true) (λ k h. lt_ltb h)

summed-merged : (ks js : List Coeff) → Fit ks → Fit js → summed (paired ks) (paired js) ≡ (all_merged ks js >>= (λ out. Some (paired out)))
summed-merged ks [] f g = refl
summed-merged ks (j ∷ js) f g =
    ap (λ (o : Option (List RatPair)). o >>= (λ next. summed next (paired js))) (added-merged j.x j.c (lt_ltb g.0) ks (tested ks f)) ∙ by (merged j.x j.c ks) refl (λ out e. summed-merged out js (merged-range j.x j.c g.0 ks out e f) g.1)
  where
    by : (o : Option (List Coeff)) → o ≡ merged j.x j.c ks → ((out : List Coeff) → Some out ≡ merged j.x j.c ks → summed (paired out) (paired js) ≡ (all_merged out js >>= (λ out. Some (paired out)))) → ((o >>= (λ out. Some (paired out))) >>= (λ next. summed next (paired js))) ≡ ((o >>= (λ next. all_merged next js)) >>= (λ out. Some (paired out)))
    by None e rest = refl
    by (Some out) e rest = rest out e

all_merged-fit : (ks js out : List Coeff) → Some out ≡ all_merged ks js → Fit ks → Fit js → Fit out
all_merged-fit ks [] out e f g = let same : ks ≡ out = cc in subst Fit same f
all_merged-fit ks (j ∷ js) out e f g =
    let n = bind-some (merged j.x j.c ks) (λ next. all_merged next js) out e in
    all_merged-fit n.0 js out n.2 (merged-range j.x j.c g.0 ks n.0 n.1 f) g.1

multiple-one : (ks : List Coeff) → multiple (pos 1) (paired ks) ≡ Some (pos 1)
unfolding gcd gcd_within
multiple-one [] = refl
multiple-one (k ∷ ks) = multiple-one ks

whole_number-one : (c : ℤ) → in_range c ≡ true → whole_number (pos 1) (num_of c) ≡ Some c
whole_number-one c h = ap within (times-one c) ∙ ap (λ t. if t then Some c else None) h

whole-one : (ks : List Coeff) → InRanges ks → Sums.whole (pos 1) (paired ks) ≡ Some ks
whole-one [] h = refl
whole-one (k ∷ ks) h = ap (λ (o : Option ℤ). o >>= (λ c. Sums.whole (pos 1) (paired ks) >>= (λ rest. Some (record { x = k.x; c = c } ∷ rest)))) (whole_number-one k.c h.0) ∙ ap (λ (o : Option (List Coeff)). o >>= (λ rest. Some (k ∷ rest))) (whole-one ks h.1)

-- the normal form of whole pairs is that of their merged coefficients
pub normal-merged : (ks : List Coeff) (c : ℤ) (o : Op) → Fit ks → in_range c ≡ true → normal_of (paired ks) (num_of c) o ≡ (all_merged [] ks >>= (λ out. Some (normal_form (record { coeffs = out; constant = c; op = o }))))
unfolding normal_of
normal-merged ks c o f h =
    let last = λ (sums : List RatPair). multiple (pos 1) sums >>= (λ l. Sums.whole l sums >>= (λ cs. whole_number l (num_of c) >>= (λ z. Some (normal_form (record { coeffs = cs; constant = z; op = o }))))) in
    ap (λ (s : Option (List RatPair)). s >>= last) (summed-merged [] ks tt f) ∙ by (all_merged [] ks) refl
  where
    done : (out : List Coeff) → Fit out → (multiple (pos 1) (paired out) >>= (λ l. Sums.whole l (paired out) >>= (λ cs. whole_number l (num_of c) >>= (λ z. Some (normal_form (record { coeffs = cs; constant = z; op = o })))))) ≡ Some (normal_form (record { coeffs = out; constant = c; op = o }))
    done out g =
        ap (λ (s : Option ℤ). s >>= (λ l. Sums.whole l (paired out) >>= (λ cs. whole_number l (num_of c) >>= (λ z. Some (normal_form (record { coeffs = cs; constant = z; op = o })))))) (multiple-one out) ∙ ap (λ (s : Option (List Coeff)). s >>= (λ cs. whole_number (pos 1) (num_of c) >>= (λ z. Some (normal_form (record { coeffs = cs; constant = z; op = o }))))) (whole-one out (tested out g)) ∙ ap (λ (s : Option ℤ). s >>= (λ z. Some (normal_form (record { coeffs = out; constant = z; op = o })))) (whole_number-one c h)

    by : (s : Option (List Coeff)) → s ≡ all_merged [] ks → ((s >>= (λ out. Some (paired out))) >>= (λ sums. multiple (pos 1) sums >>= (λ l. Sums.whole l sums >>= (λ cs. whole_number l (num_of c) >>= (λ z. Some (normal_form (record { coeffs = cs; constant = z; op = o }))))))) ≡ (s >>= (λ out. Some (normal_form (record { coeffs = out; constant = c; op = o }))))
    by None e = refl
    by (Some out) e = done out (all_merged-fit [] ks out e tt f)

-- ---- where merging has a result

merged-end : (y : ℕ) (c : ℤ) (ks : List Coeff) → Each (λ k. k.x < y) ks → merged y c ks ≡ Some (ks ++ record { x = y; c = c } ∷ [])
merged-end y c [] h = refl
merged-end y c (k ∷ ks) h =
    ap (λ t. if t then (merged y c ks >>= (λ rest. Some (k ∷ rest))) else (if k.x == y then (within (k.c +ℤ c) >>= (λ sum. Some (record { x = y; c = sum } ∷ ks))) else Some (record { x = y; c = c } ∷ k ∷ ks))) (lt_ltb h.0) ∙ ap (λ (o : Option (List Coeff)). o >>= (λ rest. Some (k ∷ rest))) (merged-end y c ks h.1)

-- terms that ascend are merged as they are
merged-ascending : (ks js : List Coeff) → Each (λ j. Each (λ k. k.x < j.x) ks) js → Ascends js → all_merged ks js ≡ Some (ks ++ js)
merged-ascending ks [] h a = ap (λ (xs : List Coeff). Some xs) (sym (append-nil ks))
merged-ascending ks (j ∷ js) h a =
    ap (λ (o : Option (List Coeff)). o >>= (λ next. all_merged next js)) (merged-end j.x j.c ks h.0) ∙ merged-ascending (ks ++ j ∷ []) js (Each-map (λ i. Each (λ k. k.x < i.x) ks × (j.x < i.x)) (λ i. Each (λ k. k.x < i.x) (ks ++ j ∷ [])) (λ i g. Each-append (λ k. k.x < i.x) ks (j ∷ []) g.0 (g.1, tt)) js (Each-both (λ i. Each (λ k. k.x < i.x) ks) (λ i. j.x < i.x) js h.1 a.0)) a.1 ∙ ap (λ (xs : List Coeff). Some xs) (append_assoc ks (j ∷ []) js)

all_merged-append : (ks xs ys : List Coeff) → all_merged ks (xs ++ ys) ≡ (all_merged ks xs >>= (λ next. all_merged next ys))
all_merged-append ks [] ys = refl
all_merged-append ks (x ∷ xs) ys = by (merged x.x x.c ks) (λ next. all_merged-append next xs ys)
  where
    by : (o : Option (List Coeff)) → ((next : List Coeff) → all_merged next (xs ++ ys) ≡ (all_merged next xs >>= (λ n. all_merged n ys))) → (o >>= (λ next. all_merged next (xs ++ ys))) ≡ ((o >>= (λ next. all_merged next xs)) >>= (λ n. all_merged n ys))
    by None h = refl
    by (Some next) h = h next

-- one coefficient has a place, or a sum in range
merged-some : (y : ℕ) (c : ℤ) (ks : List Coeff) → in_range c ≡ true → Ascends ks → is_some (merged y c ks) ≡ in_range (coefficient y ks +ℤ c)
merged-some y c [] h a = sym (ap in_range (plain c) ∙ h)
  where
    plain : (c : ℤ) → pos 0 +ℤ c ≡ c
    plain c = omega (arith, ints)
merged-some y c (k ∷ ks) h a = by (nat_lt k.x y) refl (k.x == y) refl (merged-some y c ks h a.1)
  where
    bound : (o : Option (List Coeff)) → is_some (o >>= (λ rest. Some (k ∷ rest))) ≡ is_some o
    bound None = refl
    bound (Some rest) = refl

    ranged : (t : Bool) → is_some ((if t then Some (k.c +ℤ c) else None) >>= (λ sum. Some (record { x = y; c = sum } ∷ ks))) ≡ t
    ranged true = refl
    ranged false = refl

    by : (s : Bool) → nat_lt k.x y ≡ s → (t : Bool) → (k.x == y) ≡ t → is_some (merged y c ks) ≡ in_range (coefficient y ks +ℤ c) → is_some (if s then (merged y c ks >>= (λ rest. Some (k ∷ rest))) else (if t then (within (k.c +ℤ c) >>= (λ sum. Some (record { x = y; c = sum } ∷ ks))) else Some (record { x = y; c = c } ∷ k ∷ ks))) ≡ in_range ((if t then k.c else coefficient y ks) +ℤ c)
    by true e false f i = bound (merged y c ks) ∙ i
    by true e true f i = let less : k.x < y = ltb_lt e in let same : k.x ≡ y = eqb-true k.x y f in absurd (omega arith)
    by false e true f i = ranged (in_range (k.c +ℤ c))
    by false e false f i =
        let more : y < k.x = later k.x y e f in
        let none : coefficient y ks ≡ pos 0 = coefficient-absent y k.x ks (omega arith) a.0 in
        let sum : coefficient y ks +ℤ c ≡ c = omega (arith, ints, none) in
        sym (ap in_range sum ∙ h)

-- and leaves the later ones alone
merged-later : (z y : ℕ) (c : ℤ) (ks out : List Coeff) → y < z → Some out ≡ merged y c ks → coefficient z out ≡ coefficient z ks
merged-later z y c [] out l e =
    let same : record { x = y; c = c } ∷ [] ≡ out = cc in
    let no : (y == z) ≡ false = grind (arith, nat_tests) in
    ap (coefficient z) (sym same) ∙ ap (λ t. if t then c else pos 0) no
merged-later z y c (k ∷ ks) out l e = by (nat_lt k.x y) (k.x == y) refl e (λ rest f. merged-later z y c ks rest l f)
  where
    differs : (w : ℕ) → w ≡ y → (w == z) ≡ false
    differs w e = let less : w < z = omega arith in grind (arith, nat_tests)

    by : (s t : Bool) → (k.x == y) ≡ t → Some out ≡ (if s then (merged y c ks >>= (λ rest. Some (k ∷ rest))) else (if t then (within (k.c +ℤ c) >>= (λ sum. Some (record { x = y; c = sum } ∷ ks))) else Some (record { x = y; c = c } ∷ k ∷ ks))) → ((rest : List Coeff) → Some rest ≡ merged y c ks → coefficient z rest ≡ coefficient z ks) → coefficient z out ≡ (if k.x == z then k.c else coefficient z ks)
    by true t f e rest =
        let a = bind-some (merged y c ks) (λ rest. Some (k ∷ rest)) out e in
        let same : out ≡ k ∷ a.0 = some-same a.2 in
        ap (coefficient z) same ∙ ap (λ w. if k.x == z then k.c else w) (rest a.0 a.1)
    by false true f e rest =
        let a = bind-some (within (k.c +ℤ c)) (λ sum. Some (record { x = y; c = sum } ∷ ks)) out e in
        let same : out ≡ record { x = y; c = a.0 } ∷ ks = some-same a.2 in
        ap (coefficient z) same ∙ ap (λ t. if t then a.0 else coefficient z ks) (differs y refl) ∙ sym (ap (λ t. if t then k.c else coefficient z ks) (differs k.x (eqb-true k.x y f)))
    by false false f e rest =
        let same : out ≡ record { x = y; c = c } ∷ k ∷ ks = some-same e in
        ap (coefficient z) same ∙ ap (λ t. if t then c else coefficient z (k ∷ ks)) (differs y refl)

-- the sums of the coefficients of each variable
abbrev sums_of : List Coeff → List Coeff → List ℤ
sums_of ks [] = []
sums_of ks (j ∷ js) = (coefficient j.x ks +ℤ j.c) ∷ sums_of ks js

sums-later : (y : ℕ) (c : ℤ) (ks out js : List Coeff) → Some out ≡ merged y c ks → Each (λ j. y < j.x) js → sums_of out js ≡ sums_of ks js
sums-later y c ks out [] e h = refl
sums-later y c ks out (j ∷ js) e h = λ i. (merged-later j.x y c ks out h.0 e i +ℤ j.c) ∷ sums-later y c ks out js e h.1 i

all-some : (ks js : List Coeff) → Ascends ks → Ascends js → Fit js → is_some (all_merged ks js) ≡ list_all in_range (sums_of ks js)
all-some ks [] a b f = refl
all-some ks (j ∷ js) a b f = by (merged j.x j.c ks) refl (λ out e. all-some out js (merged-Ascends j.x j.c f.0 ks out e a) b.1 f.1)
  where
    first : is_some (merged j.x j.c ks) ≡ in_range (coefficient j.x ks +ℤ j.c)
    first = merged-some j.x j.c ks (lt_ltb f.0) a

    by : (o : Option (List Coeff)) → merged j.x j.c ks ≡ o → ((out : List Coeff) → Some out ≡ merged j.x j.c ks → is_some (all_merged out js) ≡ list_all in_range (sums_of out js)) → is_some (o >>= (λ next. all_merged next js)) ≡ (in_range (coefficient j.x ks +ℤ j.c) && list_all in_range (sums_of ks js))
    by None e rest = ap (λ t. t && list_all in_range (sums_of ks js)) (sym (ap (is_some {T = List Coeff}) e) ∙ merged-some j.x j.c ks (lt_ltb f.0) a)
    by (Some out) e rest =
        rest out (sym e) ∙ ap (list_all in_range) (sums-later j.x j.c ks out js (sym e) b.0) ∙ ap (λ t. t && list_all in_range (sums_of ks js)) (sym (ap (is_some {T = List Coeff}) e) ∙ merged-some j.x j.c ks (lt_ltb f.0) a)

-- ---- the sum of two rows

scaled-each : (P : ℕ → Type 0) (a : ℤ) (ks : List Coeff) → Each (λ k. P k.x) ks → Each (λ k. P k.x) (scaled a ks)
scaled-each P a [] h = tt
scaled-each P a (k ∷ ks) h = (h.0, scaled-each P a ks h.1)

scaled-Ascends : (a : ℤ) (ks : List Coeff) → Ascends ks → Ascends (scaled a ks)
scaled-Ascends a [] h = tt
scaled-Ascends a (k ∷ ks) h = (scaled-each (λ x. k.x < x) a ks h.0, scaled-Ascends a ks h.1)

scaled-fit : (a : ℤ) (ks : List Coeff) → list_all in_range (products a ks) ≡ true → Fit (scaled a ks)
scaled-fit a [] h = tt
scaled-fit a (k ∷ ks) h = let parts = and_parts (in_range (a *ℤ k.c)) (list_all in_range (products a ks)) h in (ltb_lt parts.0, scaled-fit a ks parts.1)

scaled-coefficient : (x : ℕ) (a : ℤ) (ks : List Coeff) → coefficient x (scaled a ks) ≡ a *ℤ coefficient x ks
scaled-coefficient x a [] = sym (*ℤ-zero a)
scaled-coefficient x a (k ∷ ks) = by (k.x == x) (scaled-coefficient x a ks)
  where
    by : (t : Bool) → coefficient x (scaled a ks) ≡ a *ℤ coefficient x ks → (if t then a *ℤ k.c else coefficient x (scaled a ks)) ≡ a *ℤ (if t then k.c else coefficient x ks)
    by true i = refl
    by false i = i

sums-scaled : (a : ℤ) (ks : List Coeff) (b : ℤ) (js : List Coeff) → sums_of (scaled a ks) (scaled b js) ≡ sums_with a ks b js
sums-scaled a ks b [] = refl
sums-scaled a ks b (j ∷ js) = λ i. (scaled-coefficient j.x a ks i +ℤ b *ℤ j.c) ∷ sums-scaled a ks b js i

paired-append : (ks js : List Coeff) → paired ks ++ paired js ≡ paired (ks ++ js)
paired-append [] js = refl
paired-append (k ∷ ks) js = ap (λ (ps : List RatPair). record { x = k.x; value = num_of k.c } ∷ ps) (paired-append ks js)

none-before : (js : List Coeff) → Each (λ j. Each (λ (k : Coeff). k.x < j.x) []) js
none-before [] = tt
none-before (j ∷ js) = (tt, none-before js)

terms-is : (a : ℤ) (p : Linear) (b : ℤ) (q : Linear) → terms_sum a p b q ≡ (if list_all in_range (products a p.coeffs) && list_all in_range (products b q.coeffs) then Some (paired (scaled a p.coeffs ++ scaled b q.coeffs)) else None)
terms-is a p b q = ap (λ (o : Option (List RatPair)). o >>= (λ left. times b q.coeffs >>= (λ right. Some (left ++ right)))) (times-is a p.coeffs) ∙ by (list_all in_range (products a p.coeffs)) (list_all in_range (products b q.coeffs)) (times-is b q.coeffs)
  where
    by : (s t : Bool) → times b q.coeffs ≡ (if t then Some (paired (scaled b q.coeffs)) else None) → ((if s then Some (paired (scaled a p.coeffs)) else None) >>= (λ left. times b q.coeffs >>= (λ right. Some (left ++ right)))) ≡ (if s && t then Some (paired (scaled a p.coeffs ++ scaled b q.coeffs)) else None)
    by false t i = refl
    by true true i = ap (λ (o : Option (List RatPair)). o >>= (λ right. Some (paired (scaled a p.coeffs) ++ right))) i ∙ ap (λ (ps : List RatPair). Some ps) (paired-append (scaled a p.coeffs) (scaled b q.coeffs))
    by true false i = ap (λ (o : Option (List RatPair)). o >>= (λ right. Some (paired (scaled a p.coeffs) ++ right))) i

constant-is : (y z : ℤ) → (whole y >>= (λ left. whole z >>= (λ right. sum_of left right))) ≡ (if in_range y && (in_range z && (in_range (y +ℤ z) && true)) then Some (num_of (y +ℤ z)) else None)
constant-is y z = (λ i. whole-is y i >>= (λ left. whole-is z i >>= (λ right. sum_of left right))) ∙ by (in_range y) refl (in_range z) refl (in_range (y +ℤ z)) refl
  where
    by : (s : Bool) → in_range y ≡ s → (t : Bool) → in_range z ≡ t → (u : Bool) → in_range (y +ℤ z) ≡ u → ((if s then Some (num_of y) else None) >>= (λ left. (if t then Some (num_of z) else None) >>= (λ right. sum_of left right))) ≡ (if s && (t && (u && true)) then Some (num_of (y +ℤ z)) else None)
    by false d t e u f = refl
    by true d false e u f = refl
    by true d true e true f = sum-is y z d e ∙ ap (λ w. if w then Some (num_of (y +ℤ z)) else None) f
    by true d true e false f = sum-is y z d e ∙ ap (λ w. if w then Some (num_of (y +ℤ z)) else None) f

and-false : (b : Bool) → (b && false) ≡ false
and-false true = refl
and-false false = refl

all-parts : (a b : ℤ) (p q : Linear) → list_all in_range (step_integers a p b q) ≡ (((list_all in_range (products a p.coeffs) && list_all in_range (products b q.coeffs)) && list_all in_range (sums_with a p.coeffs b q.coeffs)) && (in_range (a *ℤ p.constant) && (in_range (b *ℤ q.constant) && (in_range (a *ℤ p.constant +ℤ b *ℤ q.constant) && true))))
all-parts a b p q =
    let P = products a p.coeffs in
    let Q = products b q.coeffs in
    let S = sums_with a p.coeffs b q.coeffs in
    let C = (a *ℤ p.constant) ∷ (b *ℤ q.constant) ∷ (a *ℤ p.constant +ℤ b *ℤ q.constant) ∷ [] in
    list_all-append in_range (P ++ Q ++ S) C ∙ ap (λ t. t && list_all in_range C) (list_all-append in_range (P ++ Q) S ∙ ap (λ t. t && list_all in_range S) (list_all-append in_range P Q))

some-made : (o : Option (List Coeff)) (f : List Coeff → Linear) → is_some (o >>= (λ out. Some (f out))) ≡ is_some o
some-made None f = refl
some-made (Some out) f = refl

pub sum_fits : (a b : ℤ) (p q : Linear) → IsNormal p → IsNormal q → is_some (row_sum a p b q) ≡ list_all in_range (step_integers a p b q)
unfolding row_sum
sum_fits a b p q hp hq =
    let s = list_all in_range (products a p.coeffs) && list_all in_range (products b q.coeffs) in
    let t = in_range (a *ℤ p.constant) && (in_range (b *ℤ q.constant) && (in_range (a *ℤ p.constant +ℤ b *ℤ q.constant) && true)) in
    (λ i. is_some (terms-is a p b q i >>= (λ terms. constant-is (a *ℤ p.constant) (b *ℤ q.constant) i >>= (λ constant. normal_of terms constant (joined p.op q.op))))) ∙ by s refl t refl ∙ sym (all-parts a b p q)
  where
    both : list_all in_range (products a p.coeffs) ≡ true → list_all in_range (products b q.coeffs) ≡ true → in_range (a *ℤ p.constant +ℤ b *ℤ q.constant) ≡ true → is_some (normal_of (paired (scaled a p.coeffs ++ scaled b q.coeffs)) (num_of (a *ℤ p.constant +ℤ b *ℤ q.constant)) (joined p.op q.op)) ≡ list_all in_range (sums_with a p.coeffs b q.coeffs)
    both f g h =
        let left = scaled a p.coeffs in
        let right = scaled b q.coeffs in
        let fl = scaled-fit a p.coeffs f in
        let fr = scaled-fit b q.coeffs g in
        let al = scaled-Ascends a p.coeffs hp.ascending in
        let ar = scaled-Ascends b q.coeffs hq.ascending in
        let c = a *ℤ p.constant +ℤ b *ℤ q.constant in
        ap (is_some {T = Linear}) (normal-merged (left ++ right) c (joined p.op q.op) (Each-append (λ k. InRange k.c) left right fl fr) h) ∙ some-made (all_merged [] (left ++ right)) (λ out. normal_form (record { coeffs = out; constant = c; op = joined p.op q.op })) ∙ ap (is_some {T = List Coeff}) (all_merged-append [] left right ∙ ap (λ (o : Option (List Coeff)). o >>= (λ next. all_merged next right)) (merged-ascending [] left (none-before left) al)) ∙ all-some left right al ar fr ∙ ap (list_all in_range) (sums-scaled a p.coeffs b q.coeffs)

    by : (s : Bool) → (list_all in_range (products a p.coeffs) && list_all in_range (products b q.coeffs)) ≡ s → (t : Bool) → (in_range (a *ℤ p.constant) && (in_range (b *ℤ q.constant) && (in_range (a *ℤ p.constant +ℤ b *ℤ q.constant) && true))) ≡ t → is_some ((if s then Some (paired (scaled a p.coeffs ++ scaled b q.coeffs)) else None) >>= (λ terms. (if t then Some (num_of (a *ℤ p.constant +ℤ b *ℤ q.constant)) else None) >>= (λ constant. normal_of terms constant (joined p.op q.op)))) ≡ ((s && list_all in_range (sums_with a p.coeffs b q.coeffs)) && t)
    by false e t f = refl
    by true e false f = sym (and-false (list_all in_range (sums_with a p.coeffs b q.coeffs)))
    by true e true f =
        let parts = and_parts (list_all in_range (products a p.coeffs)) (list_all in_range (products b q.coeffs)) e in
        let outer = and_parts (in_range (a *ℤ p.constant)) (in_range (b *ℤ q.constant) && (in_range (a *ℤ p.constant +ℤ b *ℤ q.constant) && true)) f in
        let inner = and_parts (in_range (b *ℤ q.constant)) (in_range (a *ℤ p.constant +ℤ b *ℤ q.constant) && true) outer.1 in
        let last = and_parts (in_range (a *ℤ p.constant +ℤ b *ℤ q.constant)) true inner.1 in
        both parts.0 parts.1 last.0 ∙ sym (and-true (list_all in_range (sums_with a p.coeffs b q.coeffs)))

-- ---- the same, pair by pair

pair-some : (a c b d : ℤ) → is_some (pair_sum a c b d) ≡ (in_range (a *ℤ c) && (in_range (b *ℤ d) && (in_range (a *ℤ c +ℤ b *ℤ d) && true)))
unfolding pair_sum
pair-some a c b d = by (in_range (a *ℤ c)) (in_range (b *ℤ d)) (in_range (a *ℤ c +ℤ b *ℤ d))
  where
    by : (s t u : Bool) → is_some ((if s then Some (a *ℤ c) else None) >>= (λ left. (if t then Some (b *ℤ d) else None) >>= (λ right. if in_range (left +ℤ right) then Some (left +ℤ right) else None))) ≡ (s && (t && (in_range (a *ℤ c +ℤ b *ℤ d) && true)))
    by false t u = refl
    by true false u = refl
    by true true u = ranged (in_range (a *ℤ c +ℤ b *ℤ d)) ∙ sym (and-true (in_range (a *ℤ c +ℤ b *ℤ d)))
      where
        ranged : (t : Bool) → is_some (if t then Some (a *ℤ c +ℤ b *ℤ d) else None) ≡ t
        ranged true = refl
        ranged false = refl

pub pair-value : (a c b d z : ℤ) → Some z ≡ pair_sum a c b d → z ≡ a *ℤ c +ℤ b *ℤ d
unfolding pair_sum
pair-value a c b d z e =
    let p = bind-some (within (a *ℤ c)) (λ left. within (b *ℤ d) >>= (λ right. within (left +ℤ right))) z e in
    let q = bind-some (within (b *ℤ d)) (λ right. within (p.0 +ℤ right)) z p.2 in
    (within-some z (p.0 +ℤ q.0) q.2).0 ∙ (λ i. (within-some p.0 (a *ℤ c) p.1).0 i +ℤ (within-some q.0 (b *ℤ d) q.1).0 i)

-- a product of a coefficient lies in range, where those of all terms do
product-range : (x : ℕ) (a : ℤ) (ks : List Coeff) → list_all in_range (products a ks) ≡ true → in_range (a *ℤ coefficient x ks) ≡ true
product-range x a ks h = lt_ltb (subst InRange (scaled-coefficient x a ks) (coefficient-range x (scaled a ks) (scaled-fit a ks h)))

pairs-sums : (a : ℤ) (ks : List Coeff) (b : ℤ) (js : List Coeff) → list_all in_range (products a ks) ≡ true → list_all in_range (products b js) ≡ true → pairs_fit a ks b js ≡ list_all in_range (sums_with a ks b js)
pairs-sums a ks b [] f g = refl
pairs-sums a ks b (j ∷ js) f g =
    let parts = and_parts (in_range (b *ℤ j.c)) (list_all in_range (products b js)) g in
    let sum = in_range (a *ℤ coefficient j.x ks +ℤ b *ℤ j.c) in
    let first : is_some (pair_sum a (coefficient j.x ks) b j.c) ≡ sum = pair-some a (coefficient j.x ks) b j.c ∙ (λ i. product-range j.x a ks f i && (parts.0 i && (sum && true))) ∙ and-true sum in
    λ i. first i && pairs-sums a ks b js f parts.1 i

pub fits-pairwise : (a b : ℤ) (p q : Linear) → IsNormal p → IsNormal q → is_some (row_sum a p b q) ≡ (((list_all in_range (products a p.coeffs) && list_all in_range (products b q.coeffs)) && pairs_fit a p.coeffs b q.coeffs) && is_some (pair_sum a p.constant b q.constant))
fits-pairwise a b p q hp hq =
    sum_fits a b p q hp hq ∙ all-parts a b p q ∙ (λ i. by (list_all in_range (products a p.coeffs)) refl (list_all in_range (products b q.coeffs)) refl i && sym (pair-some a p.constant b q.constant) i)
  where
    sums : Bool
    sums = list_all in_range (sums_with a p.coeffs b q.coeffs)

    by : (s : Bool) → list_all in_range (products a p.coeffs) ≡ s → (t : Bool) → list_all in_range (products b q.coeffs) ≡ t → ((s && t) && sums) ≡ ((s && t) && pairs_fit a p.coeffs b q.coeffs)
    by false e t f = refl
    by true e false f = refl
    by true e true f = sym (pairs-sums a p.coeffs b q.coeffs e f)

-- the tests of the parts, in order, are one of the sum
pub fits-by : (a b : ℤ) (p q : Linear) (ks js : List Coeff) → IsNormal p → IsNormal q → ks ≡ p.coeffs → js ≡ q.coeffs → (s t u d : Bool) → s ≡ list_all in_range (products a ks) → t ≡ list_all in_range (products b js) → u ≡ pairs_fit a p.coeffs b js → d ≡ is_some (pair_sum a p.constant b q.constant) → (((s && t) && u) && d) ≡ is_some (row_sum a p b q)
fits-by a b p q ks js hp hq e f s t u d es et eu ed =
    (λ i. (((es ∙ ap (λ (l : List Coeff). list_all in_range (products a l)) e) i && (et ∙ ap (λ (l : List Coeff). list_all in_range (products b l)) f) i) && (eu ∙ ap (λ (l : List Coeff). pairs_fit a p.coeffs b l) f) i) && ed i) ∙ sym (fits-pairwise a b p q hp hq)

-- a step answers by whether the sum fits
pub step-overflows : (a : ℤ) (p : Linear) (b : ℤ) (q : Linear) → may_step a p b q ≡ true → is_some (row_sum a p b q) ≡ false → step_of a p b q ≡ Err step_err.Overflow
step-overflows a p b q e f = ap (λ t. if t then sum_or_overflow (row_sum a p b q) else Err step_err.Sign) e ∙ by (row_sum a p b q) f
  where
    by : (o : Option Linear) → is_some o ≡ false → sum_or_overflow o ≡ Err step_err.Overflow
    by None f = refl
    by (Some row) f = cc

pub step-made : (a : ℤ) (p : Linear) (b : ℤ) (q : Linear) → may_step a p b q ≡ true → is_some (row_sum a p b q) ≡ true → IsOk (step_of a p b q)
step-made a p b q e f = subst (λ t. IsOk (if t then sum_or_overflow (row_sum a p b q) else Err step_err.Sign)) (sym e) (by (row_sum a p b q) f)
  where
    by : (o : Option Linear) → is_some o ≡ true → IsOk (sum_or_overflow o)
    by None f = cc
    by (Some row) f = refl

-- ---- the strict rows of a disequation are always made

-- a multiplier that keeps the size
abbrev Keeps : ℤ → Type 0
Keeps a = (z : ℤ) → unsigned_abs (a *ℤ z) ≡ unsigned_abs z

keeps-one : Keeps (pos 1)
keeps-one z = ap unsigned_abs (same z)
  where
    same : (z : ℤ) → pos 1 *ℤ z ≡ z
    same z = omega (arith, ints)

keeps-minus : Keeps (negsuc 0)
keeps-minus z = ap unsigned_abs (same z) ∙ unsigned_abs-neg z
  where
    same : (z : ℤ) → negsuc 0 *ℤ z ≡ neg_ℤ z
    same z = omega (arith, ints)

kept-range : (a z : ℤ) → Keeps a → InRange z → in_range (a *ℤ z) ≡ true
kept-range a z k h = ap (λ n. nat_lt n (2 ^ 127)) (k z) ∙ lt_ltb h

products-range : (a : ℤ) (ks : List Coeff) → Keeps a → Fit ks → list_all in_range (products a ks) ≡ true
products-range a [] k h = refl
products-range a (j ∷ js) k h = ap (λ t. t && list_all in_range (products a js)) (kept-range a j.c k h.0) ∙ products-range a js k h.1

strict-made : (a : ℤ) (r : Linear) → Keeps a → IsNormal r → is_some (strict a r) ≡ true
unfolding strict
strict-made a r k n =
    let ks = scaled a r.coeffs in
    let c = a *ℤ r.constant in
    let all = products-range a r.coeffs k n.range in
    let fit = scaled-fit a r.coeffs all in
    let last = kept-range a r.constant k n.constant_range in
    ap (λ (o : Option (List RatPair)). is_some (o >>= (λ terms. whole c >>= (λ constant. normal_of terms constant op.Lt)))) (times-is a r.coeffs ∙ ap (λ t. if t then Some (paired ks) else None) all) ∙ ap (λ (o : Option Number). is_some (o >>= (λ constant. normal_of (paired ks) constant op.Lt))) (whole-is c ∙ ap (λ t. if t then Some (num_of c) else None) last) ∙ ap (is_some {T = Linear}) (normal-merged ks c op.Lt fit last) ∙ some-made (all_merged [] ks) (λ out. normal_form (record { coeffs = out; constant = c; op = op.Lt })) ∙ ap (is_some {T = List Coeff}) (merged-ascending [] ks (none-before ks) (scaled-Ascends a r.coeffs n.ascending))

pub alternatives_made : (parts : List Linear) → Each IsNormal parts → is_some (alternatives parts) ≡ true
alternatives_made [] n = refl
alternatives_made (r ∷ rs) n = by (strict (pos 1) r) (strict-made (pos 1) r keeps-one n.0) (strict (negsuc 0) r) (strict-made (negsuc 0) r keeps-minus n.0) (alternatives rs) (alternatives_made rs n.1)
  where
    by : (o : Option Linear) → is_some o ≡ true → (u : Option Linear) → is_some u ≡ true → (w : Option (List Linear)) → is_some w ≡ true → is_some (o >>= (λ below. u >>= (λ above. w >>= (λ rest. Some (below ∷ above ∷ rest))))) ≡ true
    by None e u f w g = cc
    by (Some below) e None f w g = cc
    by (Some below) e (Some above) f None g = cc
    by (Some below) e (Some above) f (Some rest) g = refl
