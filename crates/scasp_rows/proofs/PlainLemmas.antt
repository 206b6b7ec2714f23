-- The elimination without bounds decides whether a point meets the rows.
use Rattle.std.proofs.Common.{◌≡◌, ◌≢◌, ◌↔◌, ℕ, zero, suc, ◌<◌, ◌≤◌, ◌==◌, Bool, true, false, ◌||◌, ℤ, pos, ◌+ℤ◌, ◌*ℤ◌, neg_ℤ, ◌<ℤ◌, List, [], ◌∷◌, map, refl, sym, ap, subst, ◌∙◌, arith, cond}
use Rattle.std.specs.Prelude.{if◌then◌else◌, filter}
use Rattle.std.proofs.lemmas.Bool.{and_parts, eqb-true}
use Rattle.std.proofs.lemmas.Bool.Decides.{nat_tests}
use Rattle.std.proofs.lemmas.Int.{ints}
use Rattle.std.proofs.Math.IntN.{*ℤ_comm, *ℤ-zero, zero-*ℤ}
use Rattle.std.proofs.lemmas.Bool.{and_from}
use Rattle.scasp_list.specs.Each.{Each}
use Rattle.scasp_list.proofs.EachLemmas.{Each-append, Each-both, Each-left, Each-map, Each-right}
use Rattle.scasp_num.specs.declared.linear.Coeff.{Coeff}
use Rattle.scasp_num.specs.declared.linear.Op.{Op}
use Rattle.scasp_num.specs.declared.linear.Op.TheVariants as op
use Rattle.scasp_num.specs.Linear.{Linear, Compares, compares, Meets, weighted}
use Rattle.scasp_num.proofs.Comparing.{compares-true, compares-is}
use Rattle.scasp_num.proofs.Integers.{*ℤ_assoc, *ℤ-+ℤ, +ℤ-*ℤ, neg-*ℤ}
use Rattle.scasp_num.proofs.Meaning.{compares-scaled}
use Rattle.scasp_num.proofs.NormalForms.{zero_is}
use Rattle.scasp_num.proofs.Numbers.{times-pos}
use Rattle.scasp_rows.specs.Points.{IsMet, NoDisequation}
use Rattle.scasp_rows.proofs.Values.{moved}
use Rattle.scasp_rows.proofs.Forward.{below-size, above-size}
use Rattle.scasp_rows.proofs.Soundness.{below-nonzero, above-nonzero}
use Rattle.scasp_rows.proofs.Extending.{size-above, one-sign}
use Rattle.scasp_rows.proofs.Completeness.{point_by, point-meets}
use Rattle.scasp_rows.proofs.Independence.{both-whole}
use Rattle.scasp_rows.specs.PlainRows.{Plain, comparison, size, paired, all_paired, is_lower, is_free, is_upper, without, are_met, sum_at, plain_by, plain_rows, terms_bound, rows_bound, is_met}
use Rattle.scasp_rows.proofs.BetweenLemmas.{Sized, LowMet, HighMet, Meeting, solution, comparing}

-- ---- the values of rows

-- the coefficients of the variables below n times their values, summed
abbrev total : ℕ → (ℕ → ℤ) → (ℕ → ℤ) → ℤ
total zero f m = pos 0
total (suc n) f m = f n *ℤ m n +ℤ total n f m

abbrev plain_value : ℕ → (ℕ → ℤ) → ℤ → Plain → ℤ
plain_value n m d r = total n r.of m +ℤ r.constant *ℤ d

abbrev PlainMeets : ℕ → (ℕ → ℤ) → ℤ → Plain → Type 0
PlainMeets n m d r = Compares (comparison r.is_strict) (plain_value n m d r)

total-sum : (n : ℕ) (f g m : ℕ → ℤ) (a b : ℤ) → total n (λ x. a *ℤ f x +ℤ b *ℤ g x) m ≡ a *ℤ total n f m +ℤ b *ℤ total n g m
total-sum zero f g m a b = let e = *ℤ-zero a in let h = *ℤ-zero b in omega (arith, ints, e, h)
total-sum (suc n) f g m a b =
    let i = total-sum n f g m a b in
    let e1 = +ℤ-*ℤ (a *ℤ f n) (b *ℤ g n) (m n) in
    let e2 = *ℤ_assoc a (f n) (m n) in
    let e3 = *ℤ_assoc b (g n) (m n) in
    let e4 = *ℤ-+ℤ a (f n *ℤ m n) (total n f m) in
    let e5 = *ℤ-+ℤ b (g n *ℤ m n) (total n g m) in
    omega (arith, ints, i, e1, e2, e3, e4, e5)

total-turned : (n : ℕ) (f m : ℕ → ℤ) → total n (λ x. neg_ℤ (f x)) m ≡ neg_ℤ (total n f m)
total-turned zero f m = refl
total-turned (suc n) f m =
    let i = total-turned n f m in
    let e = neg-*ℤ (f n) (m n) in
    omega (arith, ints, i, e)

at-other : (m : ℕ → ℤ) (e z : ℤ) (n k : ℕ) → k < n → moved m e n z k ≡ m k *ℤ e
at-other m e z n k h = by (k == n) refl
  where
    by : (t : Bool) → (k == n) ≡ t → (if t then z else m k *ℤ e) ≡ m k *ℤ e
    by true f = let same = eqb-true k n f in absurd (omega (arith, h, same))
    by false f = refl

at-self : (m : ℕ → ℤ) (e z : ℤ) (n : ℕ) → moved m e n z n ≡ z
at-self m e z n = let f : (n == n) ≡ true = grind (arith, nat_tests) in ap (λ t. if t then z else m n *ℤ e) f

total-moved : (n k : ℕ) (f m : ℕ → ℤ) (e z : ℤ) → k ≤ n → total k f (moved m e n z) ≡ total k f m *ℤ e
total-moved n zero f m e z h = sym (zero-*ℤ e)
total-moved n (suc k) f m e z h =
    let i = total-moved n k f m e z (omega (arith, h)) in
    let g : f k *ℤ moved m e n z k ≡ (f k *ℤ m k) *ℤ e = ap (λ y. f k *ℤ y) (at-other m e z n k (omega (arith, h))) ∙ sym (*ℤ_assoc (f k) (m k) e) in
    (λ j. g j +ℤ i j) ∙ sym (+ℤ-*ℤ (f k *ℤ m k) (total k f m) e)

-- the value where the last variable is z/e
value-moved : (n : ℕ) (m : ℕ → ℤ) (d e z : ℤ) (r : Plain) → plain_value (suc n) (moved m e n z) (d *ℤ e) r ≡ plain_value n m d r *ℤ e +ℤ r.of n *ℤ z
value-moved n m d e z r =
    let f1 = ap (λ y. r.of n *ℤ y) (at-self m e z n) in
    let f2 = total-moved n n r.of m e z (omega arith) in
    let f3 = *ℤ_assoc r.constant d e in
    let f4 = +ℤ-*ℤ (total n r.of m) (r.constant *ℤ d) e in
    omega (arith, ints, f1, f2, f3, f4)

paired-value : (n : ℕ) (m : ℕ → ℤ) (d : ℤ) (l u : Plain) → plain_value n m d (paired n l u) ≡ size n u *ℤ plain_value n m d l +ℤ size n l *ℤ plain_value n m d u
paired-value n m d l u =
    let a = size n u in
    let b = size n l in
    let e = total-sum n l.of u.of m a b in
    let e1 = +ℤ-*ℤ (a *ℤ l.constant) (b *ℤ u.constant) d in
    let e2 = *ℤ_assoc a l.constant d in
    let e3 = *ℤ_assoc b u.constant d in
    let e4 = *ℤ-+ℤ a (total n l.of m) (l.constant *ℤ d) in
    let e5 = *ℤ-+ℤ b (total n u.of m) (u.constant *ℤ d) in
    omega (arith, ints, e, e1, e2, e3, e4, e5)

-- ---- lists

each-filter : (P : Plain → Type 0) (p : Plain → Bool) (rs : List Plain) → Each P rs → Each (λ r. P r × (p r ≡ true)) (filter p rs)
each-filter P p [] h = tt
each-filter P p (r ∷ rs) h = by (p r) refl (each-filter P p rs h.1)
  where
    by : (b : Bool) → p r ≡ b → Each (λ r. P r × (p r ≡ true)) (filter p rs) → Each (λ r. P r × (p r ≡ true)) (cond b (r ∷ filter p rs) (filter p rs))
    by true e rest = ((h.0, e), rest)
    by false e rest = rest

from-filter : (P : Plain → Type 0) (p : Plain → Bool) (rs : List Plain) → Each P (filter p rs) → Each (λ r. p r ≡ true → P r) rs
from-filter P p [] h = tt
from-filter P p (r ∷ rs) h = by (p r) refl h (from-filter P p rs)
  where
    by : (b : Bool) → p r ≡ b → Each P (cond b (r ∷ filter p rs) (filter p rs)) → (Each P (filter p rs) → Each (λ r. p r ≡ true → P r) rs) → Each (λ r. p r ≡ true → P r) (r ∷ rs)
    by true e h rest = ((λ _. h.0), rest h.1)
    by false e h rest = ((λ t. absurd (let no : true ≡ false = sym t ∙ e in cc)), rest h)

-- what holds of the rows with each sign holds of all
by-signs : (P : Plain → Type 0) (n : ℕ) (rows : List Plain) → Each P (filter (is_lower n) rows) → Each P (filter (is_free n) rows) → Each P (filter (is_upper n) rows) → Each P rows
by-signs P n rows f g h =
    Each-map (λ r. (is_lower n r ≡ true → P r) × ((is_free n r ≡ true → P r) × (is_upper n r ≡ true → P r))) P (λ r k. one-sign (P r) (r.of n) k.0 k.1.0 k.1.1) rows
    (Each-both (λ r. is_lower n r ≡ true → P r) (λ r. (is_free n r ≡ true → P r) × (is_upper n r ≡ true → P r)) rows (from-filter P (is_lower n) rows f)
    (Each-both (λ r. is_free n r ≡ true → P r) (λ r. is_upper n r ≡ true → P r) rows (from-filter P (is_free n) rows g) (from-filter P (is_upper n) rows h)))

to-map : (P : Plain → Type 0) (f : Plain → Plain) (rs : List Plain) → Each (λ r. P (f r)) rs → Each P (map f rs)
to-map P f [] h = tt
to-map P f (r ∷ rs) h = (h.0, to-map P f rs h.1)

from-map : (P : Plain → Type 0) (f : Plain → Plain) (rs : List Plain) → Each P (map f rs) → Each (λ r. P (f r)) rs
from-map P f [] h = tt
from-map P f (r ∷ rs) h = (h.0, from-map P f rs h.1)

to-pairs : (P : Plain → Type 0) (n : ℕ) (ls us : List Plain) → Each (λ l. Each (λ u. P (paired n l u)) us) ls → Each P (all_paired n ls us)
to-pairs P n [] us h = tt
to-pairs P n (l ∷ ls) us h = Each-append P (map (paired n l) us) (all_paired n ls us) (to-map P (paired n l) us h.0) (to-pairs P n ls us h.1)

from-pairs : (P : Plain → Type 0) (n : ℕ) (ls us : List Plain) → Each P (all_paired n ls us) → Each (λ l. Each (λ u. P (paired n l u)) us) ls
from-pairs P n [] us h = tt
from-pairs P n (l ∷ ls) us h = (from-map P (paired n l) us (Each-left P (map (paired n l) us) (all_paired n ls us) h), from-pairs P n ls us (Each-right P (map (paired n l) us) (all_paired n ls us) h))

-- ---- one variable is eliminated: met rows stay met

both-compare : (s t : Bool) (y z : ℤ) → Compares (comparison s) y → Compares (comparison t) z → Compares (comparison (s || t)) (y +ℤ z)
both-compare true true y z g h = omega (arith, ints)
both-compare true false y z g h = omega (arith, ints)
both-compare false true y z g h = omega (arith, ints)
both-compare false false y z g h = omega (arith, ints)

times-compare : (s : Bool) (a z : ℤ) → pos 0 <ℤ a → Compares (comparison s) z → Compares (comparison s) (a *ℤ z)
times-compare s a z h c = subst (Compares (comparison s)) (*ℤ_comm z a) ((compares-scaled (comparison s) z a h).0 c)

lower-sized : (n : ℕ) (r : Plain) → is_lower n r ≡ true → Sized (size n) r
lower-sized n r e = size-above (r.of n) (below-nonzero (r.of n) e)

upper-sized : (n : ℕ) (r : Plain) → is_upper n r ≡ true → Sized (size n) r
upper-sized n r e = size-above (r.of n) (above-nonzero (r.of n) e)

-- the last variable cancels
cancels : (a b y : ℤ) → a *ℤ (neg_ℤ b *ℤ y) +ℤ b *ℤ (a *ℤ y) ≡ pos 0
cancels a b y =
    let e1 : a *ℤ (neg_ℤ b *ℤ y) ≡ neg_ℤ b *ℤ (a *ℤ y) = sym (*ℤ_assoc a (neg_ℤ b) y) ∙ ap (λ c. c *ℤ y) (*ℤ_comm a (neg_ℤ b)) ∙ *ℤ_assoc (neg_ℤ b) a y in
    let e2 = neg-*ℤ b (a *ℤ y) in
    omega (arith, ints, e1, e2)

pair-kept : (n : ℕ) (m : ℕ → ℤ) (d : ℤ) (l u : Plain) → is_lower n l ≡ true → is_upper n u ≡ true → PlainMeets (suc n) m d l → PlainMeets (suc n) m d u → PlainMeets n m d (paired n l u)
pair-kept n m d l u el eu hl hu =
    let a = size n u in
    let b = size n l in
    let low : l.of n ≡ neg_ℤ b = below-size (l.of n) el in
    let high : u.of n ≡ a = above-size (u.of n) eu in
    let f1 : l.of n *ℤ m n ≡ neg_ℤ b *ℤ m n = ap (λ c. c *ℤ m n) low in
    let f2 : u.of n *ℤ m n ≡ a *ℤ m n = ap (λ c. c *ℤ m n) high in
    let x = plain_value n m d l in
    let y = plain_value n m d u in
    let g1 : plain_value (suc n) m d l ≡ neg_ℤ b *ℤ m n +ℤ x = omega (arith, ints, f1) in
    let g2 : plain_value (suc n) m d u ≡ a *ℤ m n +ℤ y = omega (arith, ints, f2) in
    let h1 : a *ℤ plain_value (suc n) m d l ≡ a *ℤ (neg_ℤ b *ℤ m n) +ℤ a *ℤ x = ap (λ z. a *ℤ z) g1 ∙ *ℤ-+ℤ a (neg_ℤ b *ℤ m n) x in
    let h2 : b *ℤ plain_value (suc n) m d u ≡ b *ℤ (a *ℤ m n) +ℤ b *ℤ y = ap (λ z. b *ℤ z) g2 ∙ *ℤ-+ℤ b (a *ℤ m n) y in
    let none = cancels a b (m n) in
    let made = paired-value n m d l u in
    let same : a *ℤ plain_value (suc n) m d l +ℤ b *ℤ plain_value (suc n) m d u ≡ plain_value n m d (paired n l u) = omega (arith, ints, h1, h2, none, made) in
    subst (Compares (comparison (l.is_strict || u.is_strict))) same
    (both-compare l.is_strict u.is_strict _ _ (times-compare l.is_strict a _ (upper-sized n u eu) hl) (times-compare u.is_strict b _ (lower-sized n l el) hu))

free-value : (n : ℕ) (m : ℕ → ℤ) (d : ℤ) (r : Plain) → is_free n r ≡ true → plain_value (suc n) m d r ≡ plain_value n m d r
free-value n m d r e =
    let none : r.of n *ℤ m n ≡ pos 0 = ap (λ c. c *ℤ m n) (zero_is (r.of n) e) ∙ zero-*ℤ (m n) in
    omega (arith, ints, none)

without-met : (n : ℕ) (m : ℕ → ℤ) (d : ℤ) (rows : List Plain) → Each (PlainMeets (suc n) m d) rows → Each (PlainMeets n m d) (without n rows)
without-met n m d rows h =
    let M = PlainMeets (suc n) m d in
    let ls = filter (is_lower n) rows in
    let us = filter (is_upper n) rows in
    let L = λ (r : Plain). M r × (is_lower n r ≡ true) in
    let U = λ (r : Plain). M r × (is_upper n r ≡ true) in
    let highs = each-filter M (is_upper n) rows h in
    Each-append (PlainMeets n m d) (filter (is_free n) rows) (all_paired n ls us)
    (Each-map (λ (r : Plain). M r × (is_free n r ≡ true)) (PlainMeets n m d) (λ r k. subst (Compares (comparison r.is_strict)) (free-value n m d r k.1) k.0) (filter (is_free n) rows) (each-filter M (is_free n) rows h))
    (to-pairs (PlainMeets n m d) n ls us
    (Each-map L (λ l. Each (λ u. PlainMeets n m d (paired n l u)) us) (λ l k. Each-map U (λ u. PlainMeets n m d (paired n l u)) (λ u j. pair-kept n m d l u k.1 j.1 k.0 j.0) us highs) ls (each-filter M (is_lower n) rows h)))

-- ---- and back: values for the others extend to the variable

abbrev HasValues : ℕ → List Plain → Type 0
HasValues n rows = (m : ℕ → ℤ) × (d : ℤ) × (pos 0 <ℤ d) × Each (PlainMeets n m d) rows

all-true : (p : Plain → Bool) (rs : List Plain) → Each (λ r. r ≡ r) rs
all-true p [] = tt
all-true p (r ∷ rs) = (refl, all-true p rs)

extends : (n : ℕ) (rows : List Plain) → HasValues n (without n rows) → HasValues (suc n) rows
extends n rows (m, d, above, h) =
    let ls = filter (is_lower n) rows in
    let us = filter (is_upper n) rows in
    let fs = filter (is_free n) rows in
    let V = plain_value n m d in
    let S = size n in
    let lows = each-filter (λ r. r ≡ r) (is_lower n) rows (all-true (is_lower n) rows) in
    let highs = each-filter (λ r. r ≡ r) (is_upper n) rows (all-true (is_upper n) rows) in
    let frees = each-filter (λ r. r ≡ r) (is_free n) rows (all-true (is_free n) rows) in
    let free = Each-left (PlainMeets n m d) fs (all_paired n ls us) h in
    let pairs = from-pairs (PlainMeets n m d) n ls us (Each-right (PlainMeets n m d) fs (all_paired n ls us) h) in
    let meeting = Each-map (λ l. Each (λ u. PlainMeets n m d (paired n l u)) us) (λ l. Each (Meeting V S l) us) (λ l k. Each-map (λ u. PlainMeets n m d (paired n l u)) (Meeting V S l) (λ u j. subst (Compares (comparison (l.is_strict || u.is_strict))) (paired-value n m d l u) j) us k) ls pairs in
    let s = solution V S ls us
    (Each-map (λ r. (r ≡ r) × (is_lower n r ≡ true)) (Sized S) (λ r k. lower-sized n r k.1) ls lows)
    (Each-map (λ r. (r ≡ r) × (is_upper n r ≡ true)) (Sized S) (λ r k. upper-sized n r k.1) us highs)
    meeting in
    let e = s.0 in
    let z = s.1 in
    let M = PlainMeets (suc n) (moved m e n z) (d *ℤ e) in (
      moved m e n z,
      d *ℤ e,
      times-pos d e above s.2,
      by-signs M n rows
          (Each-map (λ r. LowMet V S e z r × ((r ≡ r) × (is_lower n r ≡ true))) M (λ r k. subst (Compares (comparison r.is_strict)) (ap (λ c. V r *ℤ e +ℤ c *ℤ z) (sym (below-size (r.of n) k.1.1)) ∙ sym (value-moved n m d e z r)) k.0) ls (Each-both (LowMet V S e z) (λ r. (r ≡ r) × (is_lower n r ≡ true)) ls s.3 lows))
          (Each-map (λ r. PlainMeets n m d r × ((r ≡ r) × (is_free n r ≡ true))) M (λ r k. subst (Compares (comparison r.is_strict)) (free-moved r e z k.1.1) ((compares-scaled (comparison r.is_strict) (V r) e s.2).0 k.0)) fs (Each-both (PlainMeets n m d) (λ r. (r ≡ r) × (is_free n r ≡ true)) fs free frees))
          (Each-map (λ r. HighMet V S e z r × ((r ≡ r) × (is_upper n r ≡ true))) M (λ r k. subst (Compares (comparison r.is_strict)) (ap (λ c. V r *ℤ e +ℤ c *ℤ z) (sym (above-size (r.of n) k.1.1)) ∙ sym (value-moved n m d e z r)) k.0) us (Each-both (HighMet V S e z) (λ r. (r ≡ r) × (is_upper n r ≡ true)) us s.4 highs)),
    )
  where
    free-moved : (r : Plain) (e z : ℤ) → is_free n r ≡ true → plain_value n m d r *ℤ e ≡ plain_value (suc n) (moved m e n z) (d *ℤ e) r
    free-moved r e z f =
        let none : r.of n *ℤ z ≡ pos 0 = ap (λ c. c *ℤ z) (zero_is (r.of n) f) ∙ zero-*ℤ z in
        let g = value-moved n m d e z r in
        omega (arith, ints, none, g)

-- ---- all variables

constants-met : (m : ℕ → ℤ) (d : ℤ) → pos 0 <ℤ d → (rows : List Plain) → Each (PlainMeets zero m d) rows → are_met zero rows ≡ true
constants-met m d above [] h = refl
constants-met m d above (r ∷ rs) h =
    let same : pos 0 +ℤ r.constant *ℤ d ≡ r.constant *ℤ d = omega (arith, ints) in
    and_from _ _ (compares-true (comparison r.is_strict) r.constant ((compares-scaled (comparison r.is_strict) r.constant d above).1 (subst (Compares (comparison r.is_strict)) same h.0))) (constants-met m d above rs h.1)

constants-back : (rows : List Plain) → are_met zero rows ≡ true → Each (PlainMeets zero (λ x. pos 0) (pos 1)) rows
constants-back [] e = tt
constants-back (r ∷ rs) e =
    let a = and_parts (compares (comparison r.is_strict) r.constant) (are_met zero rs) e in
    let same : r.constant ≡ pos 0 +ℤ r.constant *ℤ pos 1 = omega (arith, ints) in
    (subst (Compares (comparison r.is_strict)) same (compares-is (comparison r.is_strict) r.constant a.0), constants-back rs a.1)

values-met : (n : ℕ) (m : ℕ → ℤ) (d : ℤ) → pos 0 <ℤ d → (rows : List Plain) → Each (PlainMeets n m d) rows → are_met n rows ≡ true
values-met zero m d above rows h = constants-met m d above rows h
values-met (suc n) m d above rows h = values-met n m d above (without n rows) (without-met n m d rows h)

met-values : (n : ℕ) (rows : List Plain) → are_met n rows ≡ true → HasValues n rows
met-values zero rows e = (λ x. pos 0, pos 1, omega (arith, ints), constants-back rows e)
met-values (suc n) rows e = extends n rows (met-values n (without n rows) e)

-- ---- given rows

one-term : (n : ℕ) (k : Coeff) (ks : List Coeff) (m : ℕ → ℤ) → (k.x < n → total n (sum_at (k ∷ ks)) m ≡ k.c *ℤ m k.x +ℤ total n (sum_at ks) m) × (n ≤ k.x → total n (sum_at (k ∷ ks)) m ≡ total n (sum_at ks) m)
one-term zero k ks m = ((λ h. absurd (omega (arith, h))), (λ h. refl))
one-term (suc n) k ks m = by (k.x == n) refl (one-term n k ks m)
  where
    by : (t : Bool) → (k.x == n) ≡ t → (k.x < n → total n (sum_at (k ∷ ks)) m ≡ k.c *ℤ m k.x +ℤ total n (sum_at ks) m) × (n ≤ k.x → total n (sum_at (k ∷ ks)) m ≡ total n (sum_at ks) m)
        → (k.x < suc n → (if t then k.c +ℤ sum_at ks n else sum_at ks n) *ℤ m n +ℤ total n (sum_at (k ∷ ks)) m ≡ k.c *ℤ m k.x +ℤ (sum_at ks n *ℤ m n +ℤ total n (sum_at ks) m)) × (suc n ≤ k.x → (if t then k.c +ℤ sum_at ks n else sum_at ks n) *ℤ m n +ℤ total n (sum_at (k ∷ ks)) m ≡ sum_at ks n *ℤ m n +ℤ total n (sum_at ks) m)
    by true e i =
        let same : k.x ≡ n = eqb-true k.x n e in
        let j = i.1 (omega (arith, same)) in
        let f1 = +ℤ-*ℤ k.c (sum_at ks n) (m n) in
        let f2 : k.c *ℤ m k.x ≡ k.c *ℤ m n = ap (λ x. k.c *ℤ m x) same in
        ((λ h. omega (arith, ints, j, f1, f2)), (λ h. absurd (omega (arith, h, same))))
    by false e i =
        let other : k.x ≢ n = grind (arith, nat_tests, e) in (
          (λ h. let j = i.0 (omega (arith, h, other)) in omega (arith, ints, j)),
          (λ h. let j = i.1 (omega (arith, h)) in omega (arith, ints, j)),
        )

no-terms : (n : ℕ) (m : ℕ → ℤ) → total n (sum_at []) m ≡ pos 0
no-terms zero m = refl
no-terms (suc n) m = let i = no-terms n m in let e = zero-*ℤ (m n) in omega (arith, ints, i, e)

terms-total : (n : ℕ) (ks : List Coeff) (m : ℕ → ℤ) → terms_bound ks ≤ n → total n (sum_at ks) m ≡ weighted m ks
terms-total n [] m h = no-terms n m
terms-total n (k ∷ ks) m h =
    let i = terms-total n ks m (omega (arith, h)) in
    (one-term n k ks m).0 (omega (arith, h)) ∙ ap (λ w. k.c *ℤ m k.x +ℤ w) i

row-met : (n : ℕ) (m : ℕ → ℤ) (d : ℤ) (r : Linear) → terms_bound r.coeffs ≤ n → r.op ≢ op.Ne → Meets m d r ↔ Each (PlainMeets n m d) (plain_by r.op r)
row-met n m d r h comparing = by r.op comparing
  where
    z : ℤ
    z = weighted m r.coeffs +ℤ r.constant *ℤ d

    plain : total n (sum_at r.coeffs) m +ℤ r.constant *ℤ d ≡ z
    plain = ap (λ w. w +ℤ r.constant *ℤ d) (terms-total n r.coeffs m h)

    turned : total n (λ x. neg_ℤ (sum_at r.coeffs x)) m +ℤ neg_ℤ r.constant *ℤ d ≡ neg_ℤ z
    turned =
        let e1 = total-turned n (sum_at r.coeffs) m in
        let e2 = neg-*ℤ r.constant d in
        let e3 = plain in
        omega (arith, ints, e1, e2, e3)

    by : (o : Op) → o ≢ op.Ne → Compares o z ↔ Each (PlainMeets n m d) (plain_by o r)
    by op.Eq c = (
      (λ k. (subst (Compares op.Le) (sym plain) (omega (arith, ints, k)), (subst (Compares op.Le) (sym turned) (omega (arith, ints, k)), tt))),
      (λ k. let a = subst (Compares op.Le) plain k.0 in let b = subst (Compares op.Le) turned k.1.0 in omega (arith, ints, a, b)),
    )
    by op.Lt c = ((λ k. (subst (Compares op.Lt) (sym plain) k, tt)), (λ k. subst (Compares op.Lt) plain k.0))
    by op.Le c = ((λ k. (subst (Compares op.Le) (sym plain) k, tt)), (λ k. subst (Compares op.Le) plain k.0))
    by op.Ne c = absurd (c refl)

rows-met : (n : ℕ) (m : ℕ → ℤ) (d : ℤ) (rows : List Linear) → rows_bound rows ≤ n → NoDisequation rows → Each (Meets m d) rows ↔ Each (PlainMeets n m d) (plain_rows rows)
rows-met n m d [] h c = ((λ k. tt), (λ k. tt))
rows-met n m d (r ∷ rs) h c =
    let one = row-met n m d r (omega (arith, h)) c.0 in
    let rest = rows-met n m d rs (omega (arith, h)) c.1 in (
      (λ k. Each-append (PlainMeets n m d) (plain_by r.op r) (plain_rows rs) (one.0 k.0) (rest.0 k.1)),
      (λ k. (one.1 (Each-left (PlainMeets n m d) (plain_by r.op r) (plain_rows rs) k), rest.1 (Each-right (PlainMeets n m d) (plain_by r.op r) (plain_rows rs) k))),
    )

pub rows-decided : (rows : List Linear) → NoDisequation rows → is_met rows ≡ true ↔ IsMet rows
unfolding is_met
rows-decided rows c = (there, back)
  where
    n : ℕ
    n = rows_bound rows

    there : are_met n (plain_rows rows) ≡ true → IsMet rows
    there e =
        let f = met-values n (plain_rows rows) e in
        (point_by f.0 f.1 f.2, point-meets f.0 f.1 f.2 rows ((rows-met n f.0 f.1 rows (omega arith) c).1 f.3))

    back : IsMet rows → are_met n (plain_rows rows) ≡ true
    back f =
        let w = both-whole f.0 rows [] tt (f.1, tt) in
        values-met n w.0 w.1 w.2 (plain_rows rows) ((rows-met n w.0 w.1 rows (omega arith) c).0 w.3)
