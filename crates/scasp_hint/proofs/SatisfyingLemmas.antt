-- The test decides whether some point meets what a list says of numbers, and so whether a sorted list has a valuation.
use Rattle.std.proofs.Common.{◌≡◌, ◌≢◌, ◌↔◌, ◌⊎◌, inl, inr, Bool, true, false, ◌&&◌, ◌||◌, not, ℤ, pos, ◌+ℤ◌, ◌*ℤ◌, List, [], ◌∷◌, ◌++◌, refl, sym, ap, subst, arith}
use Rattle.std.specs.List.{list_all, list_any}
use Rattle.std.proofs.lemmas.Bool.{and_parts, or_cases, and_from}
use Rattle.std.proofs.lemmas.Int.{ints, by_lt_z}
use Rattle.scasp_num.specs.declared.linear.Op.TheVariants as op
use Rattle.scasp_num.specs.Linear.{Linear, Compares}
use Rattle.scasp_list.specs.Each.{Each}
use Rattle.scasp_num.specs.Values.{row_sum, Holds}
use Rattle.scasp_num.proofs.Valuations.{negation-holds}
use Rattle.scasp_rows.specs.Points.{MeetsAll, NoDisequation, RationalPoint}
use Rattle.scasp_rows.specs.Samples.{MeetsSome, OnlyDisequations}
use Rattle.scasp_list.proofs.EachLemmas.{Each-left, Each-right, Each-append}
use Rattle.scasp_rows.proofs.Independence.{one_at_a_time}
use Rattle.scasp_syntax.specs.Constraints.{Sat}
use Rattle.scasp_unify.specs.Resolver.{unifies, resolver}
use Rattle.scasp_unify.specs.TermFailures.{fails_by_terms, is_refuted}
use Rattle.scasp_unify.specs.Sorted.{Sorted}
use Rattle.scasp_syntax.specs.RowTruth.{point}
use Rattle.scasp_unify.specs.Points.{through}
use Rattle.scasp_syntax.specs.declared.con.Con.{Con}
use Rattle.scasp_unify.proofs.Members.{not-false}
use Rattle.scasp_unify.proofs.ValuationLemmas.{sorted-met, meets-point}
use Rattle.scasp_rows.specs.PlainRows.{is_met}
use Rattle.scasp_hint.specs.ExactRows.{exact_rows, differing}
use Rattle.scasp_hint.specs.Sides.{below, above}
use Rattle.scasp_hint.specs.Satisfying.{is_side_met, is_apart, sat, HasPoint}
use Rattle.scasp_rows.proofs.PlainLemmas.{rows-decided}
use Rattle.scasp_hint.proofs.ExactLemmas.{list-from, list-to, rows-plain, differing-only}

-- ---- the sides of a disequation

abbrev sum_at : RationalPoint → Linear → ℤ
sum_at v r = (row_sum v r.coeffs).0 +ℤ r.constant *ℤ (row_sum v r.coeffs).1

pub on-a-side : (v : RationalPoint) (r : Linear) → r.op ≡ op.Ne → Holds v r → Holds v (below r) ⊎ Holds v (above r)
on-a-side v r e h =
    let apart : sum_at v r ≢ pos 0 = subst (λ o. Compares o (sum_at v r)) e h in
    by_lt_z (sum_at v r) (pos 0)
    (λ less. inl less)
    (λ most. inr ((negation-holds (record { coeffs = r.coeffs; constant = r.constant; op = op.Le }) (above r) refl v).1 (λ no. apart (omega (arith, ints, most, no)))))

pub below-differs : (v : RationalPoint) (r : Linear) → r.op ≡ op.Ne → Holds v (below r) → Holds v r
below-differs v r e h = subst (λ o. Compares o (sum_at v r)) (sym e) (λ z. omega (arith, ints, z, h))

pub above-differs : (v : RationalPoint) (r : Linear) → r.op ≡ op.Ne → Holds v (above r) → Holds v r
above-differs v r e h =
    let more = (negation-holds (record { coeffs = r.coeffs; constant = r.constant; op = op.Le }) (above r) refl v).0 h in
    subst (λ o. Compares o (sum_at v r)) (sym e) (λ z. more (omega (arith, ints, z)))

-- ---- one disequation with the rows

or-left : (b c : Bool) → b ≡ true → (b || c) ≡ true
or-left true c e = refl
or-left false c e = cc

or-right : (b c : Bool) → c ≡ true → (b || c) ≡ true
or-right true c e = refl
or-right false c e = e

with-side : (rows : List Linear) (a : Linear) → NoDisequation rows → a.op ≢ op.Ne → NoDisequation (rows ++ a ∷ [])
with-side rows a n k = Each-append (λ (r : Linear). r.op ≢ op.Ne) rows (a ∷ []) n (k, tt)

below-plain : (r : Linear) → (below r).op ≢ op.Ne
below-plain r e = cc

above-plain : (r : Linear) → (above r).op ≢ op.Ne
above-plain r e = cc

met-with : (rows : List Linear) (a : Linear) (v : RationalPoint) → NoDisequation rows → a.op ≢ op.Ne → MeetsAll v rows → Holds v a → is_met (rows ++ a ∷ []) ≡ true
met-with rows a v n k h m = (rows-decided (rows ++ a ∷ []) (with-side rows a n k)).1 (v, Each-append (Holds v) rows (a ∷ []) h (m, tt))

from-met : (rows : List Linear) (a : Linear) → NoDisequation rows → a.op ≢ op.Ne → is_met (rows ++ a ∷ []) ≡ true → (v : RationalPoint) × MeetsAll v rows × Holds v a
from-met rows a n k e =
    let f = (rows-decided (rows ++ a ∷ []) (with-side rows a n k)).0 e in
    (f.0, Each-left (Holds f.0) rows (a ∷ []) f.1, (Each-right (Holds f.0) rows (a ∷ []) f.1).0)

apart-to : (rows : List Linear) (v : RationalPoint) → NoDisequation rows → MeetsAll v rows → (parts : List Linear) → OnlyDisequations parts → MeetsSome v parts → is_apart rows parts ≡ true
apart-to rows v n h [] o m = absurd m
apart-to rows v n h (r ∷ rs) o (inl m) = or-left (is_side_met rows r) (is_apart rows rs) (by (on-a-side v r o.0 m))
  where
    by : Holds v (below r) ⊎ Holds v (above r) → is_side_met rows r ≡ true
    by (inl k) = or-left (is_met (rows ++ below r ∷ [])) (is_met (rows ++ above r ∷ [])) (met-with rows (below r) v n (below-plain r) h k)
    by (inr k) = or-right (is_met (rows ++ below r ∷ [])) (is_met (rows ++ above r ∷ [])) (met-with rows (above r) v n (above-plain r) h k)
apart-to rows v n h (r ∷ rs) o (inr m) = or-right (is_side_met rows r) (is_apart rows rs) (apart-to rows v n h rs o.1 m)

abbrev Alone : List Linear → List Linear → Type 0
Alone rows parts = (v : RationalPoint) × MeetsAll v rows × MeetsSome v parts

apart-from : (rows : List Linear) → NoDisequation rows → (parts : List Linear) → OnlyDisequations parts → is_apart rows parts ≡ true → Alone rows parts
apart-from rows n [] o e = cc
apart-from rows n (r ∷ rs) o e = by (or_cases (is_side_met rows r) (is_apart rows rs) e) (apart-from rows n rs o.1)
  where
    side : (is_met (rows ++ below r ∷ []) ≡ true) ⊎ (is_met (rows ++ above r ∷ []) ≡ true) → Alone rows (r ∷ rs)
    side (inl f) = let g = from-met rows (below r) n (below-plain r) f in (g.0, g.1, inl (below-differs g.0 r o.0 g.2))
    side (inr f) = let g = from-met rows (above r) n (above-plain r) f in (g.0, g.1, inl (above-differs g.0 r o.0 g.2))

    by : (is_side_met rows r ≡ true) ⊎ (is_apart rows rs ≡ true) → (is_apart rows rs ≡ true → Alone rows rs) → Alone rows (r ∷ rs)
    by (inl f) rest = side (or_cases (is_met (rows ++ below r ∷ [])) (is_met (rows ++ above r ∷ [])) f)
    by (inr f) rest = let g = rest f in (g.0, g.1, inr g.2)

all-apart-to : (rows : List Linear) (v : RationalPoint) → NoDisequation rows → MeetsAll v rows → (differ : List (List Linear)) → Each OnlyDisequations differ → Each (MeetsSome v) differ → list_all (is_apart rows) differ ≡ true
all-apart-to rows v n h [] o m = refl
all-apart-to rows v n h (d ∷ ds) o m = and_from _ _ (apart-to rows v n h d o.0 m.0) (all-apart-to rows v n h ds o.1 m.1)

all-apart-from : (rows : List Linear) → NoDisequation rows → (differ : List (List Linear)) → Each OnlyDisequations differ → list_all (is_apart rows) differ ≡ true → Each (Alone rows) differ
all-apart-from rows n [] o e = tt
all-apart-from rows n (d ∷ ds) o e =
    let a = and_parts (is_apart rows d) (list_all (is_apart rows) ds) e in
    (apart-from rows n d o.0 a.0, all-apart-from rows n ds o.1 a.1)

-- ---- lists

not-true : (b : Bool) → not b ≡ true → b ≡ false
not-true true e = cc
not-true false e = refl

pub sat-point : (cs : List Con) → sat cs ≡ true ↔ HasPoint cs
sat-point cs = (there, back)
  where
    rows : List Linear
    rows = exact_rows cs

    plain : NoDisequation rows
    plain = rows-plain (resolver cs) cs

    only : Each OnlyDisequations (differing cs)
    only = differing-only cs cs

    there : sat cs ≡ true → HasPoint cs
    there e =
        let a = and_parts (not (fails_by_terms cs)) (is_met rows && list_all (is_apart rows) (differing cs)) e in
        let b = and_parts (is_met rows) (list_all (is_apart rows) (differing cs)) a.1 in
        let m = (rows-decided rows plain).0 b.0 in
        let all = (one_at_a_time rows (differing cs) plain only).1 (m, all-apart-from rows plain (differing cs) only b.1) in
        (not-true (fails_by_terms cs) a.0, (all.0, list-from cs cs all.0 all.1.0 all.1.1))

    back : HasPoint cs → sat cs ≡ true
    back h =
        let u = (not-false (unifies cs) (list_any (is_refuted cs) cs) h.0).0 in
        let v = through (resolver cs) h.1.0 in
        let m = list-to cs cs h.1.0 u h.1.1 in
        and_from _ _ (ap not h.0) (and_from _ _ ((rows-decided rows plain).1 (v, m.0)) (all-apart-to rows v plain m.0 (differing cs) only m.1))

pub sat-always : (cs : List Con) → Sat cs → sat cs ≡ true
sat-always cs s =
    let m = meets-point cs s.by.of s.meets in
    (sat-point cs).1 (m.0, (point s.by.of, m.1))

pub sat-sorted : (cs : List Con) → Sorted cs → sat cs ≡ true ↔ Sat cs
sat-sorted cs s = ((λ e. let h = (sat-point cs).0 e in sorted-met cs h.1.0 s h.0 h.1.1), sat-always cs)
