-- What is evident from a list is told where the list is.
use Rattle.std.proofs.Common.{◌≡◌, ℕ, nat_eq, Bool, true, false, not, ◌&&◌, ◌||◌, List, [], ◌∷◌, Option, None, Some, refl, sym, ap, subst, ◌∙◌}
use Rattle.std.specs.Prelude.{if◌then◌else◌, ℤ, Result, Ok, Err}
use Rattle.std.specs.List.{list_all, list_any}
use Rattle.std.proofs.lemmas.Bool.{and_from, and_parts, true≢false}
use Rattle.scasp_lines.specs.Dues.{fact}
use Rattle.scasp_checker_rules.specs.SameConstraint.{same_con}
use Rattle.scasp_checker_rules.proofs.TestLemmas.{fact_decided}
use Rattle.scasp_hint.specs.AskedRows.{RowsNormal}
use Rattle.scasp_num.specs.declared.linear.Coeff.{Coeff}
use Rattle.scasp_num.specs.Linear.{Linear, coefficient, is_equation, negation}
use Rattle.scasp_num.specs.Values.{Holds}
use Rattle.scasp_num.proofs.Comparing.{holds-decided}
use Rattle.scasp_rows.specs.Points.{RationalPoint, is_false}
use Rattle.scasp_rows.specs.Steps.{may_step, row_sum, step_of, sum_or_overflow}
use Rattle.scasp_rows.specs.declared.steps.StepErr.{StepErr}
use Rattle.scasp_rows.specs.declared.steps.StepErr.TheVariants as err
use Rattle.scasp_rows.proofs.Reaching.{false-holds}
use Rattle.scasp_rows.proofs.Sums.{step-holds}
use Rattle.scasp_syntax.specs.Constraints.{is_number}
use Rattle.scasp_syntax.specs.RowTruth.{point, row_holds}
use Rattle.scasp_syntax.specs.Values.{Sub, Valuation}
use Rattle.scasp_syntax.specs.declared.con.Con.{Con}
use Rattle.scasp_syntax.specs.declared.con.Con.TheVariants as con
use Rattle.scasp_unify.proofs.PointLemmas.{negation-is}
use Rattle.scasp_shorten.specs.Evident.{against, clash, clash_at, clash_by, is_about_numbers, is_evident, is_false_sum, magnitude, row_tells, rows_tell, tells_alone}
use Rattle.scasp_shorten.specs.Following.{is_row_of, tells_number}
use Rattle.scasp_shorten.specs.Shortest.{is_told}
use Rattle.scasp_shorten.specs.Told.{tells, tells_all}
use Rattle.scasp_shorten.specs.declared.shortening.Means.{Means}
use Rattle.scasp_shorten.specs.declared.shortening.Means.TheVariants as means
use Rattle.scasp_shorten.proofs.FollowingLemmas.{by-number, follows-told, no-shape, number-told, numbers-told, row-here, some-passes}

-- ---- two rows

-- no point meets two rows of which a sum is false
sum-unmet : (a : ℤ) (p : Linear) (b : ℤ) (q : Linear) (v : RationalPoint) → is_false_sum (step_of a p b q) ≡ true → Holds v p → Holds v q → ⊥
sum-unmet a p b q v e g h = by (may_step a p b q) refl (row_sum a p b q) refl
  where
    by : (m : Bool) → may_step a p b q ≡ m → (o : Option Linear) → row_sum a p b q ≡ o → ⊥
    by true s (Some row) f =
        false-holds v row
        (sym (ap (λ k. is_false_sum (if k then sum_or_overflow (row_sum a p b q) else Err err.Sign)) s ∙ ap (λ (o : Option Linear). is_false_sum (sum_or_overflow o)) f) ∙ e)
        (step-holds a p b q row s (sym f) v g h)
    by true s None f =
        true≢false (sym e ∙ ap (λ k. is_false_sum (if k then sum_or_overflow (row_sum a p b q) else Err err.Sign)) s ∙ ap (λ (o : Option Linear). is_false_sum (sum_or_overflow o)) f)
    by false s o f = true≢false (sym e ∙ ap (λ k. is_false_sum (if k then sum_or_overflow (row_sum a p b q) else Err err.Sign)) s)

at-unmet : (a b : ℤ) (p q : Linear) (v : RationalPoint) → clash_at a b p q ≡ true → Holds v p → Holds v q → ⊥
at-unmet a b p q v e g h = by (is_equation q.op) refl
  where
    step : Bool → Bool
    step k = if k then is_false_sum (step_of (magnitude b) p (against b a) q) else is_false_sum (step_of (against a b) p (magnitude a) q)

    by : (k : Bool) → is_equation q.op ≡ k → ⊥
    by true s = sum-unmet (magnitude b) p (against b a) q v (sym (ap step s) ∙ e) g h
    by false s = sum-unmet (against a b) p (magnitude a) q v (sym (ap step s) ∙ e) g h

by-unmet : (ks : List Coeff) (p q : Linear) (v : RationalPoint) → clash_by ks p q ≡ true → Holds v p → Holds v q → ⊥
by-unmet [] p q v e g h = true≢false (sym e)
by-unmet (k ∷ ks) p q v e g h = at-unmet (coefficient k.x p.coeffs) (coefficient k.x q.coeffs) p q v e g h

-- a row holds where its negation does not
held : (v : Sub) (r : Linear) → (row_holds v (negation r) ≡ true → ⊥) → row_holds v r ≡ true
held v r n = by (row_holds v r) refl
  where
    by : (b : Bool) → row_holds v r ≡ b → row_holds v r ≡ true
    by true e = e
    by false e = absurd (n (negation-is v r ∙ ap not e))

numbers-here : (v : Sub) (p : Linear) (ks : List Coeff) → tells v (con.Row p) ≡ true → list_all (λ k. list_any (λ j. nat_eq k.x j.x) p.coeffs) ks ≡ true → list_all (λ k. is_number (v k.x)) ks ≡ true
numbers-here v p [] m e = refl
numbers-here v p (k ∷ ks) m e =
    let q = and_parts (list_any (λ j. nat_eq k.x j.x) p.coeffs) (list_all (λ k. list_any (λ j. nat_eq k.x j.x) p.coeffs) ks) e in
    and_from (is_number (v k.x)) (list_all (λ k. is_number (v k.x)) ks) (row-here v (con.Row p) k.x m q.0) (numbers-here v p ks m q.1)

row-told : (v : Sub) (p r : Linear) → row_tells p r ≡ true → tells v (con.Row p) ≡ true → tells v (con.Row r) ≡ true
row-told v p r e m =
    let q = and_parts (list_all (λ k. list_any (λ j. nat_eq k.x j.x) p.coeffs) r.coeffs) (clash p (negation r)) e in
    let here = (and_parts (list_all (λ k. is_number (v k.x)) p.coeffs) (row_holds v p) m).1 in
    and_from (list_all (λ k. is_number (v k.x)) r.coeffs) (row_holds v r)
    (numbers-here v p r.coeffs m q.0)
    (held v r (λ n. by-unmet p.coeffs p (negation r) (point v) q.1 ((holds-decided (point v) p).0 here) ((holds-decided (point v) (negation r)).0 n)))

rows-told : (v : Sub) (d c : Con) → rows_tell d c ≡ true → tells v d ≡ true → tells v c ≡ true
rows-told v (con.Row p) (con.Row r) e m = row-told v p r e m
rows-told v (con.Row p) (con.Eq t u) e m = absurd (true≢false (sym e))
rows-told v (con.Row p) (con.Neq t u) e m = absurd (true≢false (sym e))
rows-told v (con.Row p) (con.NotShape x f n) e m = absurd (true≢false (sym e))
rows-told v (con.Row p) (con.Num t) e m = absurd (true≢false (sym e))
rows-told v (con.Row p) (con.NotNum t) e m = absurd (true≢false (sym e))
rows-told v (con.Eq t u) c e m = absurd (true≢false (sym e))
rows-told v (con.Neq t u) c e m = absurd (true≢false (sym e))
rows-told v (con.NotShape x f n) c e m = absurd (true≢false (sym e))
rows-told v (con.Num t) c e m = absurd (true≢false (sym e))
rows-told v (con.NotNum t) c e m = absurd (true≢false (sym e))

-- ---- a list

same-is : (d c : Con) → same_con d c ≡ true → d ≡ c
same-is d c e = let same : fact (Some d) ≡ fact (Some c) = (fact_decided (fact (Some d)) c).0 e in cc

alone-told : (v : Sub) (d c : Con) → tells v d ≡ true → tells_alone d c ≡ true → tells v c ≡ true
alone-told v d c m e = by (same_con d c) refl
  where
    by : (b : Bool) → same_con d c ≡ b → tells v c ≡ true
    by true s = ap (tells v) (sym (same-is d c s)) ∙ m
    by false s = rows-told v d c (sym (ap (λ b. b || rows_tell d c) s) ∙ e) m

numbers-said : (v : Sub) (cs : List Con) (c : Con) → tells_all v cs ≡ true → is_about_numbers cs c ≡ true → tells v c ≡ true
numbers-said v cs (con.Num t) m e = by-number v cs t m e
numbers-said v cs (con.NotShape x f n) m e = no-shape f n (v x) (number-told v cs x m e)
numbers-said v cs (con.Row r) m e =
    let q = and_parts (list_all (λ k. tells_number cs k.x) r.coeffs) (is_false (negation r)) e in
    and_from (list_all (λ k. is_number (v k.x)) r.coeffs) (row_holds v r)
    (numbers-told v cs r.coeffs m q.0)
    (held v r (λ n. false-holds (point v) (negation r) q.1 ((holds-decided (point v) (negation r)).0 n)))
numbers-said v cs (con.Eq t u) m e = absurd (true≢false (sym e))
numbers-said v cs (con.Neq t u) m e = absurd (true≢false (sym e))
numbers-said v cs (con.NotNum t) m e = absurd (true≢false (sym e))

pub evident-told : (v : Sub) (cs : List Con) (c : Con) → is_evident cs c ≡ true → tells_all v cs ≡ true → tells v c ≡ true
evident-told v cs c e m = by (is_about_numbers cs c) refl
  where
    by : (b : Bool) → is_about_numbers cs c ≡ b → tells v c ≡ true
    by true s = numbers-said v cs c m s
    by false s = some-passes (tells v) (tells v c ≡ true) (λ d. tells_alone d c) (λ d. alone-told v d c) cs m (sym (ap (λ b. b || list_any (λ d. tells_alone d c) cs) s) ∙ e)

pub means-told : (m : Means) (cs : List Con) (c : Con) (v : Valuation) → RowsNormal cs → RowsNormal (c ∷ []) → is_told m cs c ≡ true → tells_all v.of cs ≡ true → tells v.of c ≡ true
means-told means.Evidence cs c v n k e t = evident-told v.of cs c e t
means-told means.Question cs c v n k e t = follows-told cs c v n k e t
