-- What holds always as it stands holds under each substitution.
use Rattle.std.proofs.Common.{◌≡◌, Bool, true, false, not, is_none, List, [], ◌∷◌, Option, None, Some, ◌+ℤ◌, ◌*ℤ◌, pos, refl, sym, ap, arith, ◌∙◌}
use Rattle.std.proofs.lemmas.Bool.{true≢false}
use Rattle.std.proofs.lemmas.Int.{ints}
use Rattle.scasp_num.specs.Linear.{Linear, compares}
use Rattle.scasp_num.specs.Values.{numerator_under, row_sum}
use Rattle.scasp_num.specs.declared.linear.Coeff.{Coeff}
use Rattle.scasp_search_rules.specs.Successors.Reading.{constant_holds, holds_always}
use Rattle.scasp_syntax.specs.Constraints.{holds, is_number}
use Rattle.scasp_syntax.specs.RowTruth.{point, row_holds}
use Rattle.scasp_syntax.specs.Same.{same_tm}
use Rattle.scasp_syntax.specs.Tm.{Tm, var, num, app}
use Rattle.scasp_syntax.specs.Values.{Sub, under}
use Rattle.scasp_syntax.specs.View.{tm_of}
use Rattle.scasp_syntax.specs.declared.con.Con.{Con}
use Rattle.scasp_syntax.specs.declared.con.Con.TheVariants as con
use Rattle.scasp_syntax.proofs.SameLemmas.{tm_decided}
use Rattle.scasp_unify.specs.Parts.{Part, parts}
use Rattle.scasp_unify.specs.TermFailures.{is_compound}
use Rattle.scasp_unify.proofs.UnificationLemmas.{Says, parts-say}

pub number-stays : (t : Tm) (v : Sub) → is_number t ≡ true → is_number (under v t) ≡ true
number-stays (var x) v e = absurd (true≢false (sym e))
number-stays (num q) v e = refl
number-stays (app f ts) v e = absurd (true≢false (sym e))

name-stays : (t : Tm) (v : Sub) → is_compound t ≡ true → not (is_number (under v t)) ≡ true
name-stays (var x) v e = absurd (true≢false (sym e))
name-stays (num q) v e = absurd (true≢false (sym e))
name-stays (app f ts) v e = refl

differ-always : (t u : Tm) (v : Sub) → is_none (parts t u) ≡ true → not (same_tm (under v t) (under v u)) ≡ true
differ-always t u v e = by (parts t u) (parts-say v t u) e (same_tm (under v t) (under v u)) refl
  where
    by : (o : Option (List Part)) → Says v o (under v t ≡ under v u) → is_none o ≡ true → (b : Bool) → same_tm (under v t) (under v u) ≡ b → not b ≡ true
    by (Some ps) says f b k = absurd (true≢false (sym f))
    by None says f true k = absurd (says ((tm_decided (under v t) (under v u)).0 k))
    by None says f false k = refl

row-always : (r : Linear) (ks : List Coeff) → r.coeffs ≡ ks → constant_holds ks r ≡ true → (v : Sub) → row_holds v r ≡ true
row-always r [] h e v =
    let sum : numerator_under (point v) r ≡ pos 0 +ℤ r.constant *ℤ pos 1 = ap (λ (ks : List Coeff). (row_sum (point v) ks).0 +ℤ r.constant *ℤ (row_sum (point v) ks).1) h in
    let plain : pos 0 +ℤ r.constant *ℤ pos 1 ≡ r.constant = omega (arith, ints) in
    ap (compares r.op) (sum ∙ plain) ∙ e
row-always r (k ∷ ks) h e v = absurd (true≢false (sym e))

pub always : (c : Con) → holds_always c ≡ true → (v : Sub) → holds v c ≡ true
always (con.Eq t u) e v = (tm_decided (under v (tm_of t)) (under v (tm_of u))).1 (ap (under v) ((tm_decided (tm_of t) (tm_of u)).0 e))
always (con.Neq t u) e v = differ-always (tm_of t) (tm_of u) v e
always (con.NotShape x f n) e v = absurd (true≢false (sym e))
always (con.Num t) e v = number-stays (tm_of t) v e
always (con.NotNum t) e v = name-stays (tm_of t) v e
always (con.Row r) e v = row-always r r.coeffs refl e v
