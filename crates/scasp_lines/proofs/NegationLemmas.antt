-- The negation of a constraint that excludes no shape with parts holds exactly where the constraint does not.
use Rattle.std.proofs.Common.{◌≡◌, ◌↔◌, ◌∙◌, ℕ, zero, suc, Bool, true, false, ◌&&◌, not, nat_eq, length, refl, ap, sym, inl, inr, arith}
use Rattle.std.proofs.lemmas.Bool.{cases_Bool, false≢true}
use Rattle.scasp_num.specs.Linear.{Linear, negation}
use Rattle.scasp_num.specs.Values.{Holds}
use Rattle.scasp_num.proofs.Comparing.{holds-decided}
use Rattle.scasp_num.proofs.Valuations.{negation-holds}
use Rattle.scasp_syntax.specs.Constraints.{holds, is_number, has_shape}
use Rattle.scasp_syntax.specs.RowTruth.{point, row_holds}
use Rattle.scasp_syntax.specs.Same.{same_tm}
use Rattle.scasp_syntax.specs.Tm.{Tm, var, num, app, nil, cons, items}
use Rattle.scasp_syntax.specs.Values.{Sub, under}
use Rattle.scasp_syntax.specs.View.{tm_of}
use Rattle.scasp_syntax.specs.declared.con.Con.{Con}
use Rattle.scasp_syntax.specs.declared.con.Con.TheVariants as con
use Rattle.scasp_unify.specs.Negations.{negated}
use Rattle.scasp_lines.specs.Scopes.{excludes_no_parts}
use Rattle.scasp_lines.proofs.PartLemmas.{nat-eq}

not-not : (b : Bool) → b ≡ not (not b)
not-not true = refl
not-not false = refl

-- ---- rows

row-negated : (v : Sub) (r : Linear) → row_holds v (negation r) ≡ not (row_holds v r)
row-negated v r = elim (cases_Bool (row_holds v r)) [
  | inl e ↦ is-false (λ h. not-both ((holds-decided (point v) r).0 e) ((holds-decided (point v) (negation r)).0 h)) ∙ ap not (sym e)
  | inr e ↦ (holds-decided (point v) (negation r)).1 (opposite.1 (λ h. false≢true (sym e ∙ (holds-decided (point v) r).1 h))) ∙ ap not (sym e)
]
  where
    opposite : Holds (point v) (negation r) ↔ (¬ Holds (point v) r)
    opposite = negation-holds r (negation r) refl (point v)

    not-both : Holds (point v) r → Holds (point v) (negation r) → ⊥
    not-both h k = opposite.0 k h

    is-false : (row_holds v (negation r) ≡ true → ⊥) → row_holds v (negation r) ≡ false
    is-false none = elim (cases_Bool (row_holds v (negation r))) [ inl e ↦ absurd (none e) | inr e ↦ e ]

-- ---- shapes

not-zero : (n : ℕ) → nat_eq (suc n) 0 ≡ false
not-zero n = elim (cases_Bool (nat_eq (suc n) 0)) [ inl e ↦ (let q = nat-eq (suc n) 0 e in absurd (omega (arith, q))) | inr e ↦ e ]

constant-shape : (f : ℕ) (t : Tm) → same_tm t (app f nil) ≡ has_shape f 0 t
constant-shape f (var x) = refl
constant-shape f (num q) = refl
constant-shape f (app g nil) = refl
constant-shape f (app g (cons t ts)) = ap (λ z. nat_eq g f && z) (sym (not-zero (length (items ts))))

pub negated-holds : (v : Sub) (k : ℕ) (c : Con) → excludes_no_parts c ≡ true → holds v (negated k c) ≡ not (holds v c)
negated-holds v k (con.Eq t u) h = refl
negated-holds v k (con.Neq t u) h = not-not (same_tm (under v (tm_of t)) (under v (tm_of u)))
negated-holds v k (con.NotShape x f zero) h = constant-shape f (v x) ∙ not-not (has_shape f 0 (v x))
negated-holds v k (con.NotShape x f (suc n)) h = absurd (cc)
negated-holds v k (con.Num t) h = refl
negated-holds v k (con.NotNum t) h = not-not (is_number (under v (tm_of t)))
negated-holds v k (con.Row r) h = row-negated v r
