-- Where what opened is met, literal and head have equal values.
use Rattle.std.proofs.Common.{◌≡◌, ◌∙◌, ℕ, zero, suc, ◌+◌, true, false, ◌&&◌, nat_eq, List, ◌∷◌, length, Option, None, Some, refl, ap, sym, subst, inl, inr}
use Rattle.std.specs.List.{list_all}
use Rattle.std.proofs.lemmas.Bool.{false≢true, and_parts, cond_both, cond-true, cond-false, cases_Bool}
use Rattle.scasp_syntax.specs.Constraints.{holds}
use Rattle.scasp_syntax.specs.Same.{same_tm, same_number}
use Rattle.scasp_syntax.specs.Tm.{Tm, Tms, var, num, app, nil, cons, items}
use Rattle.scasp_syntax.specs.Values.{Sub, under, all_under}
use Rattle.scasp_syntax.specs.View.{tm_of}
use Rattle.scasp_syntax.specs.declared.con.Con.{Con}
use Rattle.scasp_syntax.specs.declared.con.Con.TheVariants as con
use Rattle.scasp_syntax.specs.declared.term.Term.TheVariants.{Var}
use Rattle.scasp_syntax.proofs.SameLemmas.{tm_decided}
use Rattle.scasp_unify.specs.Negations.{new_parts}
use Rattle.scasp_lines.specs.Opened.{Opened, is_met, shaped}
use Rattle.scasp_lines.specs.OpeningLaws.{OpeningSays}
use Rattle.scasp_lines.specs.Openings.{Opening, bound_to, with_bound, with_assumed, with_shape, equal, with_clash, open_variable, open_term, open_terms}
use Rattle.scasp_unify.specs.SimpleForm.{term_with}
use Rattle.scasp_lines.proofs.OpeningFits.{tm-term, bound-kept}
use Rattle.scasp_lines.proofs.PartLemmas.{nat-eq, nat-self, length-parts}

module _ (d : List Tm) (s v : Sub) where
  assumed-before : (o : Opening) (c : Con) → OpeningSays d s (with_assumed o c) v → OpeningSays d s o v
  assumed-before o c a = record { met = (and_parts (holds v c) (list_all (is_met d v) o.opened) a.met).1; says = a.says }

  bound-before : (o : Opening) (x : ℕ) (l : Tm) → bound_to o.bound x ≡ None → OpeningSays d s (with_bound o x l) v → OpeningSays d s o v
  bound-before o x l none a = record { met = a.met; says = λ z t h. a.says z t (bound-kept o.bound x l z t none h) }

  equal-values : (o : Opening) (t l : Tm) → OpeningSays d s (with_assumed o (equal t l)) v → under v t ≡ under v l
  equal-values o t l a =
      let same = (tm_decided (under v (tm_of (term_with t))) (under v (tm_of (term_with l)))).0
      (and_parts (holds v (equal t l)) (list_all (is_met d v) o.opened) a.met).0 in
      ap (under v) (sym (tm-term t)) ∙ same ∙ ap (under v) (tm-term l)

  no-clash : (o : Opening) → OpeningSays d s (with_clash o) v → ⊥
  no-clash o a = false≢true (and_parts false (list_all (is_met d v) o.opened) a.met).0

  shape-before : (o : Opening) (y f m : ℕ) → OpeningSays d s (with_shape o y f m) v → OpeningSays d s o v
  shape-before o y f m a =
      record { met = (and_parts (is_met d v (shaped y f o.hidden m)) (list_all (is_met d v) o.opened) a.met).1; says = a.says }

  -- what is met was so before
  mutual
    before-term : (h l : Tm) (o : Opening) → OpeningSays d s (open_term h l o) v → OpeningSays d s o v
    before-term (var x) l o a = by (bound_to o.bound x) refl a
      where
        by : (t : Option Tm) → bound_to o.bound x ≡ t → OpeningSays d s (open_variable t x l o) v → OpeningSays d s o v
        by None e b = bound-before o x l e b
        by (Some t) e b = assumed-before o (equal t l) b
    before-term (num q) (var y) o a =
        assumed-before o (con.Num (Var y)) (assumed-before (with_assumed o (con.Num (Var y))) (equal (var y) (num q)) a)
    before-term (num q) (num r) o a =
        cond_both (same_number r q) o (with_clash o) (λ p. OpeningSays d s p v → OpeningSays d s o v) (λ _ b. b) (λ _ b. absurd (no-clash o b)) a
    before-term (num q) (app g ls) o a = absurd (no-clash o a)
    before-term (app f hs) (var y) o a =
        shape-before o y f (length (items hs)) (before-terms hs (new_parts o.hidden (length (items hs))) (with_shape o y f (length (items hs))) a)
    before-term (app f hs) (num q) o a = absurd (no-clash o a)
    before-term (app f hs) (app g ls) o a =
        cond_both (nat_eq g f && nat_eq (length (items ls)) (length (items hs))) (open_terms hs ls o) (with_clash o)
        (λ p. OpeningSays d s p v → OpeningSays d s o v) (λ _ b. before-terms hs ls o b) (λ _ b. absurd (no-clash o b)) a

    before-terms : (hs ls : Tms) (o : Opening) → OpeningSays d s (open_terms hs ls o) v → OpeningSays d s o v
    before-terms nil ls o a = a
    before-terms (cons h hs) nil o a = a
    before-terms (cons h hs) (cons l ls) o a = before-term h l o (before-terms hs ls (open_term h l o) a)

  mutual
    pub says-term : (h l : Tm) (o : Opening) → OpeningSays d s (open_term h l o) v → under v l ≡ under s h
    says-term (var x) l o a = by (bound_to o.bound x) refl a
      where
        by : (t : Option Tm) → bound_to o.bound x ≡ t → OpeningSays d s (open_variable t x l o) v → under v l ≡ s x
        by None e b = b.says x l (cond-true (nat_eq x x) (Some l) (bound_to o.bound x) (nat-self x))
        by (Some t) e b = sym (equal-values o t l b) ∙ b.says x t e
    says-term (num q) (var y) o a = equal-values (with_assumed o (con.Num (Var y))) (var y) (num q) a
    says-term (num q) (num r) o a =
        elim (cases_Bool (same_number r q)) [
          | inl e ↦ (tm_decided (num r) (num q)).0 e
          | inr e ↦ absurd (no-clash o (subst (λ (z : Opening). OpeningSays d s z v) (cond-false (same_number r q) o (with_clash o) e) a))
        ]
    says-term (num q) (app g ls) o a = absurd (no-clash o a)
    says-term (app f hs) (var y) o a =
        let m : ℕ = length (items hs) in
        let q : Opening = with_shape o y f m in
        let b = before-terms hs (new_parts o.hidden m) q a in
        let shape = (tm_decided (v y) (app f (all_under v (new_parts o.hidden m)))).0
        (and_parts (is_met d v (shaped y f o.hidden m)) (list_all (is_met d v) o.opened) b.met).0 in
        shape ∙ ap (app f) (says-terms hs (new_parts o.hidden m) q (sym (length-parts o.hidden m)) a)
    says-term (app f hs) (num q) o a = absurd (no-clash o a)
    says-term (app f hs) (app g ls) o a =
        elim (cases_Bool (nat_eq g f && nat_eq (length (items ls)) (length (items hs)))) [
          | inl e ↦
              (let p = and_parts (nat_eq g f) (nat_eq (length (items ls)) (length (items hs))) e in
              let name : g ≡ f = nat-eq g f p.0 in
              let long : length (items hs) ≡ length (items ls) = sym (nat-eq (length (items ls)) (length (items hs)) p.1) in
              let args = says-terms hs ls o long (subst (λ (z : Opening). OpeningSays d s z v)
              (cond-true (nat_eq g f && nat_eq (length (items ls)) (length (items hs))) (open_terms hs ls o) (with_clash o) e) a) in
              ap (λ z. app z (all_under v ls)) name ∙ ap (app f) args)
          | inr e ↦ absurd (no-clash o (subst (λ (z : Opening). OpeningSays d s z v)
              (cond-false (nat_eq g f && nat_eq (length (items ls)) (length (items hs))) (open_terms hs ls o) (with_clash o) e) a))
        ]

    pub says-terms : (hs ls : Tms) (o : Opening) → length (items hs) ≡ length (items ls) → OpeningSays d s (open_terms hs ls o) v
        → all_under v ls ≡ all_under s hs
    says-terms nil nil o e a = refl
    says-terms nil (cons l ls) o e a = cc
    says-terms (cons h hs) nil o e a = cc
    says-terms (cons h hs) (cons l ls) o e a =
        let long : length (items hs) ≡ length (items ls) = cc in
        let first = says-term h l o (before-terms hs ls (open_term h l o) a) in
        let rest = says-terms hs ls (open_term h l o) long a in cc
