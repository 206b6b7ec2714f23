-- What opens where a head is taken against a literal fits what opened before.
use Rattle.std.proofs.Common.{◌≡◌, ◌∙◌, ℕ, ◌+◌, ◌<◌, ◌≤◌, Bool, true, false, ◌&&◌, nat_eq, List, ◌∷◌, length, Option, None, Some, refl, ap, sym, subst, inl, inr, arith}
use Rattle.std.proofs.lemmas.Bool.{and_parts, and_from, or_left, or_right, or_from, cond_both, cond-true, cond-false, cases_Bool}
use Rattle.scasp_syntax.specs.Same.{same_number}
use Rattle.scasp_syntax.specs.Tm.{Tm, Tms, var, num, app, nil, cons, items}
use Rattle.scasp_syntax.specs.View.{tm_of}
use Rattle.scasp_syntax.specs.declared.con.Con.{Con}
use Rattle.scasp_syntax.specs.declared.con.Con.TheVariants as con
use Rattle.scasp_syntax.specs.declared.term.Term.TheVariants.{Var}
use Rattle.scasp_lines.specs.Known.{is_known, are_known, is_con_known}
use Rattle.scasp_lines.specs.Opened.{shaped, is_part, knows, none_known, well}
use Rattle.scasp_unify.specs.Negations.{new_parts}
use Rattle.scasp_lines.specs.OpeningLaws.{OpeningFits, OpeningGrows}
use Rattle.scasp_lines.specs.Openings.{Opening, bound_to, with_bound, with_assumed, with_shape, equal, with_clash, open_variable, open_term, open_terms}
use Rattle.scasp_unify.specs.SimpleForm.{term_with}
use Rattle.scasp_lines.proofs.KnownLemmas.{wider-tm, wider-tms}
use Rattle.scasp_lines.proofs.PartLemmas.{nat-eq, part-above, part-below, parts-pass, new-parts}

pub tm-term : (t : Tm) → tm_of (term_with t) ≡ t
tm-term (var x) = refl
tm-term (num q) = refl
tm-term (app f ts) = refl

pub equal-known : (k : ℕ → Bool) (t l : Tm) → is_known k t ≡ true → is_known k l ≡ true → is_con_known k (equal t l) ≡ true
equal-known k t l p q =
    and_from (is_known k (tm_of (term_with t))) (is_known k (tm_of (term_with l))) (ap (is_known k) (tm-term t) ∙ p) (ap (is_known k) (tm-term l) ∙ q)

-- a variable below the parts is none of them, and one that is not known and above them is not known with them
pub no-part_below : (k m y : ℕ) → y < k → is_part k m y ≡ false
no-part_below k m y l = elim (cases_Bool (is_part k m y)) [
  | inl p ↦ (let less = part-above k m y p in absurd (omega (arith, less, l)))
  | inr p ↦ p
]

pub no-part_above : (k m y : ℕ) → (k + m) ≤ y → is_part k m y ≡ false
no-part_above k m y l = elim (cases_Bool (is_part k m y)) [
  | inl p ↦ (let less = part-below k m y p in absurd (omega (arith, less, l)))
  | inr p ↦ p
]

-- what the variables stand for, with one more
pub bound-more : (bound : List (ℕ × Tm)) (x : ℕ) (l : Tm) (z : ℕ) (t : Tm) (P : Tm → Type 0) → bound_to ((x, l) ∷ bound) z ≡ Some t → (nat_eq z x ≡ true → P l) → (bound_to bound z ≡ Some t → P t) → P t
bound-more bound x l z t P h here there = elim (cases_Bool (nat_eq z x)) [
  | inl e ↦ subst P (some-same (sym (cond-true (nat_eq z x) (Some l) (bound_to bound z) e) ∙ h)) (here e)
  | inr e ↦ there (sym (cond-false (nat_eq z x) (Some l) (bound_to bound z) e) ∙ h)
]
  where
    some-same : Some l ≡ Some t → l ≡ t
    some-same e = cc

-- what is bound stays so where a variable that is not bound gets a term
pub bound-kept : (bound : List (ℕ × Tm)) (x : ℕ) (u : Tm) (y : ℕ) (t : Tm) → bound_to bound x ≡ None → bound_to bound y ≡ Some t
    → bound_to ((x, u) ∷ bound) y ≡ Some t
bound-kept bound x u y t none h = elim (cases_Bool (nat_eq y x)) [
  | inl e ↦ (let is = nat-eq y x e in let same : bound_to bound y ≡ None = ap (bound_to bound) is ∙ none in absurd (cc))
  | inr e ↦ cond-false (nat_eq y x) (Some u) (bound_to bound y) e ∙ h
]

module _ (n : ℕ) where
  grows-none : (o : Opening) → OpeningFits n o → OpeningGrows n o o
  grows-none o f = record { fits = f; rises = omega arith; more = λ x h. h; only = λ y l h. h }

  grows-then : (o q r : Opening) → OpeningGrows n o q → OpeningGrows n q r → OpeningGrows n o r
  grows-then o q r g h =
      let first = g.rises in let second = h.rises in
      record {
        fits = h.fits;
        rises = omega (arith, first, second);
        more = λ x k. h.more x (g.more x k);
        only = λ y l k. h.only y (omega (arith, l, first)) (g.only y l k);
      }

  grows-assumed : (o : Opening) (c : Con) → OpeningFits n o → is_con_known (knows n o.opened) c ≡ true → OpeningGrows n o (with_assumed o c)
  grows-assumed o c f k =
      record {
        fits = record { well = and_from (well n o.opened) (is_con_known (knows n o.opened) c) f.well k; unseen = f.unseen; known = f.known };
        rises = omega arith;
        more = λ x h. h;
        only = λ y l h. h;
      }

  grows-bound : (o : Opening) (x : ℕ) (l : Tm) → OpeningFits n o → is_known (knows n o.opened) l ≡ true → OpeningGrows n o (with_bound o x l)
  grows-bound o x l f k =
      record {
        fits = record { well = f.well; unseen = f.unseen; known = λ z t h. bound-more o.bound x l z t (λ u. is_known (knows n o.opened) u ≡ true) h (λ e. k) (f.known z t) };
        rises = omega arith;
        more = λ y h. h;
        only = λ y l h. h;
      }

  pub grows-shape : (o : Opening) (y f m : ℕ) → OpeningFits n o → knows n o.opened y ≡ true → OpeningGrows n o (with_shape o y f m)
  grows-shape o y f m fit k =
      record {
        fits = record {
          well = and_from (well n o.opened) (knows n o.opened y && none_known (knows n o.opened) o.hidden m) fit.well
              (and_from (knows n o.opened y) (none_known (knows n o.opened) o.hidden m) k (new-parts (knows n o.opened) o.hidden m fit.unseen));
          unseen = λ x l. or_from (is_part o.hidden m x) (knows n o.opened x) (no-part_above o.hidden m x l) (fit.unseen x (omega (arith, l)));
          known = λ x t h. wider-tm (knows n o.opened) (knows n (shaped y f o.hidden m ∷ o.opened)) (λ z i. or_right (is_part o.hidden m z) (knows n o.opened z) i) t (fit.known x t h);
        };
        rises = omega arith;
        more = λ x i. or_right (is_part o.hidden m x) (knows n o.opened x) i;
        only = λ x l h. or_from (is_part o.hidden m x) (knows n o.opened x) (no-part_below o.hidden m x l) h;
      }

  grows-clash : (o : Opening) → OpeningFits n o → OpeningGrows n o (with_clash o)
  grows-clash o f = grows-assumed o _ f refl

  mutual
    pub grows-term : (h l : Tm) (o : Opening) → OpeningFits n o → is_known (knows n o.opened) l ≡ true → OpeningGrows n o (open_term h l o)
    grows-term (var x) l o f k = by (bound_to o.bound x) refl
      where
        by : (t : Option Tm) → bound_to o.bound x ≡ t → OpeningGrows n o (open_variable t x l o)
        by None i = grows-bound o x l f k
        by (Some t) i = grows-assumed o (equal t l) f (equal-known (knows n o.opened) t l (f.known x t i) k)
    grows-term (num q) (var y) o f k =
        let first = grows-assumed o (con.Num (Var y)) f k in
        grows-then o (with_assumed o (con.Num (Var y))) (with_assumed (with_assumed o (con.Num (Var y))) (equal (var y) (num q))) first
        (grows-assumed (with_assumed o (con.Num (Var y))) (equal (var y) (num q)) first.fits (equal-known (knows n o.opened) (var y) (num q) k refl))
    grows-term (num q) (num r) o f k =
        cond_both (same_number r q) o (with_clash o) (λ p. OpeningGrows n o p) (λ _. grows-none o f) (λ _. grows-clash o f)
    grows-term (num q) (app g ls) o f k = grows-clash o f
    grows-term (app g hs) (var y) o f k =
        let q : Opening = with_shape o y g (length (items hs)) in
        let first = grows-shape o y g (length (items hs)) f k in
        grows-then o q (open_terms hs (new_parts o.hidden (length (items hs))) q) first
        (grows-terms hs (new_parts o.hidden (length (items hs))) q first.fits
        (parts-pass (knows n q.opened) o.hidden (length (items hs)) (λ z i. or_left (is_part o.hidden (length (items hs)) z) (knows n o.opened z) i)))
    grows-term (app g hs) (num q) o f k = grows-clash o f
    grows-term (app g hs) (app j ls) o f k =
        cond_both (nat_eq j g && nat_eq (length (items ls)) (length (items hs))) (open_terms hs ls o) (with_clash o) (λ p. OpeningGrows n o p) (λ _. grows-terms hs ls o f k) (λ _. grows-clash o f)

    pub grows-terms : (hs ls : Tms) (o : Opening) → OpeningFits n o → are_known (knows n o.opened) ls ≡ true → OpeningGrows n o (open_terms hs ls o)
    grows-terms nil ls o f k = grows-none o f
    grows-terms (cons h hs) nil o f k = grows-none o f
    grows-terms (cons h hs) (cons l ls) o f k =
        let p = and_parts (is_known (knows n o.opened) l) (are_known (knows n o.opened) ls) k in
        let first = grows-term h l o f p.0 in
        grows-then o (open_term h l o) (open_terms hs ls (open_term h l o)) first
        (grows-terms hs ls (open_term h l o) first.fits (wider-tms (knows n o.opened) (knows n (open_term h l o).opened) first.more ls p.1))
