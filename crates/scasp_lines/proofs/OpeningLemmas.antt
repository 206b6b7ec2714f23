-- Where a literal and a head have equal values, what opens is met.
use Rattle.std.proofs.Common.{◌≡◌, ◌∙◌, ℕ, ◌+◌, ◌≤◌, Bool, true, false, ◌&&◌, ◌||◌, nat_eq, List, ◌∷◌, length, Option, None, Some, refl, ap, sym, subst, inl, inr, arith}
use Rattle.std.specs.List.{list_all}
use Rattle.std.proofs.lemmas.Bool.{true≢false, and_parts, and_from, or_left, or_right, cond-true, cond-false, cases_Bool}
use Rattle.scasp_syntax.specs.Constraints.{holds}
use Rattle.scasp_syntax.specs.Same.{same_tm, same_number}
use Rattle.scasp_syntax.specs.Tm.{Tm, Tms, var, num, app, nil, cons, items}
use Rattle.scasp_syntax.specs.Values.{Sub, is_ground, under, all_under}
use Rattle.scasp_syntax.specs.View.{tm_of}
use Rattle.scasp_syntax.specs.declared.con.Con.{Con}
use Rattle.scasp_syntax.specs.declared.con.Con.TheVariants as con
use Rattle.scasp_syntax.proofs.SameLemmas.{tm_decided}
use Rattle.scasp_syntax.specs.Constraints.{is_number}
use Rattle.scasp_syntax.specs.declared.term.Term.TheVariants.{Var}
use Rattle.scasp_lines.specs.Known.{is_known, are_known, is_con_known}
use Rattle.scasp_lines.specs.Opened.{shaped, is_part, is_met, knows, none_known, well}
use Rattle.scasp_unify.specs.Negations.{new_parts}
use Rattle.scasp_lines.specs.Openings.{Opening, bound_to, with_bound, with_assumed, with_shape, equal, with_clash, open_variable, open_term, open_terms}
use Rattle.scasp_unify.specs.SimpleForm.{term_with}
use Rattle.scasp_lines.specs.OpeningLaws.{OpeningFits, OpeningSays, OpeningIsMet}
use Rattle.scasp_lines.specs.Ways.{set_all}
use Rattle.scasp_lines.proofs.KnownLemmas.{agree-tm, agree-tms, wider-tm, wider-tms}
use Rattle.scasp_lines.proofs.OpeningFits.{tm-term, bound-more, grows-shape, grows-term}
use Rattle.scasp_lines.proofs.PartLemmas.{set_all-ground, nat-eq, nat-self, part-above, part-below, parts-pass, new-parts, length-under, set-off, set-on}
use Rattle.scasp_lines.proofs.WaysLemmas.{met-agree}

module _ (n : ℕ) (d : List Tm) (s : Sub) where
  stays : (o : Opening) (v : Sub) → OpeningSays d s o v → OpeningIsMet n d s o o v
  stays o v a = record { by = v; holds = a; same = λ x h. refl; ground = λ g. g }

  then_ : (o q r : Opening) (v : Sub) → ((x : ℕ) → knows n o.opened x ≡ true → knows n q.opened x ≡ true)
      → (k : OpeningIsMet n d s o q v) → OpeningIsMet n d s q r (k.by) → OpeningIsMet n d s o r v
  then_ o q r v more k m =
      record { by = m.by; holds = m.holds; same = λ x h. m.same x (more x h) ∙ k.same x h; ground = λ g. m.ground (k.ground g) }

  -- a constraint that holds already
  adds : (o : Opening) (v : Sub) (c : Con) → OpeningSays d s o v → holds v c ≡ true → OpeningIsMet n d s o (with_assumed o c) v
  adds o v c a h =
      record {
        by = v;
        holds = record { met = and_from (holds v c) (list_all (is_met d v) o.opened) h a.met; says = a.says };
        same = λ x i. refl;
        ground = λ g. g;
      }

  binds : (o : Opening) (v : Sub) (x : ℕ) (l : Tm) → OpeningSays d s o v → under v l ≡ s x → OpeningIsMet n d s o (with_bound o x l) v
  binds o v x l a e =
      record {
        by = v;
        holds = record {
          met = a.met;
          says = λ z t h. bound-more o.bound x l z t (λ u. under v u ≡ s z) h (λ i. e ∙ ap s (sym (nat-eq z x i))) (a.says z t);
        };
        same = λ y i. refl;
        ground = λ g. g;
      }

  -- the parts of a value that has the shape
  shapes : (o : Opening) (v : Sub) (y f : ℕ) (ts : Tms) → OpeningFits n o → OpeningSays d s o v → knows n o.opened y ≡ true → v y ≡ app f ts
      → (k : OpeningIsMet n d s o (with_shape o y f (length (items ts))) v) × (all_under k.by (new_parts o.hidden (length (items ts))) ≡ ts)
  shapes o v y f ts fit a k e =
      let m : ℕ = length (items ts) in
      let w : Sub = set_all v o.hidden ts in
      let same : (x : ℕ) → knows n o.opened x ≡ true → w x ≡ v x = λ x i. set-off v o.hidden ts x (apart x i) in
      let values : all_under w (new_parts o.hidden m) ≡ ts = set-on v o.hidden ts in (
        record {
          by = w;
          holds = record {
            met = and_from (same_tm (w y) (app f (all_under w (new_parts o.hidden m)))) (list_all (is_met d w) o.opened)
                ((tm_decided (w y) (app f (all_under w (new_parts o.hidden m)))).1 (same y k ∙ e ∙ ap (app f) (sym values)))
                (met-agree d n o.opened v w fit.well (λ x i. sym (same x i)) a.met);
            says = λ x t h. agree-tm (knows n o.opened) w v same t (fit.known x t h) ∙ a.says x t h;
          };
          same = same;
          ground = λ g x. set_all-ground v o.hidden ts (sym (ap is_ground e) ∙ g y) g x;
        },
        values,
      )
    where
      apart : (x : ℕ) → knows n o.opened x ≡ true → is_part o.hidden (length (items ts)) x ≡ false
      apart x i = elim (cases_Bool (is_part o.hidden (length (items ts)) x)) [
        | inl p ↦ absurd (true≢false (sym i ∙ fit.unseen x (part-above o.hidden (length (items ts)) x p)))
        | inr p ↦ p
      ]

  equal-holds : (v : Sub) (t l : Tm) → under v t ≡ under v l → holds v (equal t l) ≡ true
  equal-holds v t l e =
      (tm_decided (under v (tm_of (term_with t))) (under v (tm_of (term_with l)))).1 (ap (under v) (tm-term t) ∙ e ∙ ap (under v) (sym (tm-term l)))

  mutual
    pub opens-term : (h l : Tm) (o : Opening) (v : Sub) → OpeningFits n o → OpeningSays d s o v → is_known (knows n o.opened) l ≡ true
        → under v l ≡ under s h → OpeningIsMet n d s o (open_term h l o) v
    opens-term (var x) l o v f a k e = by (bound_to o.bound x) refl
      where
        by : (t : Option Tm) → bound_to o.bound x ≡ t → OpeningIsMet n d s o (open_variable t x l o) v
        by None i = binds o v x l a e
        by (Some t) i = adds o v (equal t l) a (equal-holds v t l (a.says x t i ∙ sym e))
    opens-term (num q) (var y) o v f a k e =
        let first = adds o v (con.Num (Var y)) a (ap is_number e) in
        then_ o (with_assumed o (con.Num (Var y))) (with_assumed (with_assumed o (con.Num (Var y))) (equal (var y) (num q))) v (λ x h. h) first
        (adds (with_assumed o (con.Num (Var y))) first.by (equal (var y) (num q)) first.holds (equal-holds first.by (var y) (num q) (first.same y k ∙ e)))
    opens-term (num q) (num r) o v f a k e =
        subst (λ (z : Opening). OpeningIsMet n d s o z v) (sym (cond-true (same_number r q) o (with_clash o) ((tm_decided (num r) (num q)).1 e))) (stays o v a)
    opens-term (num q) (app g ls) o v f a k e = absurd (cc)
    opens-term (app g hs) (var y) o v f a k e =
        let m : ℕ = length (items hs) in
        let long : length (items (all_under s hs)) ≡ m = length-under s hs in
        let q : Opening = with_shape o y g m in
        let p : (w : OpeningIsMet n d s o q v) × (all_under w.by (new_parts o.hidden m) ≡ all_under s hs) =
        subst (λ (z : ℕ). (w : OpeningIsMet n d s o (with_shape o y g z) v) × (all_under w.by (new_parts o.hidden z) ≡ all_under s hs))
        long (shapes o v y g (all_under s hs) f a k e) in
        let grown = grows-shape n o y g m f k in
        then_ o q (open_terms hs (new_parts o.hidden m) q) v grown.more p.0
        (opens-terms hs (new_parts o.hidden m) q (p.0).by grown.fits (p.0).holds
        (parts-pass (knows n q.opened) o.hidden m (λ z i. or_left (is_part o.hidden m z) (knows n o.opened z) i)) p.1)
    opens-term (app g hs) (num q) o v f a k e = absurd (cc)
    opens-term (app g hs) (app j ls) o v f a k e =
        let name : j ≡ g = cc in
        let args : all_under v ls ≡ all_under s hs = cc in
        let long : length (items ls) ≡ length (items hs) = sym (length-under v ls) ∙ ap (λ z. length (items z)) args ∙ length-under s hs in
        subst (λ (z : Opening). OpeningIsMet n d s o z v)
        (sym (cond-true (nat_eq j g && nat_eq (length (items ls)) (length (items hs))) (open_terms hs ls o) (with_clash o)
        (and_from (nat_eq j g) (nat_eq (length (items ls)) (length (items hs))) (ap (λ z. nat_eq z g) name ∙ nat-self g)
        (ap (λ z. nat_eq z (length (items hs))) long ∙ nat-self (length (items hs))))))
        (opens-terms hs ls o v f a k args)

    pub opens-terms : (hs ls : Tms) (o : Opening) (v : Sub) → OpeningFits n o → OpeningSays d s o v → are_known (knows n o.opened) ls ≡ true
        → all_under v ls ≡ all_under s hs → OpeningIsMet n d s o (open_terms hs ls o) v
    opens-terms nil ls o v f a k e = stays o v a
    opens-terms (cons h hs) nil o v f a k e = stays o v a
    opens-terms (cons h hs) (cons l ls) o v f a k e =
        let p = and_parts (is_known (knows n o.opened) l) (are_known (knows n o.opened) ls) k in
        let head : under v l ≡ under s h = cc in
        let rest : all_under v ls ≡ all_under s hs = cc in
        let first = opens-term h l o v f a p.0 head in
        let grown = grows-term n h l o f p.0 in
        then_ o (open_term h l o) (open_terms hs ls (open_term h l o)) v grown.more first
        (opens-terms hs ls (open_term h l o) first.by grown.fits first.holds
        (wider-tms (knows n o.opened) (knows n (open_term h l o).opened) grown.more ls p.1)
        (agree-tms (knows n o.opened) first.by v first.same ls p.1 ∙ rest))
