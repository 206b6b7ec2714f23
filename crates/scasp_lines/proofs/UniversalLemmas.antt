-- The universal variables of a cover: one for each variable of the clause that its head did not bind.
use Rattle.std.proofs.Common.{◌≡◌, ◌∙◌, ℕ, zero, suc, ◌+◌, ◌<◌, ◌≤◌, true, false, ◌||◌, not, nat_eq, List, ◌∷◌, Option, None, Some, refl, ap, sym, inl, inr, arith}
use Rattle.std.specs.List.{list_all, list_any}
use Rattle.std.proofs.lemmas.Bool.{true≢false, and_from, or_right, or_from, not_from_false, cond-true, cond-false, cases_Bool}
use Rattle.scasp_syntax.specs.Same.{same_tm}
use Rattle.scasp_syntax.specs.Tm.{Tm, Tms, var}
use Rattle.scasp_syntax.specs.Values.{Sub, is_ground, under, all_under}
use Rattle.scasp_syntax.proofs.SameLemmas.{tm_decided}
use Rattle.scasp_lines.specs.Known.{is_known, are_known}
use Rattle.scasp_lines.specs.Opened.{ranges, is_met, knows, well}
use Rattle.scasp_lines.specs.OpeningLaws.{OpeningFits, OpeningSays, CoverFits, CoverGrows, CoverSays, CoverIsMet}
use Rattle.scasp_lines.specs.Openings.{Opening, bound_to, open_terms}
use Rattle.scasp_lines.specs.Covers.{Cover, with_universal, with_universals, value_of, term_or, cover_from, covering}
use Rattle.scasp_lines.specs.Ways.{set_to}
use Rattle.scasp_lines.proofs.KnownLemmas.{agree-tm, wider-tm}
use Rattle.scasp_list.proofs.MemberLemmas.{list_all-member, list_any-member}
use Rattle.scasp_lines.proofs.OpeningFits.{bound-kept, bound-more, grows-terms}
use Rattle.scasp_lines.proofs.OpeningLemmas.{opens-terms}
use Rattle.scasp_lines.proofs.PartLemmas.{set_to-ground, nat-eq, nat-self}
use Rattle.scasp_lines.proofs.WaysLemmas.{met-agree}

not-same : (x y : ℕ) → x < y → nat_eq y x ≡ false
not-same x y l = elim (cases_Bool (nat_eq y x)) [ inl e ↦ (let q = nat-eq y x e in absurd (omega (arith, q, l))) | inr e ↦ e ]

-- ---- what each variable stands for

-- what is bound stays so
all-kept : (n x : ℕ) (c : Cover) (y : ℕ) (t : Tm) → bound_to c.bound y ≡ Some t → bound_to (with_universals n x c).bound y ≡ Some t
all-kept zero x c y t h = h
all-kept (suc n) x c y t h = all-kept n (suc x) (with_universal (bound_to c.bound x) x c) y t (by (bound_to c.bound x) refl)
  where
    by : (o : Option Tm) → bound_to c.bound x ≡ o → bound_to (with_universal o x c).bound y ≡ Some t
    by None e = bound-kept c.bound x (var c.next) y t e h
    by (Some u) e = h

pub record Bound (bound : List (ℕ × Tm)) (y : ℕ) : Type 0 where
  pub to : Tm
  pub is : bound_to bound y ≡ Some to

pub all-bound : (n x : ℕ) (c : Cover) (y : ℕ) → x ≤ y → y < x + n → Bound (with_universals n x c).bound y
all-bound zero x c y l m = absurd (omega (arith, l, m))
all-bound (suc n) x c y l m = elim (cases_Bool (nat_eq y x)) [
  | inl e ↦ first (bound_to c.bound x) refl (nat-eq y x e)
  | inr e ↦ all-bound n (suc x) (with_universal (bound_to c.bound x) x c) y (later e) (omega (arith, m))
]
  where
    later : nat_eq y x ≡ false → suc x ≤ y
    later e = elim (cases_Bool (nat_eq y x)) [
      | inl i ↦ absurd (true≢false (sym i ∙ e))
      | inr i ↦ above (λ q. true≢false (sym (ap (λ z. nat_eq z x) q ∙ nat-self x) ∙ e))
    ]
      where
        above : (y ≡ x → ⊥) → suc x ≤ y
        above other = omega (arith, other, l)

    first : (o : Option Tm) → bound_to c.bound x ≡ o → y ≡ x → Bound (with_universals n (suc x) (with_universal (bound_to c.bound x) x c)).bound y
    first None e q =
        record {
          to = var c.next;
          is = all-kept n (suc x) (with_universal (bound_to c.bound x) x c) y (var c.next)
              (ap (λ (o : Option Tm). bound_to (with_universal o x c).bound y) e ∙ cond-true (nat_eq y x) (Some (var c.next)) (bound_to c.bound y) (ap (λ z. nat_eq z x) q ∙ nat-self x));
        }
    first (Some t) e q =
        record {
          to = t;
          is = all-kept n (suc x) (with_universal (bound_to c.bound x) x c) y t
              (ap (λ (o : Option Tm). bound_to (with_universal o x c).bound y) e ∙ ap (bound_to c.bound) q ∙ e);
        }

-- ---- what opened fits

module _ (n top : ℕ) where
  one-grows : (x : ℕ) (c : Cover) → CoverFits n top c → c.next < top → CoverGrows n top c (with_universal (bound_to c.bound x) x c)
  one-grows x c f l = by (bound_to c.bound x)
    where
      by : (o : Option Tm) → CoverGrows n top c (with_universal o x c)
      by (Some t) = record { fits = f; rises = omega arith; more = λ y h. h; only = λ y m h. h }
      by None =
          let new = f.unseen c.next (omega arith) l in
          let wider = λ (z : ℕ) (i : knows n c.opened z ≡ true). or_right (nat_eq z c.next) (knows n c.opened z) i in
          record {
            fits = record {
              well = and_from (well n c.opened) (not (knows n c.opened c.next)) f.well (not_from_false (knows n c.opened c.next) new);
              unseen = λ y m i. or_from (nat_eq y c.next) (knows n c.opened y) (not-same c.next y (omega (arith, m))) (f.unseen y (omega (arith, m)) i);
              known = λ z t h. bound-more c.bound x (var c.next) z t (λ u. is_known (knows n (ranges c.next ∷ c.opened)) u ≡ true) h
                  (λ e. ap (λ b. b || knows n c.opened c.next) (nat-self c.next))
                  (λ i. wider-tm (knows n c.opened) (knows n (ranges c.next ∷ c.opened)) wider t (f.known z t i));
            };
            rises = omega arith;
            more = wider;
            only = λ y m h. or_from (nat_eq y c.next) (knows n c.opened y) (not-same c.next y (omega (arith, m))) h;
          }

  one-next : (o : Option Tm) (x : ℕ) (c : Cover) → (with_universal o x c).next ≤ suc c.next
  one-next None x c = omega arith
  one-next (Some t) x c = omega arith

  -- there is room for all
  pub universals-grow : (count x : ℕ) (c : Cover) → CoverFits n top c → (c.next + count) ≤ top → CoverGrows n top c (with_universals count x c)
  universals-grow zero x c f l = record { fits = f; rises = omega arith; more = λ y h. h; only = λ y m h. h }
  universals-grow (suc count) x c f l =
      let one : Cover = with_universal (bound_to c.bound x) x c in
      let g = one-grows x c f (omega (arith, l)) in
      let most = one-next (bound_to c.bound x) x c in
      let rest = universals-grow count (suc x) one g.fits (omega (arith, l, most)) in
      let low = g.rises in let high = rest.rises in
      record {
        fits = rest.fits;
        rises = omega (arith, low, high);
        more = λ y h. rest.more y (g.more y h);
        only = λ y m h. rest.only y m (g.only y (omega (arith, m, high)) h);
      }

-- ---- and is met

module _ (n top : ℕ) (d : List Tm) (s : Sub) where
  pub record Met (c e : Cover) (v : Sub) : Type 0 where
    pub by : Sub
    pub says : CoverSays d s e by
    pub same : (x : ℕ) → knows n c.opened x ≡ true → by x ≡ v x
    pub ground : list_all is_ground d ≡ true → ((x : ℕ) → is_ground (v x) ≡ true) → (x : ℕ) → is_ground (by x) ≡ true

  one-met : (x : ℕ) (c : Cover) (v : Sub) → CoverFits n top c → c.next < top → CoverSays d s c v → list_any (same_tm (s x)) d ≡ true → Met c (with_universal (bound_to c.bound x) x c) v
  one-met x c v f l a in_domain = by (bound_to c.bound x)
    where
      by : (o : Option Tm) → Met c (with_universal o x c) v
      by (Some t) = record { by = v; says = a; same = λ y h. refl; ground = λ domain g. g }
      by None =
          let w : Sub = set_to v c.next (s x) in
          let here : w c.next ≡ s x = cond-true (nat_eq c.next c.next) (s x) (v c.next) (nat-self c.next) in
          let same : (y : ℕ) → knows n c.opened y ≡ true → w y ≡ v y = λ y h. cond-false (nat_eq y c.next) (s x) (v y) (other y h) in
          record {
            by = w;
            says = record {
              met = and_from (list_any (same_tm (w c.next)) d) (list_all (is_met d w) c.opened)
                  (ap (λ z. list_any (same_tm z) d) here ∙ in_domain) (met-agree d n c.opened v w f.well (λ y h. sym (same y h)) a.met);
              says = λ z t h. bound-more c.bound x (var c.next) z t (λ u. under w u ≡ s z) h
                  (λ e. here ∙ ap s (sym (nat-eq z x e)))
                  (λ i. agree-tm (knows n c.opened) w v same t (f.known z t i) ∙ a.says z t i);
            };
            same = same;
            ground = λ domain g. set_to-ground v c.next (s x) (member-ground domain) g;
          }
        where
          member-ground : list_all is_ground d ≡ true → is_ground (s x) ≡ true
          member-ground domain =
              let m = list_any-member (same_tm (s x)) d in_domain in
              ap is_ground ((tm_decided (s x) m.0).0 m.2) ∙ list_all-member is_ground d m.0 domain m.1

          other : (y : ℕ) → knows n c.opened y ≡ true → nat_eq y c.next ≡ false
          other y h = elim (cases_Bool (nat_eq y c.next)) [
            | inl e ↦ absurd (true≢false (sym h ∙ ap (knows n c.opened) (nat-eq y c.next e) ∙ f.unseen c.next (omega arith) l))
            | inr e ↦ e
          ]

  pub universals-met : (count x : ℕ) (c : Cover) (v : Sub) → CoverFits n top c → (c.next + count) ≤ top → CoverSays d s c v
      → ((y : ℕ) → x ≤ y → y < x + count → list_any (same_tm (s y)) d ≡ true) → Met c (with_universals count x c) v
  universals-met zero x c v f l a r = record { by = v; says = a; same = λ y h. refl; ground = λ domain g. g }
  universals-met (suc count) x c v f l a r =
      let one : Cover = with_universal (bound_to c.bound x) x c in
      let g = one-grows n top x c f (omega (arith, l)) in
      let most = one-next n top (bound_to c.bound x) x c in
      let first = one-met x c v f (omega (arith, l)) a (r x (omega arith) (omega arith)) in
      let rest = universals-met count (suc x) one first.by g.fits (omega (arith, l, most)) first.says (λ y i j. r y (omega (arith, i)) (omega (arith, j))) in
      record { by = rest.by; says = rest.says; same = λ y h. rest.same y (g.more y h) ∙ first.same y h; ground = λ domain g. rest.ground domain (first.ground domain g) }

-- ---- the whole cover

pub covering-grows : (n top vars next : ℕ) (o : Opening) → OpeningFits n o → ((y : ℕ) → next ≤ y → y < top → knows n o.opened y ≡ false) → (next + vars) ≤ top
    → CoverGrows n top (cover_from next o) (covering vars next o)
covering-grows n top vars next o f unseen room =
    universals-grow n top vars 0 (cover_from next o) (record { well = f.well; unseen = unseen; known = f.known }) room

-- each variable of the clause stands for a term whose variables are known
pub covering-known : (n top vars next : ℕ) (o : Opening) → OpeningFits n o → ((y : ℕ) → next ≤ y → y < top → knows n o.opened y ≡ false) → (next + vars) ≤ top
    → (x : ℕ) → x < vars → is_known (knows n (covering vars next o).opened) (value_of (covering vars next o).bound x) ≡ true
covering-known n top vars next o f unseen room x l =
    let g = covering-grows n top vars next o f unseen room in
    let b = all-bound vars 0 (cover_from next o) x (omega arith) (omega (arith, l)) in
    ap (λ t. is_known (knows n (covering vars next o).opened) (term_or (var x) t)) b.is ∙ (g.fits).known x b.to b.is

pub covering-met : (n top : ℕ) (d : List Tm) (s : Sub) (vars next : ℕ) (heads literals : Tms) (o : Opening) (v : Sub) → OpeningFits n o → OpeningSays d s o v
    → are_known (knows n o.opened) literals ≡ true → all_under v literals ≡ all_under s heads
    → top ≤ o.hidden → ((y : ℕ) → next ≤ y → y < top → knows n o.opened y ≡ false) → (next + vars) ≤ top
    → ((x : ℕ) → x < vars → list_any (same_tm (s x)) d ≡ true)
    → CoverIsMet n d s vars o.opened (covering vars next (open_terms heads literals o)) v
covering-met n top d s vars next heads literals o v f a k e high unseen room r =
    let q : Opening = open_terms heads literals o in
    let g = grows-terms n heads literals o f k in
    let first = opens-terms n d s heads literals o v f a k e in
    let fits : CoverFits n top (cover_from next q) =
    record { well = (g.fits).well; unseen = λ y l m. g.only y (omega (arith, m, high)) (unseen y l m); known = (g.fits).known } in
    let rest = universals-met n top d s vars 0 (cover_from next q) first.by fits room (record { met = (first.holds).met; says = (first.holds).says }) (λ y i j. r y (omega (arith, j))) in
    record {
      by = rest.by;
      met = (rest.says).met;
      same = λ x h. rest.same x (g.more x h) ∙ first.same x h;
      ground = λ domain g. rest.ground domain (first.ground g);
      values = λ x l.
          (let b = all-bound vars 0 (cover_from next q) x (omega arith) (omega (arith, l)) in
          ap (λ t. under rest.by (term_or (var x) t)) b.is ∙ (rest.says).says x b.to b.is);
    }
