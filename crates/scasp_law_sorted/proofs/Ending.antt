-- The end of a case: the bindings of its universal variables go, and what stands outside keeps its tests.
use Rattle.std.specs.Prelude.{◌≡◌, ◌⊎◌, ℕ, suc, ◌<◌, ◌≤◌, true, false, List, [], ◌∷◌, ◌++◌, length}
use Rattle.std.specs.List.{Contains}
use Rattle.std.proofs.Common.{refl, arith, ap, sym, subst, ◌∙◌, inl, inr}
use Rattle.std.proofs.lemmas.Bool.{true≢false, cases_Bool, eq-eqb}
use Rattle.scasp_list.specs.Each.{Each}
use Rattle.scasp_list.proofs.EachLemmas.{Each-map, Each-both}
use Rattle.scasp_list.proofs.MemberLemmas.{Contains-none}
use Rattle.scasp_search_rules.specs.declared.states.covers.Cover.{Cover}
use Rattle.scasp_search_rules.specs.declared.states.covers.Remainder.{Remainder}
use Rattle.scasp_search_rules.specs.declared.states.state.Made.{Made}
use Rattle.scasp_search_rules.specs.Successors.Cases.{unbound}
use Rattle.scasp_search_rules.specs.Successors.Reading.{among}
use Rattle.scasp_search_rules.specs.Successors.Variables.{is_kind_matched, is_kind_universal}
use Rattle.scasp_syntax.specs.View.{tm_of}
use Rattle.scasp_syntax.specs.declared.con.Con.{Con}
use Rattle.scasp_syntax.specs.declared.con.Con.TheVariants as con
use Rattle.scasp_syntax.specs.declared.program.Program.{Program}
use Rattle.scasp_syntax.specs.declared.term.Term.TheVariants.{Var}
use Rattle.scasp_unify.specs.Parts.{occurs}
use Rattle.scasp_unify.specs.declared.bindings.Binding.{Binding}
use Rattle.scasp_unify.proofs.Members.{Each-member}
use Rattle.scasp_law_no_circle.proofs.Closing.{nested-all}
use Rattle.scasp_law_no_circle.proofs.Meeting.{bound-there}
use Rattle.scasp_law_no_circle.proofs.Places.{entry, Placed}
use Rattle.scasp_law_no_circle.proofs.Scope.{Falls, Owned, Sound, Nested}
use Rattle.scasp_law_no_circle.proofs.Scope as scope
use Rattle.scasp_law_sorted.proofs.Standing.{stands, Lone, Waits, Holds, AllHold, Core, once-filter}
use Rattle.scasp_law_sorted.proofs.Tested.{Tested, tested-more, stays, stayed, stays_bound, tested-kept, tested-parts, tested-all, RowIn, rows-mapped}

-- existential, or not deeper than d
abbrev Shallow : List Made → ℕ → ℕ → Type 0
Shallow made d w = Lone made w ⊎ ((is_kind_matched (entry made w).kind ≡ false) × ((entry made w).depth ≤ d))

-- the universal variables of covers, and of what waits in them, are of the covers' depth
abbrev Owners : List Made → List Cover → Type 0
Owners made os = Each (λ o. ((u : ℕ) → among u o.universals ≡ true → Owned made o.depth u) × Each (λ r. (u : ℕ) → among u r.universals ≡ true → Owned made o.depth u) o.waiting) os

owners : (p : Program) (made : List Made) (cs : List Cover) (bs : List Binding) (os : List Cover) → Each (scope.Holds p made cs bs) os → Owners made os
owners p made cs bs os h =
    Each-map (scope.Holds p made cs bs) (λ o. ((u : ℕ) → among u o.universals ≡ true → Owned made o.depth u) × Each (λ r. (u : ℕ) → among u r.universals ≡ true → Owned made o.depth u) o.waiting)
    (λ o k. ((λ u i. (k.universals u i).0), Each-map (scope.Waits p made cs bs o.depth o.clause o.first o.universals) (λ r. (u : ℕ) → among u r.universals ≡ true → Owned made o.depth u) (λ r w u i. w.owned u i) o.waiting k.waiting)) os h

module _ (made : List Made) (bs : List Binding) (gs : List Con) (falls : Each (Falls made) bs) (lone : (w : ℕ) → Tested bs gs w → Lone made w) where
  module _ (es : List Binding) (fewer : (b : Binding) → Contains es b → Contains bs b) where
    -- what universal variables of depth d are bound to
    region-shallow : (d : ℕ) (us : List ℕ) → ((u : ℕ) → among u us ≡ true → Owned made d u) → (region : List Con) → ((z : ℕ) → Contains region (con.Num (Var z)) → among z us ≡ true) → (w : ℕ) → Tested es region w → Shallow made d w
    region-shallow d us own region tests w t =
        inr (tested-all es region (λ y. (is_kind_matched (entry made y).kind ≡ false) × ((entry made y).depth ≤ d)) begin on w t)
      where
        begin : (z : ℕ) → Contains region (con.Num (Var z)) → (is_kind_matched (entry made z).kind ≡ false) × ((entry made z).depth ≤ d)
        begin z i = let o = own z (tests z i) in let depth : (entry made z).depth ≡ d = o.2 in (ap is_kind_matched o.1, omega (arith, depth))

        on : (b : Binding) → Contains es b → (y : ℕ) → b.term ≡ Var y → (is_kind_matched (entry made b.x).kind ≡ false) × ((entry made b.x).depth ≤ d) → (is_kind_matched (entry made y).kind ≡ false) × ((entry made y).depth ≤ d)
        on b i y e k =
            let u = (Each-member (Falls made) bs b falls (fewer b i)).1 k.0 y (ap (λ t. occurs y (tm_of t)) e ∙ eq-eqb y y refl) in
            let less = u.depth in let more = k.1 in
            (u.kinded, omega (arith, less, more))

    stands-shallow : (d : ℕ) (os : List Cover) → Owners made os → Placed os → length os ≤ d → AllHold bs gs os → (w : ℕ) → Tested es (stands gs os) w → Shallow made d w
    stands-shallow d [] o l m k w t = inl (lone w (tested-more es bs gs gs fewer (λ c i. i) w t))
    stands-shallow d (c ∷ cs) o l m k w t = by (tested-parts es (stands gs cs) c.region w t) (λ f. stands-shallow d cs o.1 l.1 (omega (arith, m)) k.1 w f)
      where
        by : Tested es (stands gs cs) w ⊎ Tested es c.region w → (Tested es (stands gs cs) w → Shallow made d w) → Shallow made d w
        by (inl f) rest = rest f
        by (inr f) rest = low (region-shallow c.depth c.universals o.0.0 c.region k.0.tests w f)
          where
            low : Shallow made c.depth w → Shallow made d w
            low (inl e) = inl e
            low (inr e) = let a = e.1 in let b : c.depth ≡ suc (length cs) = l.0 in inr (e.0, omega (arith, a, b, m))

  -- a variable that is not so deep is none of these
  apart : (d n : ℕ) (us : List ℕ) → ((u : ℕ) → among u us ≡ true → Owned made n u) → d < n → (w : ℕ) → Shallow made d w → among w us ≡ false
  apart d n us own l w s = by (cases_Bool (among w us)) s
    where
      by : (among w us ≡ true) ⊎ (among w us ≡ false) → Shallow made d w → among w us ≡ false
      by (inr e) k = e
      by (inl e) (inl k) = absurd (true≢false (sym (ap is_kind_universal (own w e).1) ∙ ap is_kind_universal k.1))
      by (inl e) (inr k) = let depth : (entry made w).depth ≡ n = (own w e).2 in let m = k.1 in absurd (omega (arith, depth, m, l))

  -- ---- covers outside

  module _ (n : ℕ) (us but : List ℕ) (own : (u : ℕ) → among u us ≡ true → Owned made n u) where
    kept-waits : (d : ℕ) (os : List Cover) → Owners made os → Placed os → length os ≤ d → d < n → AllHold bs gs os → (vs : List ℕ) (r : Remainder) → ((u : ℕ) → among u r.universals ≡ true → Owned made d u)
        → Waits bs (stands gs os) vs r → Waits (unbound us but bs) (stands gs os) vs r
    kept-waits d os o l m less k vs r owned wait = record {
      tests = wait.tests;
      rows = rows-mapped fewer (unbound vs r.replaced (unbound us but bs)) all all kept r.region wait.rows;
    }
      where
        fewer : List Binding
        fewer = unbound vs r.replaced bs

        all : List Con
        all = stands gs os ++ r.region

        within : (b : Binding) → Contains (unbound vs r.replaced bs) b → Contains bs b
        within b i = (stayed vs r.replaced bs b i).0

        low : (w : ℕ) → Tested (unbound vs r.replaced bs) (stands gs os ++ r.region) w → Shallow made d w
        low w t = by (tested-parts fewer (stands gs os) r.region w t)
          where
            by : Tested (unbound vs r.replaced bs) (stands gs os) w ⊎ Tested (unbound vs r.replaced bs) r.region w → Shallow made d w
            by (inl f) = stands-shallow fewer within d os o l m k w f
            by (inr f) = region-shallow fewer within d r.universals owned r.region wait.tests w f

        kept : (y : ℕ) → Tested (unbound vs r.replaced bs) (stands gs os ++ r.region) y → Tested (unbound vs r.replaced (unbound us but bs)) (stands gs os ++ r.region) y
        kept y t =
            tested-more (unbound us but fewer) (unbound vs r.replaced (unbound us but bs)) all all swapped (λ c i. i) y
            (tested-kept fewer all us but (λ v f. apart d n us own less v (low v f)) y t)
          where
            swapped : (b : Binding) → Contains (unbound us but (unbound vs r.replaced bs)) b → Contains (unbound vs r.replaced (unbound us but bs)) b
            swapped b i =
                let a = stayed us but fewer b i in
                let c = stayed vs r.replaced bs b a.0 in
                stays vs r.replaced (unbound us but bs) b (stays us but bs b c.0 a.1) c.1

    all-kept : (os : List Cover) → Owners made os → Placed os → length os < n → AllHold bs gs os → AllHold (unbound us but bs) gs os
    all-kept [] o l m k = tt
    all-kept (c ∷ cs) o l m k = (
      record {
        tests = k.0.tests;
        rows = rows-mapped bs (unbound us but bs) (stands gs cs ++ c.region) (stands gs cs ++ c.region)
            (λ w t. tested-kept bs (stands gs cs ++ c.region) us but (λ v f. apart (length (c ∷ cs)) n us own m v (stands-shallow bs (λ b i. i) (length (c ∷ cs)) (c ∷ cs) o l (omega arith) k v f)) w t) c.region k.0.rows;
        waiting = waiting c.waiting o.0.1 k.0.waiting;
      },
      all-kept cs o.1 l.1 (omega (arith, m)) k.1,
    )
      where
        depth : c.depth ≡ suc (length cs)
        depth = l.0

        waiting : (rs : List Remainder) → Each (λ r. (u : ℕ) → among u r.universals ≡ true → Owned made c.depth u) rs → Each (Waits bs (stands gs cs) c.universals) rs → Each (Waits (unbound us but bs) (stands gs cs) c.universals) rs
        waiting [] a b = tt
        waiting (r ∷ rs) a b = (kept-waits c.depth cs o.1 l.1 (omega (arith, depth)) (omega (arith, depth, m)) k.1 c.universals r a.0 b.0, waiting rs a.1 b.1)

-- ---- the innermost cover's case ends

module _ (p : Program) (made : List Made) (c : Cover) (cs : List Cover) (bs : List Binding) (gs : List Con) (h : Sound p made (c ∷ cs) bs) (k : Core made (c ∷ cs) bs gs) where
  pub ended-core : (but : List ℕ) → Core made cs (unbound c.universals but bs) gs
  ended-core but = record {
    once = once-filter (stays_bound c.universals but) bs k.once;
    lone = (λ w t. k.lone w (tested-more (unbound c.universals but bs) bs gs gs (λ b i. (stayed c.universals but bs b i).0) (λ d i. i) w t));
    plain = k.plain;
    rows = rows-mapped bs (unbound c.universals but bs) gs gs (tested-kept bs gs c.universals but (λ w t. apart made bs gs h.falls k.lone 0 c.depth c.universals own some w (inl (k.lone w t)))) gs k.rows;
    covers = all-kept made bs gs h.falls k.lone c.depth c.universals but own cs (owners p made (c ∷ cs) bs cs h.covers.1) h.placed.1 (omega (arith, depth)) k.covers.1;
  }
    where
      depth : c.depth ≡ suc (length cs)
      depth = h.placed.0

      some : 0 < c.depth
      some = omega (arith, depth)

      own : (u : ℕ) → among u c.universals ≡ true → Owned made c.depth u
      own u i = (h.covers.0.universals u i).0

  -- a remainder is taken up, as this cover
  module _ (r : Remainder) (rs : List Remainder) (e : c.waiting ≡ r ∷ rs) (a : Cover) (is_universals : a.universals ≡ r.universals) (is_region : a.region ≡ r.region) (is_waiting : a.waiting ≡ rs) where
    waits : Each (Waits bs (stands gs cs) c.universals) (r ∷ rs)
    waits = subst (Each (Waits bs (stands gs cs) c.universals)) e k.covers.0.waiting

    nested : Nested c.universals (r ∷ rs)
    nested = subst (Nested c.universals) e h.covers.0.nested

    hidden : Each (scope.Waits p made (c ∷ cs) bs c.depth c.clause c.first c.universals) (r ∷ rs)
    hidden = subst (Each (scope.Waits p made (c ∷ cs) bs c.depth c.clause c.first c.universals)) e h.covers.0.waiting

    older : (o : Remainder) → ((u : ℕ) → among u o.replaced ≡ true → among u r.replaced ≡ true) → Waits bs (stands gs cs) c.universals o → Waits (unbound c.universals r.replaced bs) (stands gs cs) r.universals o
    older o f wait = record {
      tests = wait.tests;
      rows = rows-mapped (unbound c.universals o.replaced bs) (unbound r.universals o.replaced (unbound c.universals r.replaced bs)) (stands gs cs ++ o.region) (stands gs cs ++ o.region)
          (tested-more (unbound c.universals o.replaced bs) (unbound r.universals o.replaced (unbound c.universals r.replaced bs)) (stands gs cs ++ o.region) (stands gs cs ++ o.region) kept (λ d i. i)) o.region wait.rows;
    }
      where
        kept : (b : Binding) → Contains (unbound c.universals o.replaced bs) b → Contains (unbound r.universals o.replaced (unbound c.universals r.replaced bs)) b
        kept b i = let q = stayed c.universals o.replaced bs b i in by q.0 q.1
          where
            free : Contains bs b → among b.x c.universals ≡ false → (among b.x r.universals ≡ true) ⊎ (among b.x r.universals ≡ false) → among b.x r.universals ≡ false
            free j g (inr m) = m
            free j g (inl m) = absurd (true≢false (sym (bound-there bs b b.x j refl) ∙ hidden.0.hidden b.x m g))

            by : Contains bs b → (among b.x c.universals ≡ false) ⊎ (among b.x o.replaced ≡ true) → Contains (unbound r.universals o.replaced (unbound c.universals r.replaced bs)) b
            by j (inl g) = stays r.universals o.replaced (unbound c.universals r.replaced bs) b (stays c.universals r.replaced bs b j (inl g)) (inl (free j g (cases_Bool (among b.x r.universals))))
            by j (inr g) = stays r.universals o.replaced (unbound c.universals r.replaced bs) b (stays c.universals r.replaced bs b j (inr (f b.x g))) (inr g)

    taken-holds : Holds (unbound c.universals r.replaced bs) (stands gs cs) a
    taken-holds = record {
      tests = (λ z i. subst (λ (us : List ℕ). among z us ≡ true) (sym is_universals) (waits.0.tests z (subst (λ (l : List Con). Contains l (con.Num (Var z))) is_region i)));
      rows = subst (λ (l : List Con). Each (RowIn (unbound c.universals r.replaced bs) (stands gs cs ++ l)) l) (sym is_region) waits.0.rows;
      waiting = subst (λ (os : List Remainder). Each (Waits (unbound c.universals r.replaced bs) (stands gs cs) a.universals) os) (sym is_waiting)
          (subst (λ (us : List ℕ). Each (Waits (unbound c.universals r.replaced bs) (stands gs cs) us) rs) (sym is_universals)
          (Each-map (λ o. ((u : ℕ) → among u o.replaced ≡ true → among u r.replaced ≡ true) × Waits bs (stands gs cs) c.universals o) (Waits (unbound c.universals r.replaced bs) (stands gs cs) r.universals) (λ o q. older o q.0 q.1) rs
          (Each-both (λ (o : Remainder). (u : ℕ) → among u o.replaced ≡ true → among u r.replaced ≡ true) (Waits bs (stands gs cs) c.universals) rs (nested-all r.replaced rs nested.1) waits.1)));
    }

    pub taken-core : Core made (a ∷ cs) (unbound c.universals r.replaced bs) gs
    taken-core = let out = ended-core r.replaced in record { once = out.once; lone = out.lone; plain = out.plain; rows = out.rows; covers = (taken-holds, out.covers) }

-- ---- a cover begins, in which nothing is said yet

pub begun-core : (made more : List Made) (c : Cover) (cs : List Cover) (bs : List Binding) (gs : List Con) → c.region ≡ [] → c.waiting ≡ [] → ((w : ℕ) → Lone made w → Lone more w) → Core made cs bs gs → Core more (c ∷ cs) bs gs
begun-core made more c cs bs gs e f g k = record {
  once = k.once;
  lone = (λ w t. g w (k.lone w t));
  plain = k.plain;
  rows = k.rows;
  covers = (
    record {
      tests = (λ z i. absurd (Contains-none (con.Num (Var z)) (subst (λ (l : List Con). Contains l (con.Num (Var z))) e i)));
      rows = subst (λ (l : List Con). Each (RowIn bs (stands gs cs ++ c.region)) l) (sym e) tt;
      waiting = subst (λ (rs : List Remainder). Each (Waits bs (stands gs cs) c.universals) rs) (sym f) tt;
    },
    k.covers,
  );
}
