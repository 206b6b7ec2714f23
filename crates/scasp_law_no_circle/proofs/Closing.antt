-- Cases that end: the universal variables of the cover lose their bindings, and what stands behind speaks of none of them.
use Rattle.std.specs.Prelude.{◌≡◌, ◌≢◌, ◌⊎◌, ℕ, suc, ◌+◌, ◌-◌, ◌<◌, ◌≤◌, nat_eq, Bool, true, false, ◌&&◌, ◌||◌, not, if◌then◌else◌, Option, Some, None, List, [], ◌∷◌, ◌++◌, length, filter}
use Rattle.std.specs.List.{Contains}
use Rattle.std.proofs.Common.{refl, arith, ap, sym, subst, ◌∙◌, inl, inr}
use Rattle.std.proofs.lemmas.Bool.{cases_Bool, and_from, or_from, or_left, or_right, or_parts, or_cases, eqb-true, eq-eqb, true≢false}
use Rattle.std.proofs.lemmas.List.{append-nil}
use Rattle.scasp_list.specs.Each.{Each}
use Rattle.scasp_list.proofs.EachLemmas.{Each-both, Each-filter, Each-map}
use Rattle.scasp_list.proofs.MemberLemmas.{Contains-from_filter}
use Rattle.scasp_search_rules.specs.declared.states.covers.Cover.{Cover}
use Rattle.scasp_search_rules.specs.declared.states.covers.Remainder.{Remainder}
use Rattle.scasp_search_rules.specs.declared.states.state.Kind.TheVariants.{Universal, Matched}
use Rattle.scasp_search_rules.specs.declared.states.state.Made.{Made}
use Rattle.scasp_search_rules.specs.declared.states.state.State.{State}
use Rattle.scasp_search_rules.specs.Successors.Calls.{vars_of_clause}
use Rattle.scasp_search_rules.specs.Successors.Cases.{cases_of, unbound, ended_case, replaced_now, remaining, taken_up, after_case, close_case}
use Rattle.scasp_search_rules.specs.Successors.Falls.{EachState}
use Rattle.scasp_search_rules.specs.Successors.Reading.{among}
use Rattle.scasp_search_rules.specs.Successors.Splits.{is_bound_in}
use Rattle.scasp_search_rules.specs.Successors.Variables.{binding, is_kind_matched, is_kind_universal}
use Rattle.scasp_syntax.specs.Tm.{Tm}
use Rattle.scasp_syntax.specs.Values.{under}
use Rattle.scasp_syntax.specs.View.{tm_of}
use Rattle.scasp_syntax.specs.declared.con.Con.{Con}
use Rattle.scasp_syntax.specs.declared.program.Program.{Program}
use Rattle.scasp_unify.specs.Parts.{occurs}
use Rattle.scasp_unify.specs.Solving.{sub_of}
use Rattle.scasp_unify.specs.declared.bindings.Binding.{Binding}
use Rattle.scasp_law_first_event.specs.Replaced.{first_inside, innermost_inside, stands_inside}
use Rattle.scasp_law_first_event.proofs.Bindings.{Solved, unbound-self}
use Rattle.scasp_law_first_event.proofs.Keeping.{solved-filter}
use Rattle.scasp_law_first_event.proofs.Terms.{EachVar, each-under, each-weaker, each-absent}
use Rattle.scasp_law_first_event.proofs.Turning.{kept-bound}
use Rattle.scasp_law_no_circle.proofs.Beginning.{cases-own, clause-scoped}
use Rattle.scasp_law_no_circle.proofs.Growing.{within, Fits, pushed-scopes}
use Rattle.scasp_law_no_circle.proofs.Meeting.{met-good, met-next, met-closed, met-reads, occurs-each, each-occurs, bound-there}
use Rattle.scasp_law_no_circle.proofs.Places.{entry, lower-same, owns, owns-inner, Place, places}
use Rattle.scasp_law_no_circle.proofs.Scope.{Good, existential, universal, matched, Scoped, good-deeper, Under, Falls, Owned, InClause, InEquation, Equates, Waits, Nested, Holds, Sound, Better, Carries, fewer-carries, Change, holds-kept, Scopes}
use Rattle.scasp_law_no_circle.proofs.Sides.{term-unbound}
use Rattle.scasp_law_no_circle.proofs.Tasks.{Waiting, plain, waiting-more, Owning}

-- ---- bindings that are taken out

pub filter-unbound : (test : Binding → Bool) (bs : List Binding) (z : ℕ) → is_bound_in bs z ≡ false → is_bound_in (filter test bs) z ≡ false
filter-unbound test [] z e = e
filter-unbound test (b ∷ bs) z e = by (test b) (or_parts (nat_eq b.x z) (is_bound_in bs z) e) (λ f. filter-unbound test bs z f)
  where
    by : (c : Bool) → (nat_eq b.x z ≡ false) × (is_bound_in bs z ≡ false) → (is_bound_in bs z ≡ false → is_bound_in (filter test bs) z ≡ false) → is_bound_in (if c then b ∷ filter test bs else filter test bs) z ≡ false
    by true q rest = or_from (nat_eq b.x z) (is_bound_in (filter test bs) z) q.0 (rest q.1)
    by false q rest = rest q.1

pub filtered-out : (test : Binding → Bool) (bs : List Binding) (z : ℕ) → ((b : Binding) → b.x ≡ z → test b ≡ false) → is_bound_in (filter test bs) z ≡ false
filtered-out test [] z f = refl
filtered-out test (b ∷ bs) z f = by (test b) refl (cases_Bool (nat_eq b.x z)) (filtered-out test bs z f)
  where
    by : (c : Bool) → test b ≡ c → (nat_eq b.x z ≡ true) ⊎ (nat_eq b.x z ≡ false) → is_bound_in (filter test bs) z ≡ false → is_bound_in (if c then b ∷ filter test bs else filter test bs) z ≡ false
    by true t (inl same) rest = absurd (true≢false (sym t ∙ f b (eqb-true b.x z same)))
    by true t (inr d) rest = or_from (nat_eq b.x z) (is_bound_in (filter test bs) z) d rest
    by false t q rest = rest

-- what was replaced at the splits behind one
pub nested-all : (us : List ℕ) (rs : List Remainder) → Nested us rs → Each (λ r. (u : ℕ) → among u r.replaced ≡ true → among u us ≡ true) rs
nested-all us [] h = tt
nested-all us (r ∷ rs) h =
    (h.0, Each-map (λ (o : Remainder). (u : ℕ) → among u o.replaced ≡ true → among u r.replaced ≡ true) (λ o. (u : ℕ) → among u o.replaced ≡ true → among u us ≡ true) (λ o k u i. h.0 u (k u i)) rs (nested-all r.replaced rs h.1))

module _ (p : Program) (made : List Made) (c : Cover) (cs : List Cover) (bs : List Binding) (h : Sound p made (c ∷ cs) bs) (but : List ℕ) where
  depth : c.depth ≡ suc (length cs)
  depth = h.placed.0

  kept-test : (b : Binding) → among b.x c.universals ≡ false → (not (among b.x c.universals) || among b.x but) ≡ true
  kept-test b e = or_left (not (among b.x c.universals)) (among b.x but) (ap not e)

  -- a variable that is none of the cover's keeps its bindings
  keeps-bound : (z : ℕ) → among z c.universals ≡ false → is_bound_in bs z ≡ true → is_bound_in (unbound c.universals but bs) z ≡ true
  keeps-bound z e i = kept-bound (λ b. not (among b.x c.universals) || among b.x but) bs z (λ b same. kept-test b (ap (λ (y : ℕ). among y c.universals) same ∙ e)) i

  not-owned : (z : ℕ) → (entry made z).kind ≡ Matched → among z c.universals ≡ false
  not-owned z e = by (cases_Bool (among z c.universals))
    where
      by : (among z c.universals ≡ true) ⊎ (among z c.universals ≡ false) → among z c.universals ≡ false
      by (inl i) = absurd (true≢false (sym (ap is_kind_matched e) ∙ ap is_kind_matched (h.covers.0.universals z i).0.1))
      by (inr i) = i

  shallow : (d z : ℕ) → d ≤ length cs → Owned made d z → among z c.universals ≡ false
  shallow d z l o = by (cases_Bool (among z c.universals))
    where
      by : (among z c.universals ≡ true) ⊎ (among z c.universals ≡ false) → among z c.universals ≡ false
      by (inl i) =
          let here : (entry made z).depth ≡ c.depth = (h.covers.0.universals z i).0.2 in
          let there : (entry made z).depth ≡ d = o.2 in absurd (omega (arith, depth, here, there, l))
      by (inr i) = i

  -- to covers of which the outer ones are these
  module _ (ds : List Cover) (outer : (d z : ℕ) → owns cs d z ≡ true → owns ds d z ≡ true) where
    ended-better : Better made made (c ∷ cs) ds bs (unbound c.universals but bs) (length cs)
    ended-better = record {
      long = within (length made);
      entries = (λ z l f. lower-same (entry made z) (entry made z) refl);
      owners = (λ d z l o. outer d z (owns-inner c cs h.placed d z l o));
      stays = (λ z e i. keeps-bound z (not-owned z e) i);
    }

    pub ended-carries : Carries made made (c ∷ cs) ds bs (unbound c.universals but bs) (length cs)
    ended-carries = fewer-carries made made (c ∷ cs) ds bs (unbound c.universals but bs) (length cs) ended-better (λ b i. (Contains-from_filter (λ b. not (among b.x c.universals) || among b.x but) bs b i).0)

    ended-change : Change made made (c ∷ cs) ds bs (unbound c.universals but bs) (length cs)
    ended-change = record {
      better = ended-better;
      carries = ended-carries;
      from = (λ b i. inl (Contains-from_filter (λ b. not (among b.x c.universals) || among b.x but) bs b i).0);
      firm = (λ d u l o i. keeps-bound u (shallow d u l o) i);
      still = (λ u e o i. filter-unbound (λ b. not (among b.x c.universals) || among b.x but) bs u i);
    }

    outer-hold : (os : List Cover) → Each (Place (c ∷ cs)) os → Each (Place cs) os → Each (Holds p made (c ∷ cs) bs) os → Each (Holds p made ds (unbound c.universals but bs)) os
    outer-hold [] k l b = tt
    outer-hold (o ∷ os) k l b =
        (holds-kept p made made (c ∷ cs) ds bs (unbound c.universals but bs) (length cs) ended-change o l.0.high k.0.owner b.0, outer-hold os k.1 l.1 b.1)

    pub outer-holds : Each (Holds p made ds (unbound c.universals but bs)) cs
    outer-holds = outer-hold cs (places (c ∷ cs) h.placed).1 (places cs h.placed.1) h.covers.1

  pub ended-falls : Each (Falls made) (unbound c.universals but bs)
  ended-falls = Each-filter (Falls made) (λ b. not (among b.x c.universals) || among b.x but) bs h.falls

-- ---- no other side waits

pub ended-sound : (p : Program) (made : List Made) (c : Cover) (cs : List Cover) (bs : List Binding) → Sound p made (c ∷ cs) bs → Sound p made cs (unbound c.universals [] bs)
ended-sound p made c cs bs h = record {
  falls = ended-falls p made c cs bs h [];
  placed = h.placed.1;
  covers = outer-holds p made c cs bs h [] cs (λ d z o. o);
}

-- ---- another side is taken up

module _ (p : Program) (made : List Made) (c : Cover) (cs : List Cover) (bs : List Binding) (h : Sound p made (c ∷ cs) bs) (solved : Solved (length made) bs) (r : Remainder) (rs : List Remainder)
    (waits : Each (Waits p made (c ∷ cs) bs c.depth c.clause c.first c.universals) (r ∷ rs)) (nested : Nested c.universals (r ∷ rs)) (a : Cover)
    (is_depth : a.depth ≡ c.depth) (is_clause : a.clause ≡ c.clause) (is_first : a.first ≡ c.first) (is_universals : a.universals ≡ r.universals) (is_waiting : a.waiting ≡ rs) where
  abbrev es : List Binding
  es = unbound c.universals r.replaced bs

  mine : Waits p made (c ∷ cs) bs c.depth c.clause c.first c.universals r
  mine = waits.0

  place : c.depth ≡ suc (length cs)
  place = h.placed.0

  outer : (d z : ℕ) → owns cs d z ≡ true → owns (a ∷ cs) d z ≡ true
  outer d z o = or_right (nat_eq a.depth d && among z a.universals) (owns cs d z) o

  carries : Carries made made (c ∷ cs) (a ∷ cs) bs (unbound c.universals r.replaced bs) (length cs)
  carries = ended-carries p made c cs bs h r.replaced (a ∷ cs) outer

  less : (z : ℕ) → Scoped made (c ∷ cs) bs (c.depth - 1) z → Scoped made (a ∷ cs) (unbound c.universals r.replaced bs) (c.depth - 1) z
  less z m = carries (c.depth - 1) z (omega (arith, place)) m

  -- those of the other side that were not replaced are free
  free-after : (z : ℕ) → among z r.universals ≡ true → among z r.replaced ≡ false → is_bound_in (unbound c.universals r.replaced bs) z ≡ false
  free-after z i e = by (cases_Bool (among z c.universals))
    where
      by : (among z c.universals ≡ true) ⊎ (among z c.universals ≡ false) → is_bound_in (unbound c.universals r.replaced bs) z ≡ false
      by (inl j) =
          filtered-out (λ b. not (among b.x c.universals) || among b.x r.replaced) bs z
          (λ b same. or_from (not (among b.x c.universals)) (among b.x r.replaced) (ap not (ap (λ (y : ℕ). among y c.universals) same ∙ j)) (ap (λ (y : ℕ). among y r.replaced) same ∙ e))
      by (inr j) = filter-unbound (λ b. not (among b.x c.universals) || among b.x r.replaced) bs z (mine.hidden z i j)

  owned-now : (z : ℕ) → among z r.universals ≡ true → owns (a ∷ cs) c.depth z ≡ true
  owned-now z i =
      or_left (nat_eq a.depth c.depth && among z a.universals) (owns cs c.depth z)
      (and_from (nat_eq a.depth c.depth) (among z a.universals) (eq-eqb a.depth c.depth is_depth) (ap (among z) is_universals ∙ i))

  abbrev Closed : ℕ → Type 0
  Closed z = (among z r.universals ≡ true) ⊎ Scoped made (a ∷ cs) es (c.depth - 1) z

  scoped-now : (z : ℕ) → among z r.universals ≡ true → Scoped made (a ∷ cs) (unbound c.universals r.replaced bs) c.depth z
  scoped-now z i = met-closed (Good made (a ∷ cs) es c.depth) Closed (length made) es (solved-filter (length made) (λ b. not (among b.x c.universals) || among b.x r.replaced) bs solved) good closed z (inl i)
    where
      good : (y : ℕ) → (among y r.universals ≡ true) ⊎ Scoped made (a ∷ cs) (unbound c.universals r.replaced bs) (c.depth - 1) y → Good made (a ∷ cs) (unbound c.universals r.replaced bs) c.depth y
      good y (inl j) =
          let o = mine.owned y j in
          let same : (entry made y).depth ≡ c.depth = o.2 in
          universal o.0 o.1 (omega (arith, same)) (subst (λ (n : ℕ). owns (a ∷ cs) n y ≡ true) (sym o.2) (owned-now y j))
      good y (inr m) = good-deeper made (a ∷ cs) es (c.depth - 1) c.depth (omega arith) y (met-good (Good made (a ∷ cs) es (c.depth - 1)) es y m)

      replaced : (b : Binding) → Contains bs b → (not (among b.x c.universals) || among b.x r.replaced) ≡ true → among b.x r.universals ≡ true → among b.x r.replaced ≡ true
      replaced b i t j = by (cases_Bool (among b.x c.universals)) (or_cases (not (among b.x c.universals)) (among b.x r.replaced) t)
        where
          by : (among b.x c.universals ≡ true) ⊎ (among b.x c.universals ≡ false) → (not (among b.x c.universals) ≡ true) ⊎ (among b.x r.replaced ≡ true) → among b.x r.replaced ≡ true
          by q (inr e) = e
          by (inl e) (inl f) = absurd (true≢false (sym f ∙ ap not e))
          by (inr e) (inl f) = absurd (true≢false (sym (bound-there bs b b.x i refl) ∙ mine.hidden b.x j e))

      closed : (b : Binding) → Contains (unbound c.universals r.replaced bs) b → (among b.x r.universals ≡ true) ⊎ Scoped made (a ∷ cs) (unbound c.universals r.replaced bs) (c.depth - 1) b.x
          → (w : ℕ) → occurs w (tm_of b.term) ≡ true → (among w r.universals ≡ true) ⊎ Scoped made (a ∷ cs) (unbound c.universals r.replaced bs) (c.depth - 1) w
      closed b i (inr m) w o = inr (met-next (Good made (a ∷ cs) es (c.depth - 1)) es b.x m b i refl w o)
      closed b i (inl j) w o =
          let q = Contains-from_filter (λ b. not (among b.x c.universals) || among b.x r.replaced) bs b i in
          by (mine.terms b q.0 (replaced b q.0 q.1 j) w o)
        where
          by : (among w r.universals ≡ true) ⊎ Scoped made (c ∷ cs) bs (c.depth - 1) w → (among w r.universals ≡ true) ⊎ Scoped made (a ∷ cs) (unbound c.universals r.replaced bs) (c.depth - 1) w
          by (inl k) = inl k
          by (inr m) = inr (less w m)

  clause-now : (us : List ℕ) (z : ℕ) → InClause made (c ∷ cs) bs c.depth us z → InClause made (a ∷ cs) (unbound c.universals r.replaced bs) c.depth us z
  clause-now us z (inl i) = inl i
  clause-now us z (inr k) = inr (k.0, less z k.1)

  equates-now : (o : Remainder) (e : Option Binding) → Equates made (c ∷ cs) bs c.depth o e → Equates made (a ∷ cs) (unbound c.universals r.replaced bs) c.depth o e
  equates-now o None k = tt
  equates-now o (Some b) k = (k.0, k.1, λ w i. ((k.2 w i).0, by w (k.2 w i).1))
    where
      by : (w : ℕ) → InEquation made (c ∷ cs) bs c.depth o w → InEquation made (a ∷ cs) (unbound c.universals r.replaced bs) c.depth o w
      by w (inl m) = inl (less w m)
      by w (inr i) = inr i

  older-now : (o : Remainder) → ((u : ℕ) → among u o.replaced ≡ true → among u r.replaced ≡ true) → Waits p made (c ∷ cs) bs c.depth c.clause c.first c.universals o
      → Waits p made (a ∷ cs) (unbound c.universals r.replaced bs) c.depth c.clause c.first r.universals o
  older-now o n k = record {
    owned = k.owned;
    in_clause = (λ z l m. clause-now o.universals z (k.in_clause z l m));
    replaced = (λ u i. (
      kept-bound (λ b. not (among b.x c.universals) || among b.x r.replaced) bs u
          (λ b same. or_right (not (among b.x c.universals)) (among b.x r.replaced) (ap (λ (y : ℕ). among y r.replaced) same ∙ n u i)) (k.replaced u i).0,
      (k.replaced u i).1,
    ));
    terms = (λ b j i w e. term w (k.terms b (Contains-from_filter (λ b. not (among b.x c.universals) || among b.x r.replaced) bs b j).0 i w e));
    hidden = (λ w i e. hidden w i e (cases_Bool (among w c.universals)));
    equation = equates-now o o.equation k.equation;
  }
    where
      term : (w : ℕ) → (among w o.universals ≡ true) ⊎ Scoped made (c ∷ cs) bs (c.depth - 1) w → (among w o.universals ≡ true) ⊎ Scoped made (a ∷ cs) (unbound c.universals r.replaced bs) (c.depth - 1) w
      term w (inl i) = inl i
      term w (inr m) = inr (less w m)

      out : (w : ℕ) → among w r.universals ≡ false → among w r.replaced ≡ false
      out w e = by (cases_Bool (among w r.replaced))
        where
          by : (among w r.replaced ≡ true) ⊎ (among w r.replaced ≡ false) → among w r.replaced ≡ false
          by (inl i) = absurd (true≢false (sym (mine.replaced w i).1 ∙ e))
          by (inr i) = i

      hidden : (w : ℕ) → among w o.universals ≡ true → among w r.universals ≡ false → (among w c.universals ≡ true) ⊎ (among w c.universals ≡ false) → is_bound_in (unbound c.universals r.replaced bs) w ≡ false
      hidden w i e (inl j) =
          filtered-out (λ b. not (among b.x c.universals) || among b.x r.replaced) bs w
          (λ b same. or_from (not (among b.x c.universals)) (among b.x r.replaced) (ap not (ap (λ (y : ℕ). among y c.universals) same ∙ j)) (ap (λ (y : ℕ). among y r.replaced) same ∙ out w e))
      hidden w i e (inr j) = filter-unbound (λ b. not (among b.x c.universals) || among b.x r.replaced) bs w (k.hidden w i j)

  nested-now : (os : List Remainder) → Nested r.replaced os → Nested r.universals os
  nested-now [] n = tt
  nested-now (o ∷ os) n = ((λ u i. (mine.replaced u (n.0 u i)).1), n.1)

  -- for covers whose parts are these
  holds-now : Holds p made (a ∷ cs) (unbound c.universals r.replaced bs) a
  holds-now = record {
    universals = (λ u i. owned u (sym (ap (among u) is_universals) ∙ i));
    in_clause = (λ z l m. subst (λ (n : ℕ). InClause made (a ∷ cs) es n a.universals z) (sym is_depth)
        (subst (λ (us : List ℕ). InClause made (a ∷ cs) es c.depth us z) (sym is_universals)
        (clause-now r.universals z (mine.in_clause z (subst (λ (n : ℕ). n ≤ z) is_first l) (subst (λ (n : ℕ). z < n + vars_of_clause p c.clause) is_first (subst (λ (n : ℕ). z < a.first + vars_of_clause p n) is_clause m))))));
    waiting = older;
    nested = subst (λ (os : List Remainder). Nested a.universals os) (sym is_waiting) (subst (λ (us : List ℕ). Nested us rs) (sym is_universals) (nested-now rs nested.1));
  }
    where
      owned : (u : ℕ) → among u r.universals ≡ true → Owned made a.depth u × Scoped made (a ∷ cs) (unbound c.universals r.replaced bs) a.depth u
      owned u i = subst (λ (n : ℕ). Owned made n u × Scoped made (a ∷ cs) es n u) (sym is_depth) (mine.owned u i, scoped-now u i)

      all : Each (Waits p made (a ∷ cs) (unbound c.universals r.replaced bs) c.depth c.clause c.first r.universals) rs
      all =
          Each-map (λ o. ((u : ℕ) → among u o.replaced ≡ true → among u r.replaced ≡ true) × Waits p made (c ∷ cs) bs c.depth c.clause c.first c.universals o)
          (Waits p made (a ∷ cs) es c.depth c.clause c.first r.universals) (λ o q. older-now o q.0 q.1) rs
          (Each-both (λ (o : Remainder). (u : ℕ) → among u o.replaced ≡ true → among u r.replaced ≡ true) (Waits p made (c ∷ cs) bs c.depth c.clause c.first c.universals) rs (nested-all r.replaced rs nested.1) waits.1)

      older : Each (Waits p made (a ∷ cs) (unbound c.universals r.replaced bs) a.depth a.clause a.first a.universals) a.waiting
      older =
          subst (λ (os : List Remainder). Each (Waits p made (a ∷ cs) es a.depth a.clause a.first a.universals) os) (sym is_waiting)
          (subst (λ (us : List ℕ). Each (Waits p made (a ∷ cs) es a.depth a.clause a.first us) rs) (sym is_universals)
          (subst (λ (n : ℕ). Each (Waits p made (a ∷ cs) es n a.clause a.first r.universals) rs) (sym is_depth)
          (subst (λ (n : ℕ). Each (Waits p made (a ∷ cs) es c.depth n a.first r.universals) rs) (sym is_clause)
          (subst (λ (n : ℕ). Each (Waits p made (a ∷ cs) es c.depth c.clause n r.universals) rs) (sym is_first) all))))

  pub sound-now : Sound p made (a ∷ cs) (unbound c.universals r.replaced bs)
  sound-now = record {
    falls = ended-falls p made c cs bs h r.replaced;
    placed = (is_depth ∙ place, h.placed.1);
    covers = (holds-now, outer-holds p made c cs bs h r.replaced (a ∷ cs) outer);
  }

  -- ---- the equation of the other side

  module _ (b : Binding) (e : Equates made (c ∷ cs) bs c.depth r (Some b)) where
    abbrev v : Tm
    v = under (sub_of es) (tm_of b.term)

    own : Owned made c.depth b.x
    own = mine.owned b.x e.0

    abbrev Reads : ℕ → Type 0
    Reads z = (Good made (a ∷ cs) es (c.depth - 1) z ⊎ (among z r.universals ≡ true)) × (z ≢ b.x)

    other : (z : ℕ) → Good made (a ∷ cs) (unbound c.universals r.replaced bs) (c.depth - 1) z → z ≢ b.x
    other z (existential l k d) same = true≢false (sym (ap is_kind_universal (ap (λ (y : ℕ). (entry made y).kind) same ∙ own.1)) ∙ ap is_kind_universal k)
    other z (universal l k d o) same =
        let deep : (entry made z).depth ≡ c.depth = ap (λ (y : ℕ). (entry made y).depth) same ∙ own.2 in omega (arith, deep, d, place)
    other z (matched l k i) same = true≢false (sym (ap is_kind_universal (ap (λ (y : ℕ). (entry made y).kind) same ∙ own.1)) ∙ ap is_kind_universal k)

    reads : EachVar (λ z. (Good made (a ∷ cs) (unbound c.universals r.replaced bs) (c.depth - 1) z ⊎ (among z r.universals ≡ true)) × (z ≢ b.x)) (under (sub_of (unbound c.universals r.replaced bs)) (tm_of b.term))
    reads =
        each-under (λ w. occurs w (tm_of b.term) ≡ true) Reads (sub_of es) (λ w o. one w (e.2 w o).0 (e.2 w o).1) (tm_of b.term) (occurs-each (λ w. occurs w (tm_of b.term) ≡ true) (tm_of b.term) (λ w o. o))
      where
        one : (w : ℕ) → w ≢ b.x → InEquation made (c ∷ cs) bs c.depth r w
            → EachVar (λ z. (Good made (a ∷ cs) (unbound c.universals r.replaced bs) (c.depth - 1) z ⊎ (among z r.universals ≡ true)) × (z ≢ b.x)) (sub_of (unbound c.universals r.replaced bs) w)
        one w n (inl m) =
            each-weaker (Good made (a ∷ cs) es (c.depth - 1)) Reads (λ z g. (inl g, other z g)) (sub_of es w) (met-reads (Good made (a ∷ cs) es (c.depth - 1)) es w (less w m))
        one w n (inr i) = subst (EachVar Reads) (sym (unbound-self es w (free-after w i.0 i.1))) (inr i.0, n)

    -- x does not stand there
    pub no-circle : occurs b.x (under (sub_of (unbound c.universals r.replaced bs)) (tm_of b.term)) ≡ false
    no-circle = each-absent b.x v (each-weaker Reads (λ z. z ≢ b.x) (λ z q. q.1) v reads)

    fits : Fits made (a ∷ cs) (unbound c.universals r.replaced bs) b.x (under (sub_of (unbound c.universals r.replaced bs)) (tm_of b.term))
    fits = record {
      free = free-after b.x e.0 e.1;
      place = own.0;
      owned = (λ k. subst (λ (n : ℕ). owns (a ∷ cs) n b.x ≡ true) (sym own.2) (owned-now b.x e.0));
      terms = (λ n z o. let q = each-occurs Reads v reads z o in
          let f = term-unbound (length made) es (solved-filter (length made) (λ b. not (among b.x c.universals) || among b.x r.replaced) bs solved) (tm_of b.term) z o in
          let k = below z q.0 f in (k.0, f, q.1, k.1));
    }
      where
        deep : (entry made b.x).depth ≡ c.depth
        deep = own.2

        below : (z : ℕ) → Good made (a ∷ cs) (unbound c.universals r.replaced bs) (c.depth - 1) z ⊎ (among z r.universals ≡ true) → is_bound_in (unbound c.universals r.replaced bs) z ≡ false
            → Under made b.x z × ((entry made z).kind ≡ Universal → owns (a ∷ cs) (entry made z).depth z ≡ true)
        below z (inl (existential l k d)) f = (
          record { place = l; kinded = ap is_kind_matched k; depth = omega (arith, d, deep); strict = (λ i j. omega (arith, d, deep, place)) },
          λ i. absurd (true≢false (sym (ap is_kind_universal i) ∙ ap is_kind_universal k)),
        )
        below z (inl (universal l k d o)) f =
            (record { place = l; kinded = ap is_kind_matched k; depth = omega (arith, d, deep); strict = (λ i j. omega (arith, d, deep, place)) }, λ i. o)
        below z (inl (matched l k i)) f = absurd (true≢false (sym i ∙ f))
        below z (inr i) f =
            let o = mine.owned z i in
            let same : (entry made z).depth ≡ c.depth = o.2 in (
              record {
                place = o.0;
                kinded = ap is_kind_matched o.1;
                depth = omega (arith, same, deep);
                strict = (λ j k. absurd (true≢false (sym (ap is_kind_universal o.1) ∙ ap is_kind_universal k)));
              },
              λ j. subst (λ (n : ℕ). owns (a ∷ cs) n z ≡ true) (sym o.2) (owned-now z i),
            )

    pub pushed-now : Scopes p made made (a ∷ cs) (a ∷ cs) (unbound c.universals r.replaced bs) (unbound c.universals r.replaced bs ++ binding b.x (under (sub_of (unbound c.universals r.replaced bs)) (tm_of b.term)) ∷ [])
    pushed-now = pushed-scopes p made (a ∷ cs) es sound-now b.x v fits (ap is_kind_matched own.1)

-- ---- the end of a case

module _ (p : Program) (sat : List Con → Bool) (s : State) (h : Sound p s.made s.covers s.bound) (solved : Solved (length s.made) s.bound) (w : Waiting (Scoped s.made s.covers s.bound) (length s.covers - 1) s.work) where
  module _ (c : Cover) (cs : List Cover) (k : Sound p s.made (c ∷ cs) s.bound) (v : Waiting (Scoped s.made (c ∷ cs) s.bound) (length cs) s.work) where
    ended-owns : Owning p (record (ended_case s c []) { covers = cs })
    ended-owns = record {
      sound = ended-sound p s.made c cs s.bound k;
      front = plain s.work
          (waiting-more (Scoped s.made (c ∷ cs) s.bound) (Scoped s.made cs (unbound c.universals [] s.bound)) (length cs) (ended-carries p s.made c cs s.bound k [] cs (λ d z o. o)) (length cs) (within (length cs)) s.work v);
    }

    taken-owns : (r : Remainder) (rs : List Remainder) → Each (Waits p s.made (c ∷ cs) s.bound c.depth c.clause c.first c.universals) (r ∷ rs) → Nested c.universals (r ∷ rs)
        → EachState (Owning p) (cases_of p sat (taken_up (ended_case s c r.replaced) r (remaining c r rs (ended_case s c r.replaced).cases (ended_case s c r.replaced).lines) cs) (remaining c r rs (ended_case s c r.replaced).cases (ended_case s c r.replaced).lines)).states
    taken-owns r rs q n = by r.equation refl q.0.equation
      where
        t : State
        t = ended_case s c r.replaced

        a : Cover
        a = remaining c r rs (ended_case s c r.replaced).cases (ended_case s c r.replaced).lines

        u : State
        u = taken_up (ended_case s c r.replaced) r (remaining c r rs (ended_case s c r.replaced).cases (ended_case s c r.replaced).lines) cs

        now : Sound p s.made (remaining c r rs (ended_case s c r.replaced).cases (ended_case s c r.replaced).lines ∷ cs) (unbound c.universals r.replaced s.bound)
        now = sound-now p s.made c cs s.bound k solved r rs q n a refl refl refl refl refl

        work : Waiting (Scoped s.made (remaining c r rs (ended_case s c r.replaced).cases (ended_case s c r.replaced).lines ∷ cs) (unbound c.universals r.replaced s.bound)) (length cs) s.work
        work =
            waiting-more (Scoped s.made (c ∷ cs) s.bound) (Scoped s.made (a ∷ cs) (unbound c.universals r.replaced s.bound)) (length cs)
            (ended-carries p s.made c cs s.bound k r.replaced (a ∷ cs) (λ d z o. or_right (nat_eq a.depth d && among z a.universals) (owns cs d z) o)) (length cs) (within (length cs)) s.work v

        begin : (bs : List Binding) → u.bound ≡ bs → Sound p s.made (a ∷ cs) bs → Waiting (Scoped s.made (a ∷ cs) bs) (length cs) s.work → EachState (Owning p) (cases_of p sat u a).states
        begin bs e m x =
            cases-own p sat u (subst (Sound p s.made (a ∷ cs)) (sym e) m) (suc (length cs)) refl
            (subst (λ (bs : List Binding). Waiting (Scoped s.made (a ∷ cs) bs) (suc (length cs) - 1) s.work) (sym e) (subst (λ (j : ℕ). Waiting (Scoped s.made (a ∷ cs) bs) j s.work) less x)) a
            (subst (λ (bs : List Binding). (z : ℕ) → a.first ≤ z → z < a.first + vars_of_clause p a.clause → Scoped s.made (a ∷ cs) bs (suc (length cs)) z) (sym e)
            (subst (λ (j : ℕ). (z : ℕ) → a.first ≤ z → z < a.first + vars_of_clause p a.clause → Scoped s.made (a ∷ cs) bs j z) k.placed.0 (clause-scoped p s.made (a ∷ cs) bs a m.covers.0)))
          where
            less : length cs ≡ suc (length cs) - 1
            less = omega arith

        by : (o : Option Binding) → r.equation ≡ o → Equates s.made (c ∷ cs) s.bound c.depth r r.equation → EachState (Owning p) (cases_of p sat u a).states
        by None e f = begin (unbound c.universals r.replaced s.bound) (ap (λ (o : Option Binding). t.bound ++ replaced_now t o) e ∙ append-nil t.bound) now work
        by (Some d) e f =
            let g : Equates s.made (c ∷ cs) s.bound c.depth r (Some d) = subst (Equates s.made (c ∷ cs) s.bound c.depth r) e f in
            let m = pushed-now p s.made c cs s.bound k solved r rs q n a refl refl refl refl refl d g in
            begin (unbound c.universals r.replaced s.bound ++ binding d.x (under (sub_of (unbound c.universals r.replaced s.bound)) (tm_of d.term)) ∷ []) (ap (λ (o : Option Binding). t.bound ++ replaced_now t o) e) m.sound
            (waiting-more (Scoped s.made (a ∷ cs) (unbound c.universals r.replaced s.bound)) (Scoped s.made (a ∷ cs) (unbound c.universals r.replaced s.bound ++ binding d.x (under (sub_of (unbound c.universals r.replaced s.bound)) (tm_of d.term)) ∷ []))
            (suc (length cs)) m.carries (length cs) (omega arith) s.work work)

    waiting-own : (rs : List Remainder) → c.waiting ≡ rs → EachState (Owning p) (after_case p sat s c cs rs).states
    waiting-own [] e = (ended-owns, tt)
    waiting-own (r ∷ rs) e =
        taken-owns r rs (subst (Each (Waits p s.made (c ∷ cs) s.bound c.depth c.clause c.first c.universals)) e k.covers.0.waiting) (subst (Nested c.universals) e k.covers.0.nested)

    inside-first : (rs : List Remainder) → c.waiting ≡ rs → first_inside s.bound c rs ≡ false
    inside-first [] e = refl
    inside-first (r ∷ rs) e = by r.equation refl (q.0.equation)
      where
        q : Each (Waits p s.made (c ∷ cs) s.bound c.depth c.clause c.first c.universals) (r ∷ rs)
        q = subst (Each (Waits p s.made (c ∷ cs) s.bound c.depth c.clause c.first c.universals)) e k.covers.0.waiting

        n : Nested c.universals (r ∷ rs)
        n = subst (Nested c.universals) e k.covers.0.nested

        by : (o : Option Binding) → r.equation ≡ o → Equates s.made (c ∷ cs) s.bound c.depth r r.equation → stands_inside (unbound c.universals r.replaced s.bound) r.equation ≡ false
        by None f g = ap (stands_inside (unbound c.universals r.replaced s.bound)) f
        by (Some d) f g =
            ap (stands_inside (unbound c.universals r.replaced s.bound)) f
            ∙ no-circle p s.made c cs s.bound k solved r rs q n (remaining c r rs 0 []) refl refl refl refl refl d (subst (Equates s.made (c ∷ cs) s.bound c.depth r) f g)

  pub close-owns : EachState (Owning p) (close_case p sat s s.covers).states
  close-owns = by s.covers refl
    where
      by : (os : List Cover) → s.covers ≡ os → EachState (Owning p) (close_case p sat s os).states
      by [] e = tt
      by (c ∷ cs) e =
          waiting-own c cs (subst (λ (os : List Cover). Sound p s.made os s.bound) e h)
          (subst (λ (j : ℕ). Waiting (Scoped s.made (c ∷ cs) s.bound) j s.work) less (subst (λ (os : List Cover). Waiting (Scoped s.made os s.bound) (length os - 1) s.work) e w)) c.waiting refl
        where
          less : length (c ∷ cs) - 1 ≡ length cs
          less = omega arith

  pub close-absent : innermost_inside s.bound s.covers ≡ false
  close-absent = by s.covers refl
    where
      by : (os : List Cover) → s.covers ≡ os → innermost_inside s.bound os ≡ false
      by [] e = refl
      by (c ∷ cs) e =
          inside-first c cs (subst (λ (os : List Cover). Sound p s.made os s.bound) e h)
          (subst (λ (j : ℕ). Waiting (Scoped s.made (c ∷ cs) s.bound) j s.work) less (subst (λ (os : List Cover). Waiting (Scoped s.made os s.bound) (length os - 1) s.work) e w)) c.waiting refl
        where
          less : length (c ∷ cs) - 1 ≡ length cs
          less = omega arith
