-- A case that is parted.
use Rattle.std.specs.Prelude.{◌≡◌, ◌≢◌, ◌⊎◌, ℕ, suc, ◌+◌, ◌-◌, ◌<◌, ◌≤◌, nat_eq, Bool, true, false, ◌&&◌, if◌then◌else◌, Option, Some, None, List, [], ◌∷◌, ◌++◌, length, filter, replicate, ⊤}
use Rattle.std.specs.List.{Contains}
use Rattle.std.proofs.Common.{refl, arith, ap, sym, subst, ◌∙◌, inl, inr}
use Rattle.std.proofs.lemmas.Bool.{cases_Bool, and_parts, and_from, or_left, or_right, or_parts, or_cases, eqb-true, eqb-false, true≢false}
use Rattle.std.proofs.lemmas.List.{append-nil}
use Rattle.scasp_list.specs.Each.{Each}
use Rattle.scasp_list.proofs.EachLemmas.{Each-map}
use Rattle.scasp_search_rules.specs.declared.states.covers.Cover.{Cover}
use Rattle.scasp_search_rules.specs.declared.states.covers.Remainder.{Remainder}
use Rattle.scasp_search_rules.specs.declared.states.outcomes.Parting.{Parting}
use Rattle.scasp_search_rules.specs.declared.states.state.Made.{Made}
use Rattle.scasp_search_rules.specs.declared.states.state.State.{State}
use Rattle.scasp_search_rules.specs.Successors.Calls.{vars_of_clause}
use Rattle.scasp_search_rules.specs.Successors.Reading.{among, con_vars}
use Rattle.scasp_search_rules.specs.Successors.Splits.{is_bound_in, cover_parted, at_depth, replacement, bound_by, parted, split_at}
use Rattle.scasp_search_rules.specs.Successors.Variables.{binding, is_kind_matched, lowered, meaning, next_variable}
use Rattle.scasp_syntax.specs.Tm.{Tm}
use Rattle.scasp_syntax.specs.View.{tm_of}
use Rattle.scasp_syntax.specs.declared.con.Con.{Con}
use Rattle.scasp_syntax.specs.declared.program.Program.{Program}
use Rattle.scasp_unify.specs.Parts.{occurs}
use Rattle.scasp_unify.specs.declared.bindings.Binding.{Binding}
use Rattle.scasp_unify.proofs.Members.{Each-member}
use Rattle.scasp_law_no_circle.proofs.Growing.{within, Fits, more-scopes, lowered-scopes, pushed-scopes}
use Rattle.scasp_law_no_circle.proofs.Meeting.{met-good, met-free, met-next}
use Rattle.scasp_law_no_circle.proofs.Places.{entry, lower-same, owns, Placed, Place, places, among-append, universal_of}
use Rattle.scasp_law_no_circle.proofs.Scope.{Good, existential, universal, matched, Scoped, Under, Falls, sinks, Owned, InClause, InEquation, Equates, Waits, Nested, Holds, Sound, Better, Carries, fewer-carries, Change, in-clause-kept, waits-kept, holds-kept, Scopes, scopes-then}

-- ---- lists of numbers

pub among-left : (z : ℕ) (xs ys : List ℕ) → among z xs ≡ true → among z (xs ++ ys) ≡ true
among-left z xs ys e = among-append z xs ys ∙ or_left (among z xs) (among z ys) e

pub among-right : (z : ℕ) (xs ys : List ℕ) → among z ys ≡ true → among z (xs ++ ys) ≡ true
among-right z xs ys e = among-append z xs ys ∙ or_right (among z xs) (among z ys) e

pub among-either : (z : ℕ) (xs ys : List ℕ) → among z (xs ++ ys) ≡ true → (among z xs ≡ true) ⊎ (among z ys ≡ true)
among-either z xs ys e = or_cases (among z xs) (among z ys) (sym (among-append z xs ys) ∙ e)

pub among-filter : (test : ℕ → Bool) (z : ℕ) (xs : List ℕ) → among z (filter test xs) ≡ true → (among z xs ≡ true) × (test z ≡ true)
among-filter test z [] e = absurd (true≢false (sym e))
among-filter test z (x ∷ xs) e = by (test x) refl (λ f. among-filter test z xs f) e
  where
    past : (nat_eq z x ≡ true) ⊎ (among z (filter test xs) ≡ true) → test x ≡ true → (among z (filter test xs) ≡ true → (among z xs ≡ true) × (test z ≡ true)) → (among z (x ∷ xs) ≡ true) × (test z ≡ true)
    past (inl same) t rest = (or_left (nat_eq z x) (among z xs) same, ap test (eqb-true z x same) ∙ t)
    past (inr f) t rest = let k = rest f in (or_right (nat_eq z x) (among z xs) k.0, k.1)

    by : (b : Bool) → test x ≡ b → (among z (filter test xs) ≡ true → (among z xs ≡ true) × (test z ≡ true)) → among z (if b then x ∷ filter test xs else filter test xs) ≡ true
        → (among z (x ∷ xs) ≡ true) × (test z ≡ true)
    by true t rest f = past (or_cases (nat_eq z x) (among z (filter test xs)) f) t rest
    by false t rest f = let k = rest f in (or_right (nat_eq z x) (among z xs) k.0, k.1)

pub filter-among : (test : ℕ → Bool) (z : ℕ) (xs : List ℕ) → among z xs ≡ true → test z ≡ true → among z (filter test xs) ≡ true
filter-among test z [] e t = e
filter-among test z (x ∷ xs) e t = by (test x) refl (or_cases (nat_eq z x) (among z xs) e) (λ f. filter-among test z xs f t)
  where
    by : (b : Bool) → test x ≡ b → (nat_eq z x ≡ true) ⊎ (among z xs ≡ true) → (among z xs ≡ true → among z (filter test xs) ≡ true)
        → among z (if b then x ∷ filter test xs else filter test xs) ≡ true
    by true f (inl same) rest = or_left (nat_eq z x) (among z (filter test xs)) same
    by true f (inr i) rest = or_right (nat_eq z x) (among z (filter test xs)) (rest i)
    by false f (inl same) rest = absurd (true≢false (sym t ∙ ap test (eqb-true z x same) ∙ f))
    by false f (inr i) rest = rest i

pub not-among : (z : ℕ) (test : ℕ → Bool) (xs : List ℕ) → test z ≡ false → among z (filter test xs) ≡ false
not-among z test xs e = by (cases_Bool (among z (filter test xs)))
  where
    by : (among z (filter test xs) ≡ true) ⊎ (among z (filter test xs) ≡ false) → among z (filter test xs) ≡ false
    by (inl i) = absurd (true≢false (sym (among-filter test z xs i).1 ∙ e))
    by (inr i) = i

-- ---- what a parting needs

abbrev pub OtherSide : List Made → List Cover → List Binding → ℕ → List ℕ → Option Binding → Type 0
OtherSide made cs bs d there None = ⊤
OtherSide made cs bs d there (Some b) =
    (owns cs d b.x ≡ true) × (is_bound_in bs b.x ≡ false)
    × ((w : ℕ) → occurs w (tm_of b.term) ≡ true → (w ≢ b.x) × (Scoped made cs bs (d - 1) w ⊎ (among w there ≡ true) ⊎ ((owns cs d w ≡ true) × (is_bound_in bs w ≡ false))))

pub record Parts (made : List Made) (cs : List Cover) (bs : List Binding) (d : ℕ) (q : Parting) : Type 0 where
  pub here : (w : ℕ) → among w q.parts_here ≡ true → Owned made d w × (is_bound_in bs w ≡ false) × ((z : ℕ) × (owns cs d z ≡ true))
  pub there : (w : ℕ) → among w q.parts_there ≡ true → Owned made d w × (is_bound_in bs w ≡ false)
  pub equation : OtherSide made cs bs d q.parts_there (replacement q.there)

module _ (q : Parting) (bs : List Binding) (d : ℕ) where
  pub parts-length : (cs : List Cover) → length (at_depth d (cover_parted q bs) cs) ≡ length cs
  parts-length [] = refl
  parts-length (c ∷ cs) = let e = parts-length cs in omega (arith, e)

  pub parts-placed : (cs : List Cover) → Placed cs → Placed (at_depth d (cover_parted q bs) cs)
  parts-placed [] h = tt
  parts-placed (c ∷ cs) h = (by (nat_eq c.depth d), parts-placed cs h.1)
    where
      same : length (at_depth d (cover_parted q bs) cs) ≡ length cs
      same = parts-length cs

      depth : c.depth ≡ suc (length cs)
      depth = h.0

      by : (b : Bool) → (if b then cover_parted q bs c else c).depth ≡ suc (length (at_depth d (cover_parted q bs) cs))
      by true = omega (arith, depth, same)
      by false = omega (arith, depth, same)

  pub still-owns : (cs : List Cover) (k z : ℕ) → owns cs k z ≡ true → owns (at_depth d (cover_parted q bs) cs) k z ≡ true
  still-owns [] k z o = o
  still-owns (c ∷ cs) k z o = by (nat_eq c.depth d) (or_cases (nat_eq c.depth k && among z c.universals) (owns cs k z) o) (λ f. still-owns cs k z f)
    where
      by : (b : Bool) → ((nat_eq c.depth k && among z c.universals) ≡ true) ⊎ (owns cs k z ≡ true) → (owns cs k z ≡ true → owns (at_depth d (cover_parted q bs) cs) k z ≡ true)
          → owns ((if b then cover_parted q bs c else c) ∷ at_depth d (cover_parted q bs) cs) k z ≡ true
      by true (inl e) rest =
          let o = and_parts (nat_eq c.depth k) (among z c.universals) e in
          or_left (nat_eq c.depth k && among z (c.universals ++ q.parts_here)) (owns (at_depth d (cover_parted q bs) cs) k z)
          (and_from (nat_eq c.depth k) (among z (c.universals ++ q.parts_here)) o.0 (among-left z c.universals q.parts_here o.1))
      by false (inl e) rest = or_left (nat_eq c.depth k && among z c.universals) (owns (at_depth d (cover_parted q bs) cs) k z) e
      by true (inr f) rest = or_right (nat_eq c.depth k && among z (c.universals ++ q.parts_here)) (owns (at_depth d (cover_parted q bs) cs) k z) (rest f)
      by false (inr f) rest = or_right (nat_eq c.depth k && among z c.universals) (owns (at_depth d (cover_parted q bs) cs) k z) (rest f)

  pub owns-here : (cs : List Cover) (z w : ℕ) → owns cs d z ≡ true → among w q.parts_here ≡ true → owns (at_depth d (cover_parted q bs) cs) d w ≡ true
  owns-here [] z w o i = absurd (true≢false (sym o))
  owns-here (c ∷ cs) z w o i = by (nat_eq c.depth d) refl (or_cases (nat_eq c.depth d && among z c.universals) (owns cs d z) o) (λ f. owns-here cs z w f i)
    where
      by : (b : Bool) → nat_eq c.depth d ≡ b → ((nat_eq c.depth d && among z c.universals) ≡ true) ⊎ (owns cs d z ≡ true) → (owns cs d z ≡ true → owns (at_depth d (cover_parted q bs) cs) d w ≡ true)
          → owns ((if b then cover_parted q bs c else c) ∷ at_depth d (cover_parted q bs) cs) d w ≡ true
      by true e k rest =
          or_left (nat_eq c.depth d && among w (c.universals ++ q.parts_here)) (owns (at_depth d (cover_parted q bs) cs) d w)
          (and_from (nat_eq c.depth d) (among w (c.universals ++ q.parts_here)) e (among-right w c.universals q.parts_here i))
      by false e (inl f) rest = absurd (true≢false (sym (and_parts (nat_eq c.depth d) (among z c.universals) f).0 ∙ e))
      by false e (inr f) rest = or_right (nat_eq c.depth d && among w c.universals) (owns (at_depth d (cover_parted q bs) cs) d w) (rest f)

module _ (p : Program) (made : List Made) (cs : List Cover) (bs : List Binding) (h : Sound p made cs bs) (d : ℕ) (q : Parting) where
  parted-better : Better made made cs (at_depth d (cover_parted q bs) cs) bs bs (length cs)
  parted-better = record {
    long = within (length made);
    entries = (λ z l g. lower-same (entry made z) (entry made z) refl);
    owners = (λ k z l o. still-owns q bs d cs k z o);
    stays = (λ z e i. i);
  }

  parted-carries : Carries made made cs (at_depth d (cover_parted q bs) cs) bs bs (length cs)
  parted-carries = fewer-carries made made cs (at_depth d (cover_parted q bs) cs) bs bs (length cs) parted-better (λ c i. i)

  parted-change : Change made made cs (at_depth d (cover_parted q bs) cs) bs bs (length cs)
  parted-change = record {
    better = parted-better;
    carries = parted-carries;
    from = (λ b i. inl i);
    firm = (λ k u l o i. i);
    still = (λ u e o i. i);
  }

  -- the cover whose case is parted
  module _ (a : Cover) (here : a.depth ≡ d) (place : Place cs a) (k : Holds p made cs bs a) (ok : Parts made cs bs a.depth q) where
    abbrev side : Remainder
    side = record {
      region = a.region ++ q.there ∷ [];
      universals = a.universals ++ q.parts_there;
      replaced = filter (is_bound_in bs) a.universals;
      equation = replacement q.there;
    }

    high : a.depth ≤ length cs
    high = place.high

    -- what was replaced reads to what stays owned
    replaced-term : (b : Binding) → Contains bs b → among b.x a.universals ≡ true → (w : ℕ) → occurs w (tm_of b.term) ≡ true
        → (among w (a.universals ++ q.parts_there) ≡ true) ⊎ Scoped made (at_depth d (cover_parted q bs) cs) bs (a.depth - 1) w
    replaced-term b i j w o = by (met-good (Good made cs bs a.depth) bs w seen)
      where
        own : Owned made a.depth b.x × Scoped made cs bs a.depth b.x
        own = k.universals b.x j

        seen : Scoped made cs bs a.depth w
        seen = met-next (Good made cs bs a.depth) bs b.x own.1 b i refl w o

        under : Under made b.x w
        under = (Each-member (Falls made) bs b h.falls i).1 (ap is_kind_matched own.0.1) w o

        less : (entry made w).depth ≤ a.depth - 1 → Scoped made (at_depth d (cover_parted q bs) cs) bs (a.depth - 1) w
        less l = parted-carries (a.depth - 1) w (omega (arith, high)) (sinks made cs bs a.depth (a.depth - 1) h.falls w seen under.kinded l)

        place_of : owns cs (entry made w).depth w ≡ true → (entry made w).depth ≤ a.depth → (nat_eq (entry made w).depth a.depth ≡ true) ⊎ (nat_eq (entry made w).depth a.depth ≡ false)
            → (among w (a.universals ++ q.parts_there) ≡ true) ⊎ Scoped made (at_depth d (cover_parted q bs) cs) bs (a.depth - 1) w
        place_of e l (inl same) =
            inl (among-left w a.universals q.parts_there (place.owner w (subst (λ (n : ℕ). owns cs n w ≡ true) (eqb-true (entry made w).depth a.depth same) e)))
        place_of e l (inr other) = let n = eqb-false (entry made w).depth a.depth other in inr (less (omega (arith, l, n)))

        by : Good made cs bs a.depth w → (among w (a.universals ++ q.parts_there) ≡ true) ⊎ Scoped made (at_depth d (cover_parted q bs) cs) bs (a.depth - 1) w
        by (existential l e m) = let s = under.strict own.0.1 e in let same : (entry made b.x).depth ≡ a.depth = own.0.2 in inr (less (omega (arith, s, same)))
        by (universal l e m f) = place_of f m (cases_Bool (nat_eq (entry made w).depth a.depth))
        by (matched l e f) = absurd (true≢false (sym (ap is_kind_matched e) ∙ under.kinded))

    equates : (o : Option Binding) → OtherSide made cs bs a.depth q.parts_there o → Equates made (at_depth d (cover_parted q bs) cs) bs a.depth side o
    equates None e = tt
    equates (Some b) e = (
      among-left b.x a.universals q.parts_there (place.owner b.x e.0),
      not-among b.x (is_bound_in bs) a.universals e.1,
      λ w o. ((e.2 w o).0, by w (e.2 w o).1),
    )
      where
        by : (w : ℕ) → Scoped made cs bs (a.depth - 1) w ⊎ (among w q.parts_there ≡ true) ⊎ ((owns cs a.depth w ≡ true) × (is_bound_in bs w ≡ false))
            → InEquation made (at_depth d (cover_parted q bs) cs) bs a.depth side w
        by w (inl m) = inl (parted-carries (a.depth - 1) w (omega (arith, high)) m)
        by w (inr (inl i)) = inr (among-right w a.universals q.parts_there i, not-among w (is_bound_in bs) a.universals (ok.there w i).1)
        by w (inr (inr i)) = inr (among-left w a.universals q.parts_there (place.owner w i.0), not-among w (is_bound_in bs) a.universals i.1)

    widened : (ms : List ℕ) (z : ℕ) → InClause made (at_depth d (cover_parted q bs) cs) bs a.depth a.universals z → InClause made (at_depth d (cover_parted q bs) cs) bs a.depth (a.universals ++ ms) z
    widened ms z (inl i) = inl (among-left z a.universals ms i)
    widened ms z (inr i) = inr i

    clause-kept : (z : ℕ) → a.first ≤ z → z < a.first + vars_of_clause p a.clause → InClause made (at_depth d (cover_parted q bs) cs) bs a.depth a.universals z
    clause-kept z l m = in-clause-kept p made made cs (at_depth d (cover_parted q bs) cs) bs bs (length cs) parted-change a.depth a.universals high z (k.in_clause z l m)

    side-waits : Waits p made (at_depth d (cover_parted q bs) cs) bs a.depth a.clause a.first (a.universals ++ q.parts_here) side
    side-waits = record {
      owned = (λ u i. owned u (among-either u a.universals q.parts_there i));
      in_clause = (λ z l m. widened q.parts_there z (clause-kept z l m));
      replaced = (λ u i. let e = among-filter (is_bound_in bs) u a.universals i in (e.1, among-left u a.universals q.parts_there e.0));
      terms = (λ b j i w o. replaced-term b j (among-filter (is_bound_in bs) b.x a.universals i).0 w o);
      hidden = (λ w i e. hidden w (among-either w a.universals q.parts_there i) e);
      equation = equates (replacement q.there) ok.equation;
    }
      where
        owned : (u : ℕ) → (among u a.universals ≡ true) ⊎ (among u q.parts_there ≡ true) → Owned made a.depth u
        owned u (inl i) = (k.universals u i).0
        owned u (inr i) = (ok.there u i).0

        hidden : (w : ℕ) → (among w a.universals ≡ true) ⊎ (among w q.parts_there ≡ true) → among w (a.universals ++ q.parts_here) ≡ false → is_bound_in bs w ≡ false
        hidden w (inl i) e = absurd (true≢false (sym (among-left w a.universals q.parts_here i) ∙ e))
        hidden w (inr i) e = (ok.there w i).1

    older : (r : Remainder) → Waits p made cs bs a.depth a.clause a.first a.universals r
        → Waits p made (at_depth d (cover_parted q bs) cs) bs a.depth a.clause a.first (a.universals ++ q.parts_here) r
    older r w =
        let v = waits-kept p made made cs (at_depth d (cover_parted q bs) cs) bs bs (length cs) parted-change a.depth a.clause a.first a.universals high place.owner r w in
        record {
          owned = v.owned;
          in_clause = v.in_clause;
          replaced = v.replaced;
          terms = v.terms;
          hidden = (λ y i e. v.hidden y i (or_parts (among y a.universals) (among y q.parts_here) (sym (among-append y a.universals q.parts_here) ∙ e)).0);
          equation = v.equation;
        }

    nested : (rs : List Remainder) → Nested a.universals rs → Each (Waits p made cs bs a.depth a.clause a.first a.universals) rs → Nested (filter (is_bound_in bs) a.universals) rs
    nested [] n w = tt
    nested (r ∷ rs) n w = ((λ u i. filter-among (is_bound_in bs) u a.universals (n.0 u i) (w.0.replaced u i).0), n.1)

    parted-holds : Holds p made (at_depth d (cover_parted q bs) cs) bs (cover_parted q bs a)
    parted-holds = record {
      universals = (λ u i. own u (among-either u a.universals q.parts_here i));
      in_clause = (λ z l m. widened q.parts_here z (clause-kept z l m));
      waiting = (side-waits, Each-map (Waits p made cs bs a.depth a.clause a.first a.universals) (Waits p made (at_depth d (cover_parted q bs) cs) bs a.depth a.clause a.first (a.universals ++ q.parts_here)) older a.waiting k.waiting);
      nested = ((λ u i. among-left u a.universals q.parts_here (among-filter (is_bound_in bs) u a.universals i).0), nested a.waiting k.nested k.waiting);
    }
      where
        own : (u : ℕ) → (among u a.universals ≡ true) ⊎ (among u q.parts_here ≡ true) → Owned made a.depth u × Scoped made (at_depth d (cover_parted q bs) cs) bs a.depth u
        own u (inl i) = ((k.universals u i).0, parted-carries a.depth u high (k.universals u i).1)
        own u (inr i) =
            let e = ok.here u i in
            let depth : (entry made u).depth ≡ a.depth = e.0.2 in (
              e.0,
              met-free (Good made (at_depth d (cover_parted q bs) cs) bs a.depth) bs u
                  (universal e.0.0 e.0.1 (omega (arith, depth))
                  (subst (λ (n : ℕ). owns (at_depth d (cover_parted q bs) cs) n u ≡ true) (sym (e.0.2 ∙ here))
                  (owns-here q bs d cs e.2.0 u (subst (λ (n : ℕ). owns cs n e.2.0 ≡ true) here e.2.1) i))) e.1,
            )

  module _ (ok : Parts made cs bs d q) where
    all-hold : (os : List Cover) → Each (Place cs) os → Each (Holds p made cs bs) os → Each (Holds p made (at_depth d (cover_parted q bs) cs) bs) (at_depth d (cover_parted q bs) os)
    all-hold [] l b = tt
    all-hold (a ∷ os) l b = (by (nat_eq a.depth d) refl, all-hold os l.1 b.1)
      where
        by : (e : Bool) → nat_eq a.depth d ≡ e → Holds p made (at_depth d (cover_parted q bs) cs) bs (if e then cover_parted q bs a else a)
        by true e =
            let same : a.depth ≡ d = eqb-true a.depth d e in
            parted-holds a same l.0 b.0 (subst (λ (n : ℕ). Parts made cs bs n q) (sym same) ok)
        by false e = holds-kept p made made cs (at_depth d (cover_parted q bs) cs) bs bs (length cs) parted-change a l.0.high l.0.owner b.0

    pub parted-scopes : Scopes p made made cs (at_depth d (cover_parted q bs) cs) bs bs
    parted-scopes = record {
      sound = record { falls = h.falls; placed = parts-placed q bs d cs h.placed; covers = all-hold cs (places cs h.placed) h.covers };
      carries = parted-carries;
      many = parts-length q bs d cs;
      long = within (length made);
      kinds = (λ z l e. (l, e));
      loose = (λ z l e f. f);
    }

-- ---- a split

module _ (p : Program) (s : State) (h : Sound p s.made s.covers s.bound) (d : ℕ) (c : Con) (free : (z : ℕ) → among z (con_vars (meaning s) c) ≡ true → is_bound_in s.bound z ≡ false) where
  abbrev pub Grown : List Made
  Grown = s.made ++ replicate (length (parted (next_variable s) c).parts_there) (universal_of d)

  abbrev pub Lowered : List Made
  Lowered = lowered (d - 1) (con_vars (meaning s) c) (s.made ++ replicate (length (parted (next_variable s) c).parts_there) (universal_of d))

  pub room : Scopes p s.made Lowered s.covers s.covers s.bound s.bound
  room =
      let one = more-scopes p s.made s.covers s.bound h (replicate (length (parted (next_variable s) c).parts_there) (universal_of d)) in
      scopes-then p s.made Grown Lowered s.covers s.covers s.covers s.bound s.bound s.bound one (lowered-scopes p Grown s.covers s.bound one.sound (d - 1) (con_vars (meaning s) c) free)

  module _ (ok : Parts Lowered s.covers s.bound d (parted (next_variable s) c)) where
    pub sides : Scopes p s.made Lowered s.covers (at_depth d (cover_parted (parted (next_variable s) c) s.bound) s.covers) s.bound s.bound
    sides =
        scopes-then p s.made Lowered Lowered s.covers s.covers (at_depth d (cover_parted (parted (next_variable s) c) s.bound) s.covers) s.bound s.bound s.bound room
        (parted-scopes p Lowered s.covers s.bound room.sound d (parted (next_variable s) c) ok)

    -- nothing is bound
    pub quiet-split : bound_by (replacement c) ≡ [] → Scopes p s.made (split_at s d c).made s.covers (split_at s d c).covers s.bound (split_at s d c).bound
    quiet-split e =
        subst (λ (bs : List Binding). Scopes p s.made Lowered s.covers (at_depth d (cover_parted (parted (next_variable s) c) s.bound) s.covers) s.bound bs)
        (sym (ap (λ (bs : List Binding). s.bound ++ bs) e ∙ append-nil s.bound)) sides

    pub pushed-split : (x : ℕ) (t : Tm) → bound_by (replacement c) ≡ binding x t ∷ [] → is_kind_matched (entry Lowered x).kind ≡ false
        → Fits Lowered (at_depth d (cover_parted (parted (next_variable s) c) s.bound) s.covers) s.bound x t
        → Scopes p s.made (split_at s d c).made s.covers (split_at s d c).covers s.bound (split_at s d c).bound
    pushed-split x t e n f =
        subst (λ (bs : List Binding). Scopes p s.made Lowered s.covers (at_depth d (cover_parted (parted (next_variable s) c) s.bound) s.covers) s.bound (s.bound ++ bs)) (sym e)
        (scopes-then p s.made Lowered Lowered s.covers (at_depth d (cover_parted (parted (next_variable s) c) s.bound) s.covers) (at_depth d (cover_parted (parted (next_variable s) c) s.bound) s.covers) s.bound s.bound (s.bound ++ binding x t ∷ []) sides
        (pushed-scopes p Lowered (at_depth d (cover_parted (parted (next_variable s) c) s.bound) s.covers) s.bound sides.sound x t f n))
