-- Variables that are in scope at a depth, and states in which covers own what they speak of.
use Rattle.std.specs.Prelude.{◌≡◌, ◌≢◌, ◌⊎◌, ℕ, ◌+◌, ◌-◌, ◌<◌, ◌≤◌, true, false, Option, Some, None, List, [], ◌∷◌, length, ⊤}
use Rattle.std.specs.List.{Contains}
use Rattle.std.proofs.Common.{refl, arith, ap, sym, subst, ◌∙◌, inl, inr}
use Rattle.std.proofs.lemmas.Bool.{cases_Bool, true≢false}
use Rattle.scasp_list.specs.Each.{Each}
use Rattle.scasp_list.proofs.EachLemmas.{Each-map}
use Rattle.scasp_search_rules.specs.declared.states.covers.Cover.{Cover}
use Rattle.scasp_search_rules.specs.declared.states.covers.Remainder.{Remainder}
use Rattle.scasp_search_rules.specs.declared.states.state.Kind.TheVariants.{Existential, Universal, Matched}
use Rattle.scasp_search_rules.specs.declared.states.state.Made.{Made}
use Rattle.scasp_search_rules.specs.Successors.Calls.{vars_of_clause}
use Rattle.scasp_search_rules.specs.Successors.Reading.{among}
use Rattle.scasp_search_rules.specs.Successors.Splits.{is_bound_in}
use Rattle.scasp_search_rules.specs.Successors.Variables.{is_kind_matched, is_kind_existential}
use Rattle.scasp_syntax.specs.View.{tm_of}
use Rattle.scasp_syntax.specs.declared.program.Program.{Program}
use Rattle.scasp_unify.specs.Parts.{occurs}
use Rattle.scasp_unify.specs.declared.bindings.Binding.{Binding}
use Rattle.scasp_unify.proofs.Members.{Each-member}
use Rattle.scasp_law_no_circle.proofs.Meeting.{Met, met, met-good, met-fewer}
use Rattle.scasp_law_no_circle.proofs.Places.{entry, Lower, owns, Placed, Place}

-- ---- one variable

-- The variable is of depth k at most: existential, or universal and owned by an open cover of its depth. Or it is of a head, and bound.
pub data Good (made : List Made) (cs : List Cover) (bs : List Binding) (k z : ℕ) : Type 0 where
  existential : z < length made → (entry made z).kind ≡ Existential → (entry made z).depth ≤ k → Good made cs bs k z
  universal : z < length made → (entry made z).kind ≡ Universal → (entry made z).depth ≤ k → owns cs (entry made z).depth z ≡ true → Good made cs bs k z
  matched : z < length made → (entry made z).kind ≡ Matched → is_bound_in bs z ≡ true → Good made cs bs k z

-- and so is each variable that is met as it is read
abbrev pub Scoped : List Made → List Cover → List Binding → ℕ → ℕ → Type 0
Scoped made cs bs k z = Met (Good made cs bs k) bs z

pub good-made : (made : List Made) (cs : List Cover) (bs : List Binding) (k z : ℕ) → Good made cs bs k z → z < length made
good-made made cs bs k z (existential l e d) = l
good-made made cs bs k z (universal l e d o) = l
good-made made cs bs k z (matched l e b) = l

pub good-deeper : (made : List Made) (cs : List Cover) (bs : List Binding) (k j : ℕ) → k ≤ j → (z : ℕ) → Good made cs bs k z → Good made cs bs j z
good-deeper made cs bs k j m z (existential l e d) = existential l e (omega (arith, d, m))
good-deeper made cs bs k j m z (universal l e d o) = universal l e (omega (arith, d, m)) o
good-deeper made cs bs k j m z (matched l e b) = matched l e b

pub deeper : (made : List Made) (cs : List Cover) (bs : List Binding) (k j : ℕ) → k ≤ j → (z : ℕ) → Scoped made cs bs k z → Scoped made cs bs j z
deeper made cs bs k j l z m = met-fewer (Good made cs bs k) (Good made cs bs j) bs bs (good-deeper made cs bs k j l) (λ b i. i) z m

not-loose : (made : List Made) (z : ℕ) → (entry made z).kind ≡ Matched → is_kind_matched (entry made z).kind ≡ true
not-loose made z e = ap is_kind_matched e

pub good-at : (made : List Made) (cs : List Cover) (bs : List Binding) (k j z : ℕ) → is_kind_matched (entry made z).kind ≡ false → (entry made z).depth ≤ j → Good made cs bs k z → Good made cs bs j z
good-at made cs bs k j z n m (existential l e d) = existential l e m
good-at made cs bs k j z n m (universal l e d o) = universal l e m o
good-at made cs bs k j z n m (matched l e b) = absurd (true≢false (sym (not-loose made z e) ∙ n))

-- ---- bindings

-- what stands in the term of x: not deeper, and of less depth if it is existential and x is universal
pub record Under (made : List Made) (x w : ℕ) : Type 0 where
  pub place : w < length made
  pub kinded : is_kind_matched (entry made w).kind ≡ false
  pub depth : (entry made w).depth ≤ (entry made x).depth
  pub strict : (entry made x).kind ≡ Universal → (entry made w).kind ≡ Existential → (entry made w).depth < (entry made x).depth

abbrev pub Falls : List Made → Binding → Type 0
Falls made b = (b.x < length made) × (is_kind_matched (entry made b.x).kind ≡ false → (w : ℕ) → occurs w (tm_of b.term) ≡ true → Under made b.x w)

-- what is met is not deeper
pub sinks : (made : List Made) (cs : List Cover) (bs : List Binding) (k j : ℕ) → Each (Falls made) bs → (z : ℕ) → Scoped made cs bs k z → is_kind_matched (entry made z).kind ≡ false
    → (entry made z).depth ≤ j → Scoped made cs bs j z
sinks made cs bs k j h _ (met z g f) n l =
    met z (good-at made cs bs k j z n l g)
    (λ b i e w o. let u = under b i e w o in sinks made cs bs k j h w (f b i e w o) u.kinded (let d = u.depth in let same = depth b e in omega (arith, d, same, l)))
  where
    depth : (b : Binding) → b.x ≡ z → (entry made b.x).depth ≡ (entry made z).depth
    depth b e = ap (λ (y : ℕ). (entry made y).depth) e

    under : (b : Binding) → Contains bs b → b.x ≡ z → (w : ℕ) → occurs w (tm_of b.term) ≡ true → Under made b.x w
    under b i e w o = (Each-member (Falls made) bs b h i).1 (ap (λ (y : ℕ). is_kind_matched (entry made y).kind) e ∙ n) w o

-- ---- covers and what waits

-- a universal variable of this depth
abbrev pub Owned : List Made → ℕ → ℕ → Type 0
Owned made d u = (u < length made) × ((entry made u).kind ≡ Universal) × ((entry made u).depth ≡ d)

-- a variable of the clause that is covered: one of these universal ones, or of the head
abbrev pub InClause : List Made → List Cover → List Binding → ℕ → List ℕ → ℕ → Type 0
InClause made cs bs d us z = (among z us ≡ true) ⊎ (((entry made z).kind ≡ Matched) × Scoped made cs bs (d - 1) z)

-- what a universal variable x is to be: less deep, or these stay unbound where the case ends
abbrev pub InEquation : List Made → List Cover → List Binding → ℕ → Remainder → ℕ → Type 0
InEquation made cs bs d r w = Scoped made cs bs (d - 1) w ⊎ ((among w r.universals ≡ true) × (among w r.replaced ≡ false))

abbrev pub Equates : List Made → List Cover → List Binding → ℕ → Remainder → Option Binding → Type 0
Equates made cs bs d r None = ⊤
Equates made cs bs d r (Some b) =
    (among b.x r.universals ≡ true) × (among b.x r.replaced ≡ false) × ((w : ℕ) → occurs w (tm_of b.term) ≡ true → (w ≢ b.x) × InEquation made cs bs d r w)

-- what was replaced at a split was replaced at those after it
abbrev pub Nested : List ℕ → List Remainder → Type 0
Nested us [] = ⊤
Nested us (r ∷ rs) = ((u : ℕ) → among u r.replaced ≡ true → among u us ≡ true) × Nested r.replaced rs

module _ (p : Program) where
  -- a remainder that waits in a cover of depth d, of this clause, that has the universal variables us
  pub record Waits (made : List Made) (cs : List Cover) (bs : List Binding) (d clause first : ℕ) (us : List ℕ) (r : Remainder) : Type 0 where
    pub owned : (u : ℕ) → among u r.universals ≡ true → Owned made d u
    pub in_clause : (z : ℕ) → first ≤ z → z < first + vars_of_clause p clause → InClause made cs bs d r.universals z
    pub replaced : (u : ℕ) → among u r.replaced ≡ true → (is_bound_in bs u ≡ true) × (among u r.universals ≡ true)
    pub terms : (b : Binding) → Contains bs b → among b.x r.replaced ≡ true → (w : ℕ) → occurs w (tm_of b.term) ≡ true → (among w r.universals ≡ true) ⊎ Scoped made cs bs (d - 1) w
    pub hidden : (w : ℕ) → among w r.universals ≡ true → among w us ≡ false → is_bound_in bs w ≡ false
    pub equation : Equates made cs bs d r r.equation

  pub record Holds (made : List Made) (cs : List Cover) (bs : List Binding) (c : Cover) : Type 0 where
    pub universals : (u : ℕ) → among u c.universals ≡ true → Owned made c.depth u × Scoped made cs bs c.depth u
    pub in_clause : (z : ℕ) → c.first ≤ z → z < c.first + vars_of_clause p c.clause → InClause made cs bs c.depth c.universals z
    pub waiting : Each (Waits made cs bs c.depth c.clause c.first c.universals) c.waiting
    pub nested : Nested c.universals c.waiting

  pub record Sound (made : List Made) (cs : List Cover) (bs : List Binding) : Type 0 where
    pub falls : Each (Falls made) bs
    pub placed : Placed cs
    pub covers : Each (Holds made cs bs) cs

-- ---- changes

-- what is good down to depth n stays so
pub record Better (made more : List Made) (cs ds : List Cover) (bs es : List Binding) (n : ℕ) : Type 0 where
  pub long : length made ≤ length more
  pub entries : (z : ℕ) → z < length made → (is_kind_matched (entry made z).kind ≡ true → is_bound_in bs z ≡ true) → Lower (entry made z) (entry more z)
  pub owners : (d z : ℕ) → d ≤ n → owns cs d z ≡ true → owns ds d z ≡ true
  pub stays : (z : ℕ) → (entry made z).kind ≡ Matched → is_bound_in bs z ≡ true → is_bound_in es z ≡ true

abbrev pub Carries : List Made → List Made → List Cover → List Cover → List Binding → List Binding → ℕ → Type 0
Carries made more cs ds bs es n = (k z : ℕ) → k ≤ n → Scoped made cs bs k z → Scoped more ds es k z

module _ (made more : List Made) (cs ds : List Cover) (bs es : List Binding) (n : ℕ) (b : Better made more cs ds bs es n) where
  pub good-better : (k z : ℕ) → k ≤ n → Good made cs bs k z → Good more ds es k z
  good-better k z m (existential l e d) =
      let lo = b.entries z l (λ f. absurd (true≢false (sym f ∙ ap is_kind_matched e))) in
      let low = lo.depth in let long = b.long in existential (omega (arith, l, long)) (lo.kind ∙ e) (omega (arith, d, low))
  good-better k z m (universal l e d o) =
      let lo = b.entries z l (λ f. absurd (true≢false (sym f ∙ ap is_kind_matched e))) in
      let same : entry more z ≡ entry made z = lo.fixed (ap is_kind_existential e) in
      let long = b.long in
      universal (omega (arith, l, long)) (lo.kind ∙ e) (subst (λ (a : Made). a.depth ≤ k) (sym same) d)
      (subst (λ (a : Made). owns ds a.depth z ≡ true) (sym same) (b.owners (entry made z).depth z (omega (arith, d, m)) o))
  good-better k z m (matched l e i) =
      let lo = b.entries z l (λ f. i) in
      let long = b.long in matched (omega (arith, l, long)) (lo.kind ∙ e) (b.stays z e i)

  -- fewer bindings
  pub fewer-carries : ((c : Binding) → Contains es c → Contains bs c) → Carries made more cs ds bs es n
  fewer-carries f k z l m = met-fewer (Good made cs bs k) (Good more ds es k) bs es (λ w g. good-better k w l g) f z m

  pub owned-better : (d u : ℕ) → Owned made d u → Owned more d u
  owned-better d u o =
      let lo = b.entries u o.0 (λ f. absurd (true≢false (sym f ∙ ap is_kind_matched o.1))) in
      let same : entry more u ≡ entry made u = lo.fixed (ap is_kind_existential o.1) in
      let low : u < length made = o.0 in
      let long = b.long in
      (omega (arith, low, long), lo.kind ∙ o.1, ap (λ (a : Made). a.depth) same ∙ o.2)

-- with the variables that covers own, and those that are new
pub record Change (made more : List Made) (cs ds : List Cover) (bs es : List Binding) (n : ℕ) : Type 0 where
  pub better : Better made more cs ds bs es n
  pub carries : Carries made more cs ds bs es n
  pub from : (b : Binding) → Contains es b → Contains bs b ⊎ (is_bound_in bs b.x ≡ false)
  pub firm : (d u : ℕ) → d ≤ n → Owned made d u → is_bound_in bs u ≡ true → is_bound_in es u ≡ true
  pub still : (u : ℕ) → (entry made u).kind ≡ Universal → owns cs (entry made u).depth u ≡ false → is_bound_in bs u ≡ false → is_bound_in es u ≡ false

module _ (p : Program) (made more : List Made) (cs ds : List Cover) (bs es : List Binding) (n : ℕ) (h : Change made more cs ds bs es n) where
  pub in-clause-kept : (d : ℕ) (us : List ℕ) → d ≤ n → (z : ℕ) → InClause made cs bs d us z → InClause more ds es d us z
  in-clause-kept d us l z (inl i) = inl i
  in-clause-kept d us l z (inr k) = inr (kind (met-good (Good made cs bs (d - 1)) bs z k.1), h.carries (d - 1) z (omega (arith, l)) k.1)
    where
      kind : Good made cs bs (d - 1) z → (entry more z).kind ≡ Matched
      kind (existential a e o) = absurd (true≢false (sym (ap is_kind_matched k.0) ∙ ap is_kind_matched e))
      kind (universal a e o i) = absurd (true≢false (sym (ap is_kind_matched k.0) ∙ ap is_kind_matched e))
      kind (matched a e i) = (h.better.entries z a (λ f. i)).kind ∙ e

  equates-kept : (d : ℕ) (r : Remainder) → d ≤ n → (o : Option Binding) → Equates made cs bs d r o → Equates more ds es d r o
  equates-kept d r l None k = tt
  equates-kept d r l (Some b) k = (k.0, k.1, λ w o. ((k.2 w o).0, by w (k.2 w o).1))
    where
      by : (w : ℕ) → InEquation made cs bs d r w → InEquation more ds es d r w
      by w (inl m) = inl (h.carries (d - 1) w (omega (arith, l)) m)
      by w (inr i) = inr i

  pub waits-kept : (d clause first : ℕ) (us : List ℕ) → d ≤ n → ((z : ℕ) → owns cs d z ≡ true → among z us ≡ true) → (r : Remainder) → Waits p made cs bs d clause first us r
      → Waits p more ds es d clause first us r
  waits-kept d clause first us l owner r k = record {
    owned = (λ u i. owned-better made more cs ds bs es n h.better d u (k.owned u i));
    in_clause = (λ z a c. in-clause-kept d r.universals l z (k.in_clause z a c));
    replaced = (λ u i. (h.firm d u l (k.owned u (k.replaced u i).1) (k.replaced u i).0, (k.replaced u i).1));
    terms = (λ b j i w o. by b i w o (h.from b j));
    hidden = (λ w i e. h.still w (k.owned w i).1 (unowned w (k.owned w i) e (cases_Bool (owns cs d w))) (k.hidden w i e));
    equation = equates-kept d r l r.equation k.equation;
  }
    where
      term : (w : ℕ) → (among w r.universals ≡ true) ⊎ Scoped made cs bs (d - 1) w → (among w r.universals ≡ true) ⊎ Scoped more ds es (d - 1) w
      term w (inl i) = inl i
      term w (inr m) = inr (h.carries (d - 1) w (omega (arith, l)) m)

      by : (b : Binding) → among b.x r.replaced ≡ true → (w : ℕ) → occurs w (tm_of b.term) ≡ true → Contains bs b ⊎ (is_bound_in bs b.x ≡ false)
          → (among w r.universals ≡ true) ⊎ Scoped more ds es (d - 1) w
      by b i w o (inl j) = term w (k.terms b j i w o)
      by b i w o (inr f) = absurd (true≢false (sym (k.replaced b.x i).0 ∙ f))

      unowned : (w : ℕ) → Owned made d w → among w us ≡ false → (owns cs d w ≡ true) ⊎ (owns cs d w ≡ false) → owns cs (entry made w).depth w ≡ false
      unowned w o e (inl f) = absurd (true≢false (sym (owner w f) ∙ e))
      unowned w o e (inr f) = subst (λ (a : ℕ). owns cs a w ≡ false) (sym o.2) f

  pub holds-kept : (c : Cover) → c.depth ≤ n → ((z : ℕ) → owns cs c.depth z ≡ true → among z c.universals ≡ true) → Holds p made cs bs c → Holds p more ds es c
  holds-kept c l owner k = record {
    universals = (λ u i. (owned-better made more cs ds bs es n h.better c.depth u (k.universals u i).0, h.carries c.depth u l (k.universals u i).1));
    in_clause = (λ z a b. in-clause-kept c.depth c.universals l z (k.in_clause z a b));
    waiting = Each-map (Waits p made cs bs c.depth c.clause c.first c.universals) (Waits p more ds es c.depth c.clause c.first c.universals) (waits-kept c.depth c.clause c.first c.universals l owner) c.waiting k.waiting;
    nested = k.nested;
  }

  -- where the covers stay
  pub covers-kept : (os : List Cover) → Each (Place cs) os → length cs ≤ n → Each (Holds p made cs bs) os → Each (Holds p more ds es) os
  covers-kept [] k l b = tt
  covers-kept (a ∷ os) k l b = (holds-kept a (let m = k.0.high in omega (arith, l, m)) k.0.owner b.0, covers-kept os k.1 l b.1)

-- ---- steps

pub record Scopes (p : Program) (made more : List Made) (cs ds : List Cover) (bs es : List Binding) : Type 0 where
  pub sound : Sound p more ds es
  pub carries : Carries made more cs ds bs es (length cs)
  pub many : length ds ≡ length cs
  pub long : length made ≤ length more
  -- variables of heads that are being matched stay so
  pub kinds : (z : ℕ) → z < length made → (entry made z).kind ≡ Matched → (z < length more) × ((entry more z).kind ≡ Matched)
  pub loose : (z : ℕ) → z < length made → (entry made z).kind ≡ Matched → is_bound_in bs z ≡ false → is_bound_in es z ≡ false

pub scopes-then : (p : Program) (made more most : List Made) (cs ds es : List Cover) (bs bt bu : List Binding) → Scopes p made more cs ds bs bt → Scopes p more most ds es bt bu → Scopes p made most cs es bs bu
scopes-then p made more most cs ds es bs bt bu a b = record {
  sound = b.sound;
  carries = (λ k z l m. let e = a.many in b.carries k z (omega (arith, l, e)) (a.carries k z l m));
  many = b.many ∙ a.many;
  long = (let l = a.long in let m = b.long in omega (arith, l, m));
  kinds = (λ z l e. let o = a.kinds z l e in b.kinds z o.0 o.1);
  loose = (λ z l e f. let o = a.kinds z l e in b.loose z o.0 o.1 (a.loose z l e f));
}

pub scopes-itself : (p : Program) (made : List Made) (cs : List Cover) (bs : List Binding) → Sound p made cs bs → Scopes p made made cs cs bs bs
scopes-itself p made cs bs h = record { sound = h; carries = (λ k z l m. m); many = refl; long = omega arith; kinds = (λ z l e. (l, e)); loose = (λ z l e f. f) }
