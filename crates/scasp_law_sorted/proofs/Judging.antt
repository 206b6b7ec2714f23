-- What is assumed in a state whose rows have tested variables alone: the lists are sorted, and what comes is such a state.
use Rattle.std.specs.Prelude.{◌≡◌, ◌⊎◌, ℕ, ◌-◌, ◌<◌, Bool, true, false, not, if◌then◌else◌, Option, Some, None, List, [], ◌∷◌, ◌++◌, length, map, filter, replicate, ⊤}
use Rattle.std.specs.List.{Contains}
use Rattle.std.proofs.Common.{refl, arith, ap, sym, subst, ◌∙◌, inl, inr}
use Rattle.std.proofs.lemmas.Bool.{true≢false, eq-eqb}
use Rattle.std.proofs.lemmas.List.{append-nil, length-append}
use Rattle.std.proofs.lemmas.List.Elements.{Contains-append_left}
use Rattle.scasp_list.specs.Each.{Each}
use Rattle.scasp_list.proofs.EachLemmas.{Each-map}
use Rattle.scasp_search_rules.specs.declared.states.outcomes.Parting.{Parting}
use Rattle.scasp_search_rules.specs.declared.states.outcomes.Status.TheVariants.{Entailed, Impossible, Added, Parts as Parted}
use Rattle.scasp_search_rules.specs.declared.states.state.Kind.TheVariants.{Existential, Universal}
use Rattle.scasp_search_rules.specs.declared.states.state.Made.{Made}
use Rattle.scasp_search_rules.specs.declared.states.state.State.{State}
use Rattle.scasp_search_rules.specs.Successors.Assumptions.{against, along, as_read, asked_for, assume, judges, performed}
use Rattle.scasp_search_rules.specs.Successors.Falls.{EachState}
use Rattle.scasp_search_rules.specs.Successors.Reading.{among, con_vars, holds_always, not_shaped, term_under}
use Rattle.scasp_search_rules.specs.Successors.Regions.{asked_with, context, with_given}
use Rattle.scasp_search_rules.specs.Successors.Splits.{at_depth, bound_by, cover_parted, greatest, is_bound_in, owner, parted, parted_at, replacement, split, split_at}
use Rattle.scasp_search_rules.specs.Successors.Variables.{depth_of, is_empty, is_kind_universal, is_universal, lowered, meaning, next_variable, universals_of}
use Rattle.scasp_syntax.specs.Constraints.{has_shape}
use Rattle.scasp_syntax.specs.Tm.{Tm, var, num, app, nil, cons}
use Rattle.scasp_syntax.specs.Values.{under}
use Rattle.scasp_syntax.specs.View.{tm_of}
use Rattle.scasp_syntax.specs.declared.con.Con.{Con}
use Rattle.scasp_syntax.specs.declared.con.Con.TheVariants as con
use Rattle.scasp_syntax.specs.declared.term.Term.{Term}
use Rattle.scasp_syntax.specs.declared.term.Term.TheVariants.{Var, Num, App}
use Rattle.scasp_unify.specs.Negations.{negated}
use Rattle.scasp_unify.specs.Parts.{Part, occurs, parts}
use Rattle.scasp_unify.specs.SimpleForm.{by_parts, one_part, simple, term_with}
use Rattle.scasp_unify.specs.Solving.{sub_of}
use Rattle.scasp_unify.specs.Unification.{term_vars}
use Rattle.scasp_unify.specs.Sorted.{Sorted}
use Rattle.scasp_unify.specs.declared.bindings.Binding.{Binding}
use Rattle.scasp_hint.specs.Satisfying.{sat}
use Rattle.scasp_law_first_event.proofs.Bindings.{Solved, unbound-self}
use Rattle.scasp_law_first_event.proofs.Moves.{lowered-length}
use Rattle.scasp_law_first_event.proofs.Terms.{EachVar}
use Rattle.scasp_law_no_circle.proofs.Assuming.{kind-of}
use Rattle.scasp_law_no_circle.proofs.Meeting.{met-reads, read-unbound}
use Rattle.scasp_law_no_circle.proofs.Places.{entry, entry-left, lowered-lowers, owns, Place, Placed, places}
use Rattle.scasp_law_no_circle.proofs.Scope.{Good, good-made, Scoped}
use Rattle.scasp_law_no_circle.proofs.Sides.{one-owner}
use Rattle.scasp_law_no_circle.proofs.Splitting.{parts-placed}
use Rattle.scasp_law_no_circle.proofs.Tasks.{NoRow}
use Rattle.scasp_law_sorted.proofs.Assuming.{plain-negated}
use Rattle.scasp_law_sorted.proofs.Evenness.{Asks}
use Rattle.scasp_law_sorted.proofs.Expecting.{Grows, grows-more, grows-then, grows-parted}
use Rattle.scasp_law_sorted.proofs.Lists.{sorted-one}
use Rattle.scasp_law_sorted.proofs.Rowless.{GivenPlain, given-no_row, given-read}
use Rattle.scasp_law_sorted.proofs.RowlessReaching.{no-equation}
use Rattle.scasp_law_sorted.proofs.Standing.{Lone, Core, given-list, context-list, core-given, all-parted, At, at-always, OwnedAt}
use Rattle.scasp_law_sorted.proofs.Tested.{RowIn, plain-in}

abbrev pub CoreAt : State → Type 0
CoreAt s = Core s.made s.covers s.bound s.given

-- what stands grows, and what is left to do stays
pub record Goes (s r : State) : Type 0 where
  pub core : CoreAt r
  pub grows : Grows s.bound s.given s.covers r.bound r.given r.covers
  pub work : r.work ≡ s.work
  pub placed : Placed r.covers

pub goes-itself : (s : State) → Placed s.covers → CoreAt s → Goes s s
goes-itself s h k = record { core = k; grows = grows-more s.bound s.bound s.given s.given s.covers (λ b i. i) (λ c i. i); work = refl; placed = h }

pub goes-then : (s r t : State) → Goes s r → Goes r t → Goes s t
goes-then s r t a b = record {
  core = b.core;
  grows = grows-then s.bound r.bound t.bound s.given r.given t.given s.covers r.covers t.covers a.grows b.grows;
  work = b.work ∙ a.work;
  placed = b.placed;
}

-- ---- what comes of an assumption

pub asks-assumed : (s : State) (c : Con) (P : State → Type 0) → Each Sorted (asked_for sat s c) → (holds_always (as_read s c) ≡ true → P s) → (sat (against s c) ≡ false → P s)
    → (holds_always (as_read s c) ≡ false → sat (along s c) ≡ true → is_empty (universals_of s c) ≡ true → P (with_given s (as_read s c)))
    → (holds_always (as_read s c) ≡ false → sat (along s c) ≡ true → is_empty (universals_of s c) ≡ false → P (split s (as_read s c)))
    → Asks P (assume sat s c)
asks-assumed s c P asked holds unmet added parts = record {
  asked = asked;
  states = by (holds_always (as_read s c)) (sat (against s c)) (sat (along s c)) (is_empty (universals_of s c)) refl refl refl refl;
}
  where
    by : (i j k l : Bool) → holds_always (as_read s c) ≡ i → sat (against s c) ≡ j → sat (along s c) ≡ k → is_empty (universals_of s c) ≡ l
        → EachState P (performed s (as_read s c) (if i then Entailed else (if not j then Entailed else (if not k then Impossible else (if l then Added else Parted)))))
    by true j k l e f g h = (holds e, tt)
    by false false k l e f g h = (unmet f, tt)
    by false true false l e f g h = tt
    by false true true true e f g h = (added e g h, tt)
    by false true true false e f g h = (parts e g h, tt)

-- the two lists
pub asked-both : (s : State) (c : Con) → Sorted (against s c) → Sorted (along s c) → Each Sorted (asked_for sat s c)
asked-both s c a b = by (holds_always (as_read s c)) (sat (against s c))
  where
    by : (i j : Bool) → Each Sorted (if i then [] else (if j then against s c ∷ along s c ∷ [] else against s c ∷ []))
    by true j = tt
    by false true = (a, (b, tt))
    by false false = (a, tt)

-- ---- kinds

pub lone-new : (made more : List Made) (w : ℕ) → Lone made w → Lone (made ++ more) w
lone-new made more w l = ((let e = length-append {A = Made} made more in let m = l.0 in omega (arith, e, m)), ap (λ (m : Made). m.kind) (entry-left made more w l.0) ∙ l.1)

pub lone-lowered : (d : ℕ) (xs : List ℕ) (made : List Made) (w : ℕ) → Lone made w → Lone (lowered d xs made) w
lone-lowered d xs made w l = ((let e = lowered-length d xs made in let m = l.0 in omega (arith, e, m)), (lowered-lowers d xs made w).kind ∙ l.1)

-- universal, and owned by the cover of its depth
abbrev pub IsOwned : State → ℕ → Type 0
IsOwned s y = (y < length s.made) × ((entry s.made y).kind ≡ Universal) × (owns s.covers (depth_of s y) y ≡ true)

-- what a variable in scope reads to
abbrev pub Sort : State → ℕ → Type 0
Sort s y = (is_bound_in s.bound y ≡ false) × (Lone s.made y ⊎ IsOwned s y)

pub read-sort : (s : State) → Solved (length s.made) s.bound → (n x y : ℕ) → Scoped s.made s.covers s.bound n x → sub_of s.bound x ≡ var y → Sort s y
read-sort s solved n x y m e = (free, by (kind-of s n y good free))
  where
    free : is_bound_in s.bound y ≡ false
    free = read-unbound (length s.made) s.bound solved x y (ap (occurs y) e ∙ eq-eqb y y refl)

    good : Good s.made s.covers s.bound n y
    good = subst (EachVar (Good s.made s.covers s.bound n)) e (met-reads (Good s.made s.covers s.bound n) s.bound x m)

    place : y < length s.made
    place = good-made s.made s.covers s.bound n y good

    by : ((entry s.made y).kind ≡ Existential) ⊎ (((entry s.made y).kind ≡ Universal) × (owns s.covers (entry s.made y).depth y ≡ true)) → Lone s.made y ⊎ IsOwned s y
    by (inl k) = inl (place, k)
    by (inr k) = inr (place, k.0, k.1)

-- ---- no number tests

abbrev NoTest : Con → Type 0
NoTest (con.Num t) = ⊥
NoTest (con.NotNum t) = ⊥
NoTest (con.Row r) = ⊤
NoTest (con.Eq t u) = ⊤
NoTest (con.Neq t u) = ⊤
NoTest (con.NotShape x f n) = ⊤

part-no_test : (p : Part) (t : Tm) → NoTest (one_part p t)
part-no_test p (app f nil) = tt
part-no_test p (app f (cons t ts)) = tt
part-no_test p (num q) = tt
part-no_test p (var y) = tt

parts-no_test : (t u : Term) (o : Option (List Part)) → NoTest (by_parts (con.Neq t u) o)
parts-no_test t u None = tt
parts-no_test t u (Some []) = tt
parts-no_test t u (Some (p ∷ [])) = part-no_test p p.term
parts-no_test t u (Some (p ∷ q ∷ ps)) = tt

shaped-no_test : (t : Tm) (f n : ℕ) → NoTest (simple (not_shaped t f n))
shaped-no_test (var x) f n = tt
shaped-no_test (num q) f n = tt
shaped-no_test (app g us) f n = by (has_shape f n (app g us))
  where
    by : (b : Bool) → NoTest (simple (if b then con.Neq (term_with (app g us)) (term_with (app g us)) else con.Eq (term_with (app g us)) (term_with (app g us))))
    by true = parts-no_test (App g us) (App g us) (parts (app g us) (app g us))
    by false = tt

-- ---- where the variables of number tests are owned

module _ (s : State) where
  abbrev OwnsTerm : ℕ → Term → Type 0
  OwnsTerm d (Var z) = owns s.covers d z ≡ true
  OwnsTerm d (Num q) = ⊤
  OwnsTerm d (App f ts) = ⊤

  abbrev pub OwnsTest : ℕ → Con → Type 0
  OwnsTest d (con.Num t) = OwnsTerm d t
  OwnsTest d (con.NotNum t) = OwnsTerm d t
  OwnsTest d (con.Eq t u) = ⊤
  OwnsTest d (con.Neq t u) = ⊤
  OwnsTest d (con.NotShape x f n) = ⊤
  OwnsTest d (con.Row r) = ⊤

  owns-none : (d : ℕ) (c : Con) → NoTest c → OwnsTest d c
  owns-none d (con.Num t) n = absurd n
  owns-none d (con.NotNum t) n = absurd n
  owns-none d (con.Eq t u) n = tt
  owns-none d (con.Neq t u) n = tt
  owns-none d (con.NotShape x f k) n = tt
  owns-none d (con.Row r) n = tt

module _ (s : State) (placed : Placed s.covers) (k : CoreAt s) where
  pub owned-at : (d z : ℕ) → owns s.covers d z ≡ true → OwnedAt d z s.covers
  owned-at d z o = Each-map (Place s.covers) (λ c. c.depth ≡ d → among z c.universals ≡ true) (λ c a e. a.owner z (subst (λ (n : ℕ). owns s.covers n z ≡ true) (sym e) o)) s.covers (places s.covers placed)

  owned-term : (d : ℕ) (t : Term) (z : ℕ) → OwnsTerm s d t → t ≡ Var z → OwnedAt d z s.covers
  owned-term d t z o e = owned-at d z (subst (OwnsTerm s d) e o)

  -- ---- lists

  pub judged : (c d : Con) → NoRow d → Sorted (asked_with s (judges s c ++ d ∷ []))
  judged c d n = by (is_empty (universals_of s c))
    where
      by : (b : Bool) → Sorted (asked_with s ((if b then s.given else context s) ++ d ∷ []))
      by true = sorted-one s.bound s.given d n (given-list s.made s.covers s.bound s.given k)
      by false = sorted-one s.bound (context s) d n (context-list s.made s.covers s.bound s.given k)

  pub asked-plain : (c : Con) → NoRow c → Each Sorted (asked_for sat s c)
  asked-plain c n = asked-both s c (judged c (negated (next_variable s) c) (plain-negated (next_variable s) c n)) (judged c c n)

  -- ---- a case that is parted

  abbrev More : ℕ → Parting → Con → List Made
  More d q c = lowered (d - 1) (con_vars (meaning s) c) (s.made ++ replicate (length q.parts_there) (record { kind = Universal; depth = d }))

  pub lone-more : (d : ℕ) (q : Parting) (c : Con) (w : ℕ) → Lone s.made w → Lone (More d q c) w
  lone-more d q c w l =
      lone-lowered (d - 1) (con_vars (meaning s) c) (s.made ++ replicate (length q.parts_there) (record { kind = Universal; depth = d })) w (lone-new s.made (replicate (length q.parts_there) (record { kind = Universal; depth = d })) w l)

  abbrev Rows : ℕ → Parting → Type 0
  Rows d q = At d (λ l. RowIn s.bound l q.here × RowIn s.bound l q.there) s.given s.covers

  module _ (d : ℕ) (q : Parting) (c : Con) (fresh : (b : Binding) → Contains s.bound b → among b.x q.parts_here ≡ false) (here : (z : ℕ) → q.here ≡ con.Num (Var z) → OwnedAt d z s.covers)
      (there : (z : ℕ) → q.there ≡ con.Num (Var z) → OwnedAt d z s.covers) (rows : At d (λ l. RowIn s.bound l q.here × RowIn s.bound l q.there) s.given s.covers) where
    pub parted-core : Core (More d q c) (at_depth d (cover_parted q s.bound) s.covers) s.bound s.given
    parted-core = record {
      once = k.once;
      lone = (λ w t. lone-more d q c w (k.lone w t));
      plain = k.plain;
      rows = k.rows;
      covers = all-parted d q s.bound s.given fresh s.covers here there rows k.covers;
    }

    pub parted-goes : bound_by (replacement c) ≡ [] → Goes s (parted_at s d q c)
    parted-goes e = record {
      core = subst (λ (bs : List Binding). Core (More d q c) (at_depth d (cover_parted q s.bound) s.covers) bs s.given) same parted-core;
      grows = grows-parted d q s.bound s.bound (s.bound ++ bound_by (replacement c)) s.given s.covers (λ b i. Contains-append_left s.bound (bound_by (replacement c)) b i) fresh;
      work = refl;
      placed = parts-placed q s.bound d s.covers placed;
    }
      where
        same : s.bound ≡ s.bound ++ bound_by (replacement c)
        same = sym (ap (λ (bs : List Binding). s.bound ++ bs) e ∙ append-nil s.bound)

  pub plain-rows : (d : ℕ) (q : Parting) → ((l : List Con) → RowIn s.bound l q.here × RowIn s.bound l q.there) → At d (λ l. RowIn s.bound l q.here × RowIn s.bound l q.there) s.given s.covers
  plain-rows d q f = at-always d (λ l. RowIn s.bound l q.here × RowIn s.bound l q.there) s.given s.covers f

  -- by a constraint that is no row and no equation
  pub plain-split : (d : ℕ) (c : Con) → GivenPlain c → OwnsTest s d c → Goes s (split_at s d c)
  plain-split d (con.Row r) n o = absurd n
  plain-split d (con.Eq t u) n o = absurd n
  plain-split d (con.Neq t u) n o =
      let q = parted (next_variable s) (con.Neq t u) in
      parted-goes d q (con.Neq t u) (λ b i. refl) (λ z e. absurd (cc e)) (λ z e. absurd (cc e)) (plain-rows d q (λ l. (tt, tt))) refl
  plain-split d (con.NotShape x f m) n o =
      let q = parted (next_variable s) (con.NotShape x f m) in
      parted-goes d q (con.NotShape x f m) (λ b i. refl) (λ z e. absurd (cc e)) (λ z e. absurd (cc e)) (plain-rows d q (λ l. (tt, tt))) refl
  plain-split d (con.Num t) n o =
      let q = parted (next_variable s) (con.Num t) in
      parted-goes d q (con.Num t) (λ b i. refl) (λ z e. owned-term d t z o (let same : t ≡ Var z = cc e in same)) (λ z e. absurd (cc e)) (plain-rows d q (λ l. (tt, tt))) refl
  plain-split d (con.NotNum t) n o =
      let q = parted (next_variable s) (con.NotNum t) in
      parted-goes d q (con.NotNum t) (λ b i. refl) (λ z e. absurd (cc e)) (λ z e. owned-term d t z o (let same : t ≡ Var z = cc e in same)) (plain-rows d q (λ l. (tt, tt))) refl

  split-plainly : (c : Con) → GivenPlain c → OwnsTest s (owner s c) c → Goes s (split s c)
  split-plainly (con.Row r) n o = absurd n
  split-plainly (con.Eq t u) n o = absurd n
  split-plainly (con.Neq t u) n o = plain-split (owner s (con.Neq t u)) (con.Neq t u) n o
  split-plainly (con.NotShape x f m) n o = plain-split (owner s (con.NotShape x f m)) (con.NotShape x f m) n o
  split-plainly (con.Num t) n o = plain-split (owner s (con.Num t)) (con.Num t) n o
  split-plainly (con.NotNum t) n o = plain-split (owner s (con.NotNum t)) (con.NotNum t) n o

  -- ---- number tests

  -- what the term of a number test reads to
  abbrev Sorts : Term → Type 0
  Sorts t = (z : ℕ) → under (meaning s) (tm_of t) ≡ var z → Sort s z

  abbrev pub TestSorts : Con → Type 0
  TestSorts (con.Num t) = Sorts t
  TestSorts (con.NotNum t) = Sorts t
  TestSorts (con.Eq t u) = ⊤
  TestSorts (con.Neq t u) = ⊤
  TestSorts (con.NotShape x f n) = ⊤
  TestSorts (con.Row r) = ⊤

  -- its variables are those of what it reads to
  lone-test : (t : Term) → Sorts t → is_empty (filter (is_universal s) (term_vars (under (meaning s) (tm_of t)))) ≡ true → (z : ℕ) → con.Num (term_with (under (meaning s) (tm_of t))) ≡ con.Num (Var z)
      → (is_bound_in s.bound z ≡ false) × Lone s.made z
  lone-test t h q z e = by (under (meaning s) (tm_of t)) refl q e
    where
      kind : (y : ℕ) → Lone s.made y ⊎ IsOwned s y → is_empty (filter (is_universal s) (y ∷ [])) ≡ true → Lone s.made y
      kind y (inl l) f = l
      kind y (inr o) f = absurd (true≢false (sym f ∙ ap (λ (b : Bool). is_empty (if b then y ∷ [] else [])) (ap is_kind_universal o.1)))

      by : (u : Tm) → under (meaning s) (tm_of t) ≡ u → is_empty (filter (is_universal s) (term_vars u)) ≡ true → con.Num (term_with u) ≡ con.Num (Var z) → (is_bound_in s.bound z ≡ false) × Lone s.made z
      by (var y) f g i = let same : y ≡ z = cc i in subst (λ (v : ℕ). (is_bound_in s.bound v ≡ false) × Lone s.made v) same ((h y f).0, kind y (h y f).1 g)
      by (num v) f g i = absurd (cc i)
      by (app v us) f g i = absurd (cc i)

  owned-test : (t : Term) → Sorts t → is_empty (filter (is_universal s) (term_vars (under (meaning s) (tm_of t)))) ≡ false
      → OwnsTerm s (greatest (map (depth_of s) (filter (is_universal s) (term_vars (under (meaning s) (tm_of (term_with (under (meaning s) (tm_of t))))))))) (term_with (under (meaning s) (tm_of t)))
  owned-test t h q = by (under (meaning s) (tm_of t)) refl q
    where
      at : (y : ℕ) → Sort s y → is_empty (filter (is_universal s) (y ∷ [])) ≡ false → owns s.covers (greatest (map (depth_of s) (filter (is_universal s) (term_vars (sub_of s.bound y))))) y ≡ true
      at y k g = kind k.1
        where
          kind : Lone s.made y ⊎ IsOwned s y → owns s.covers (greatest (map (depth_of s) (filter (is_universal s) (term_vars (sub_of s.bound y))))) y ≡ true
          kind (inl l) = absurd (true≢false (sym (ap (λ (b : Bool). is_empty (if b then y ∷ [] else [])) (ap is_kind_universal l.1)) ∙ g))
          kind (inr o) =
              subst (λ (n : ℕ). owns s.covers n y ≡ true)
              (sym (ap (λ (u : Tm). greatest (map (depth_of s) (filter (is_universal s) (term_vars u)))) (unbound-self s.bound y k.0) ∙ one-owner s y (ap is_kind_universal o.1))) o.2

      by : (u : Tm) → under (meaning s) (tm_of t) ≡ u → is_empty (filter (is_universal s) (term_vars u)) ≡ false
          → OwnsTerm s (greatest (map (depth_of s) (filter (is_universal s) (term_vars (under (meaning s) (tm_of (term_with u))))))) (term_with u)
      by (var y) f g = at y (h y f) g
      by (num v) f g = tt
      by (app v us) f g = tt

  -- ---- a constraint that is no row

  module _ (c : Con) (n : GivenPlain c) (h : TestSorts c) where
    added-lone : is_empty (universals_of s c) ≡ true → (z : ℕ) → as_read s c ≡ con.Num (Var z) → (is_bound_in s.bound z ≡ false) × Lone s.made z
    added-lone q z e = by c n h q e
      where
        none : (d : Con) → NoTest d → d ≡ con.Num (Var z) → (is_bound_in s.bound z ≡ false) × Lone s.made z
        none d m e = absurd (subst NoTest e m)

        by : (c : Con) → GivenPlain c → TestSorts c → is_empty (universals_of s c) ≡ true → as_read s c ≡ con.Num (Var z) → (is_bound_in s.bound z ≡ false) × Lone s.made z
        by (con.Row r) n h q e = absurd n
        by (con.Eq t u) n h q e = absurd n
        by (con.Neq t u) n h q e = none (as_read s (con.Neq t u)) (parts-no_test (term_under (meaning s) t) (term_under (meaning s) u) (parts (tm_of (term_under (meaning s) t)) (tm_of (term_under (meaning s) u)))) e
        by (con.NotShape x f m) n h q e = none (as_read s (con.NotShape x f m)) (shaped-no_test (meaning s x) f m) e
        by (con.Num t) n h q e = lone-test t h q z e
        by (con.NotNum t) n h q e = absurd (cc e)

    parts-owned : is_empty (universals_of s c) ≡ false → OwnsTest s (owner s (as_read s c)) (as_read s c)
    parts-owned q = by c n h q
      where
        by : (c : Con) → GivenPlain c → TestSorts c → is_empty (universals_of s c) ≡ false → OwnsTest s (owner s (as_read s c)) (as_read s c)
        by (con.Row r) n h q = absurd n
        by (con.Eq t u) n h q = absurd n
        by (con.Neq t u) n h q = owns-none s (owner s (as_read s (con.Neq t u))) (as_read s (con.Neq t u)) (parts-no_test (term_under (meaning s) t) (term_under (meaning s) u) (parts (tm_of (term_under (meaning s) t)) (tm_of (term_under (meaning s) u))))
        by (con.NotShape x f m) n h q = owns-none s (owner s (as_read s (con.NotShape x f m))) (as_read s (con.NotShape x f m)) (shaped-no_test (meaning s x) f m)
        by (con.Num t) n h q = owned-test t h q
        by (con.NotNum t) n h q = owned-test t h q

    pub given-goes : holds_always (as_read s c) ≡ false → is_empty (universals_of s c) ≡ true → Goes s (with_given s (as_read s c))
    given-goes f q = record {
      core = core-given s.made s.covers s.bound s.given k (as_read s c) (no-equation (as_read s c) read) (plain-in s.bound (s.given ++ as_read s c ∷ []) (as_read s c) (given-no_row (as_read s c) read)) (added-lone q);
      grows = grows-more s.bound s.bound s.given (s.given ++ as_read s c ∷ []) s.covers (λ b i. i) (λ d i. Contains-append_left s.given (as_read s c ∷ []) d i);
      work = refl;
      placed = placed;
    }
      where
        read : GivenPlain (as_read s c)
        read = given-read (meaning s) c n f

    pub split-goes : holds_always (as_read s c) ≡ false → is_empty (universals_of s c) ≡ false → Goes s (split s (as_read s c))
    split-goes f q = split-plainly (as_read s c) (given-read (meaning s) c n f) (parts-owned q)

    pub assume-goes : Asks (Goes s) (assume sat s c)
    assume-goes = asks-assumed s c (Goes s) (asked-plain c (given-no_row c n)) (λ e. goes-itself s placed k) (λ e. goes-itself s placed k) (λ e f q. given-goes e q) (λ e f q. split-goes e q)
