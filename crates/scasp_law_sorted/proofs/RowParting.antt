-- A row with universal variables parts a case behind the number tests of its variables.
use Rattle.std.specs.Prelude.{◌≡◌, ◌⊎◌, ℕ, suc, ◌-◌, ◌<◌, ◌≤◌, max, nat_eq, nat_le, Bool, true, false, ◌&&◌, not, if◌then◌else◌, List, [], ◌∷◌, ◌++◌, fold, length, map, filter}
use Rattle.std.specs.List.{Contains, flat_map}
use Rattle.std.proofs.Common.{refl, arith, ap, sym, subst, ◌∙◌, inl, inr}
use Rattle.std.proofs.lemmas.Bool.{true≢false, and_parts, or_cases, or_left, eqb-true, eq-eqb, leb-true}
use Rattle.std.proofs.lemmas.List.{append-nil}
use Rattle.std.proofs.lemmas.List.Elements.{Contains-append_cases, Contains-append_left, Contains-append_right, Contains-push}
use Rattle.scasp_list.specs.Each.{Each}
use Rattle.scasp_list.proofs.EachLemmas.{Each-map}
use Rattle.scasp_list.proofs.MemberLemmas.{Contains-none, Contains-here, Contains-there, list_any-member}
use Rattle.scasp_num.specs.Linear.{Linear, negation, is_symmetric}
use Rattle.scasp_num.specs.Linear as linear
use Rattle.scasp_num.specs.declared.linear.Coeff.{Coeff}
use Rattle.scasp_search_rules.specs.declared.states.covers.Cover.{Cover}
use Rattle.scasp_search_rules.specs.declared.states.outcomes.Parting.{Parting}
use Rattle.scasp_search_rules.specs.declared.states.state.Kind.TheVariants.{Universal}
use Rattle.scasp_search_rules.specs.declared.states.state.Made.{Made}
use Rattle.scasp_search_rules.specs.declared.states.state.State.{State}
use Rattle.scasp_search_rules.specs.Successors.Assumptions.{against, along, assume}
use Rattle.scasp_search_rules.specs.Successors.Reading.{among, con_vars, row_under}
use Rattle.scasp_search_rules.specs.Successors.Regions.{context, equation, with_given}
use Rattle.scasp_search_rules.specs.Successors.Replacing.{is_unreplaced}
use Rattle.scasp_search_rules.specs.Successors.Splits.{at_depth, cover_parted, greatest, is_bound_in, is_number_by, is_number_test, numbered_to, owner, parted, split, split_at}
use Rattle.scasp_search_rules.specs.Successors.Variables.{depth_of, is_empty, is_kind_universal, is_kind_existential, is_universal, meaning, next_variable, universals_of}
use Rattle.scasp_syntax.specs.Constraints.{Sat}
use Rattle.scasp_syntax.specs.Tm.{Tm, var}
use Rattle.scasp_syntax.specs.Values.{under}
use Rattle.scasp_syntax.specs.View.{tm_of}
use Rattle.scasp_syntax.specs.declared.con.Con.{Con}
use Rattle.scasp_syntax.specs.declared.con.Con.TheVariants as con
use Rattle.scasp_syntax.specs.declared.term.Term.TheVariants.{Var}
use Rattle.scasp_syntax.proofs.SameLemmas.{tm_decided}
use Rattle.scasp_unify.specs.Sorted.{Sorted}
use Rattle.scasp_unify.specs.Unification.{term_vars}
use Rattle.scasp_unify.specs.declared.bindings.Binding.{Binding}
use Rattle.scasp_unify.proofs.Members.{Each-member}
use Rattle.scasp_hint.specs.Satisfying.{sat}
use Rattle.scasp_law_first_event.proofs.Bindings.{Solved, unbound-self}
use Rattle.scasp_law_first_event.proofs.Moves.{lowered-length}
use Rattle.scasp_law_no_circle.proofs.Places.{entry, entry-left, lowered-lowers, owns, Placed}
use Rattle.scasp_law_no_circle.proofs.Splitting.{filter-among, parts-length, parts-placed, still-owns}
use Rattle.scasp_law_sorted.proofs.Evenness.{Asks}
use Rattle.scasp_law_sorted.proofs.Expecting.{grows-more}
use Rattle.scasp_law_sorted.proofs.Judging.{CoreAt, Goes, goes-itself, goes-then, asks-assumed, asked-both, Sort, read-sort, IsOwned, lone-more, parted-goes, plain-split}
use Rattle.scasp_law_sorted.proofs.Numbers.{IsNumberBy}
use Rattle.scasp_law_sorted.proofs.Reading.{tested-term}
use Rattle.scasp_law_sorted.proofs.RowJudging.{InScope, both-rows, by-context, in-vars, met-judges, read-holds, unreplaced-not}
use Rattle.scasp_law_sorted.proofs.Standing.{stands, stands-more, stands-context, stands-here, stands-parted, Lone, context-list, core-given, At}
use Rattle.scasp_law_sorted.proofs.Tested.{Tested, tested-more, said, RowIn}

-- ---- what stands down to a depth

stands-base : (gs : List Con) (cs : List Cover) (c : Con) → Contains gs c → Contains (stands gs cs) c
stands-base gs [] c i = i
stands-base gs (o ∷ os) c i = Contains-append_left (stands gs os) o.region c (stands-base gs os c i)

at-map : (d : ℕ) (P Q : List Con → Type 0) (gs : List Con) (cs : List Cover) → ((l : List Con) → P l → Q l) → At d P gs cs → At d Q gs cs
at-map d P Q gs [] f h = tt
at-map d P Q gs (c ∷ cs) f h = ((λ e. f (stands gs (c ∷ cs)) (h.0 e)), at-map d P Q gs cs f h.1)

at-given : (d : ℕ) (c : Con) (gs : List Con) (cs : List Cover) → Contains gs c → At d (λ l. Contains l c) gs cs
at-given d c gs [] i = tt
at-given d c gs (o ∷ os) i = ((λ e. stands-base gs (o ∷ os) c i), at-given d c gs os i)

-- no cover behind is so deep
at-low : (d : ℕ) (P : List Con → Type 0) (gs : List Con) (cs : List Cover) → Placed cs → length cs < d → At d P gs cs
at-low d P gs [] h l = tt
at-low d P gs (c ∷ cs) h l = ((λ e. let depth : c.depth ≡ suc (length cs) = h.0 in absurd (omega (arith, e, depth, l))), at-low d P gs cs h.1 (omega (arith, l)))

-- what is more in given constraints or in regions keeps it
at-more : (d : ℕ) (P Q : List Con → Type 0) (gs hs : List Con) (cs : List Cover) → ((l m : List Con) → ((c : Con) → Contains l c → Contains m c) → P l → Q m) → ((c : Con) → Contains gs c → Contains hs c) → At d P gs cs → At d Q hs cs
at-more d P Q gs hs [] f g h = tt
at-more d P Q gs hs (c ∷ cs) f g h = ((λ e. f (stands gs (c ∷ cs)) (stands hs (c ∷ cs)) (stands-more gs hs (c ∷ cs) g) (h.0 e)), at-more d P Q gs hs cs f g h.1)

parted-depth : (e : ℕ) (q : Parting) (bs : List Binding) (c : Cover) (b : Bool) → (if b then cover_parted q bs c else c).depth ≡ c.depth
parted-depth e q bs c true = refl
parted-depth e q bs c false = refl

at-parted : (d e : ℕ) (q : Parting) (bs : List Binding) (P Q : List Con → Type 0) (gs : List Con) (cs : List Cover) → ((l m : List Con) → ((c : Con) → Contains l c → Contains m c) → P l → Q m) → At d P gs cs
    → At d Q gs (at_depth e (cover_parted q bs) cs)
at-parted d e q bs P Q gs [] f h = tt
at-parted d e q bs P Q gs (c ∷ cs) f h =
    ((λ g. f (stands gs (c ∷ cs)) (stands gs (at_depth e (cover_parted q bs) (c ∷ cs))) (stands-parted e q bs gs (c ∷ cs)) (h.0 (sym (parted-depth e q bs c (nat_eq c.depth e)) ∙ g))), at-parted d e q bs P Q gs cs f h.1)

-- the constraint that parts the case of a cover of this depth
at-here : (d e : ℕ) (q : Parting) (bs : List Binding) (gs : List Con) (cs : List Cover) (x : ℕ) → e ≤ d → Placed cs → owns cs e x ≡ true → At d (λ l. Contains l q.here) gs (at_depth e (cover_parted q bs) cs)
at-here d e q bs gs [] x l h o = tt
at-here d e q bs gs (c ∷ cs) x l h o =
    ((λ g. stands-here e q bs gs (c ∷ cs) x o), by (or_cases (nat_eq c.depth e && among x c.universals) (owns cs e x) o) (λ f. at-here d e q bs gs cs x l h.1 f))
  where
    by : ((nat_eq c.depth e && among x c.universals) ≡ true) ⊎ (owns cs e x ≡ true) → (owns cs e x ≡ true → At d (λ l. Contains l q.here) gs (at_depth e (cover_parted q bs) cs)) → At d (λ l. Contains l q.here) gs (at_depth e (cover_parted q bs) cs)
    by (inl f) rest =
        let same : c.depth ≡ e = eqb-true c.depth e (and_parts (nat_eq c.depth e) (among x c.universals) f).0 in
        let depth : c.depth ≡ suc (length cs) = h.0 in
        let long : length (at_depth e (cover_parted q bs) cs) ≡ length cs = parts-length q bs e cs in
        at-low d (λ l. Contains l q.here) gs (at_depth e (cover_parted q bs) cs) (parts-placed q bs e cs h.1) (omega (arith, same, depth, long, l))
    by (inr f) rest = rest f

-- a constraint of a region down to this depth
at-region : (d : ℕ) (c : Con) (gs : List Con) (cs : List Cover) → Placed cs → Contains (flat_map (λ o. o.region) (filter (λ o. nat_le o.depth d) cs)) c → At d (λ l. Contains l c) gs cs
at-region d c gs [] h i = tt
at-region d c gs (o ∷ os) h i = by (nat_le o.depth d) refl i (λ j. at-region d c gs os h.1 j)
  where
    inside : (f : Cover → Bool) (cs : List Cover) → Contains (flat_map (λ o. o.region) (filter f cs)) c → Contains (stands gs cs) c
    inside f [] j = absurd (Contains-none c j)
    inside f (a ∷ os) j = at (f a) j (λ m. inside f os m)
      where
        first : Contains a.region c ⊎ Contains (flat_map (λ o. o.region) (filter f os)) c → (Contains (flat_map (λ o. o.region) (filter f os)) c → Contains (stands gs os) c) → Contains (stands gs os ++ a.region) c
        first (inl m) rest = Contains-append_right (stands gs os) a.region c m
        first (inr m) rest = Contains-append_left (stands gs os) a.region c (rest m)

        at : (b : Bool) → Contains (flat_map (λ o. o.region) (if b then a ∷ filter f os else filter f os)) c → (Contains (flat_map (λ o. o.region) (filter f os)) c → Contains (stands gs os) c) → Contains (stands gs os ++ a.region) c
        at true m rest = first (Contains-append_cases a.region (flat_map (λ o. o.region) (filter f os)) c m) rest
        at false m rest = Contains-append_left (stands gs os) a.region c (rest m)

    by : (b : Bool) → nat_le o.depth d ≡ b → Contains (flat_map (λ o. o.region) (if b then o ∷ filter (λ o. nat_le o.depth d) os else filter (λ o. nat_le o.depth d) os)) c
        → (Contains (flat_map (λ o. o.region) (filter (λ o. nat_le o.depth d) os)) c → At d (λ l. Contains l c) gs os) → At d (λ l. Contains l c) gs (o ∷ os)
    by true e j rest =
        let low : o.depth ≤ d = leb-true o.depth d e in
        let depth : o.depth ≡ suc (length os) = h.0 in
        ((λ g. inside (λ o. nat_le o.depth d) (o ∷ os) i), at-low d (λ l. Contains l c) gs os h.1 (omega (arith, low, depth)))
    by false e j rest = ((λ g. inside (λ o. nat_le o.depth d) (o ∷ os) i), rest j)

-- ---- the tests of a row's variables

-- a free variable that is existential, or universal, owned and not deeper than d
abbrev Fit : ℕ → State → ℕ → Type 0
Fit d s x = (is_bound_in s.bound x ≡ false) × (Lone s.made x ⊎ (IsOwned s x × (depth_of s x ≤ d)))

-- where it is known to be a number
abbrev Kept : ℕ → State → ℕ → Type 0
Kept d s x = At d (λ l. Tested s.bound l x) s.given s.covers

record Tests (d : ℕ) (s t : State) : Type 0 where
  goes : Goes s t
  placed : Placed t.covers
  fits : (x : ℕ) → Fit d s x → Fit d t x
  kept : (x : ℕ) → Kept d s x → Kept d t x

tests-itself : (d : ℕ) (s : State) → Placed s.covers → CoreAt s → Tests d s s
tests-itself d s h k = record { goes = goes-itself s h k; placed = h; fits = λ x f. f; kept = λ x f. f }

tests-then : (d : ℕ) (s r t : State) → Tests d s r → Tests d r t → Tests d s t
tests-then d s r t a b = record {
  goes = goes-then s r t a.goes b.goes;
  placed = b.placed;
  fits = λ x f. b.fits x (a.fits x f);
  kept = λ x f. b.kept x (a.kept x f);
}

tested-within : (bs es : List Binding) (x : ℕ) → ((b : Binding) → Contains bs b → Contains es b) → (l m : List Con) → ((c : Con) → Contains l c → Contains m c) → Tested bs l x → Tested es m x
tested-within bs es x f l m g t = tested-more bs es l m f g x t

module _ (d : ℕ) (s : State) (placed : Placed s.covers) (k : CoreAt s) (x : ℕ) (fit : Fit d s x) where
  -- it stands already
  known : is_number_by s d x ≡ true → Kept d s x
  known e = by (list_any-member (is_number_test s x) all e)
    where
      all : List Con
      all = s.given ++ flat_map (λ c. c.region) (filter (λ c. nat_le c.depth d) s.covers)

      stand : (c : Con) → Contains s.given c ⊎ Contains (flat_map (λ c. c.region) (filter (λ c. nat_le c.depth d) s.covers)) c → At d (λ l. Contains l c) s.given s.covers
      stand c (inl i) = at-given d c s.given s.covers i
      stand c (inr i) = at-region d c s.given s.covers placed i

      one : (c : Con) → is_number_test s x c ≡ true → At d (λ l. Contains l c) s.given s.covers → Kept d s x
      one (con.Num t) f h =
          at-map d (λ l. Contains l (con.Num t)) (λ l. Tested s.bound l x) s.given s.covers
          (λ l i. tested-term s.bound l t x i ((tm_decided (under (meaning s) (tm_of t)) (var x)).0 f)) h
      one (con.Eq t u) f h = absurd (true≢false (sym f))
      one (con.Neq t u) f h = absurd (true≢false (sym f))
      one (con.NotShape z g n) f h = absurd (true≢false (sym f))
      one (con.NotNum t) f h = absurd (true≢false (sym f))
      one (con.Row r) f h = absurd (true≢false (sym f))

      by : (c : Con) × Contains (s.given ++ flat_map (λ c. c.region) (filter (λ c. nat_le c.depth d) s.covers)) c × (is_number_test s x c ≡ true) → Kept d s x
      by m = one m.0 m.2 (stand m.0 (Contains-append_cases s.given (flat_map (λ c. c.region) (filter (λ c. nat_le c.depth d) s.covers)) m.0 m.1))

  -- it is given
  existential : is_universal s x ≡ false → Tests d s (with_given s (con.Num (Var x))) × Kept d (with_given s (con.Num (Var x))) x
  existential e = (
    record {
      goes = record {
        core = core-given s.made s.covers s.bound s.given k (con.Num (Var x)) tt tt (λ z f. let same : x ≡ z = cc f in subst (λ (y : ℕ). (is_bound_in s.bound y ≡ false) × Lone s.made y) same (fit.0, lone fit.1));
        grows = grows-more s.bound s.bound s.given (s.given ++ con.Num (Var x) ∷ []) s.covers (λ b i. i) more;
        work = refl;
        placed = placed;
      };
      placed = placed;
      fits = λ y f. f;
      kept = λ y h. at-more d (λ l. Tested s.bound l y) (λ l. Tested s.bound l y) s.given (s.given ++ con.Num (Var x) ∷ []) s.covers (tested-within s.bound s.bound y (λ b i. i)) more h;
    },
    at-map d (λ l. Contains l (con.Num (Var x))) (λ l. Tested s.bound l x) (s.given ++ con.Num (Var x) ∷ []) s.covers (λ l i. said x i)
        (at-given d (con.Num (Var x)) (s.given ++ con.Num (Var x) ∷ []) s.covers (Contains-push s.given (con.Num (Var x)))),
  )
    where
      more : (c : Con) → Contains s.given c → Contains (s.given ++ con.Num (Var x) ∷ []) c
      more c i = Contains-append_left s.given (con.Num (Var x) ∷ []) c i

      lone : Lone s.made x ⊎ (IsOwned s x × (depth_of s x ≤ d)) → Lone s.made x
      lone (inl l) = l
      lone (inr o) = absurd (true≢false (sym (ap is_kind_universal o.0.1) ∙ e))

  -- it parts the case of its owner
  universal : is_universal s x ≡ true → Tests d s (split_at s (depth_of s x) (con.Num (Var x))) × Kept d (split_at s (depth_of s x) (con.Num (Var x))) x
  universal e = by fit.1
    where
      n : ℕ
      n = depth_of s x

      q : Parting
      q = parted (next_variable s) (con.Num (Var x))

      made : List Made
      made = (split_at s (depth_of s x) (con.Num (Var x))).made

      more : (b : Binding) → Contains s.bound b → Contains (s.bound ++ []) b
      more b i = Contains-append_left s.bound [] b i

      by : Lone s.made x ⊎ (IsOwned s x × (depth_of s x ≤ d)) → Tests d s (split_at s (depth_of s x) (con.Num (Var x))) × Kept d (split_at s (depth_of s x) (con.Num (Var x))) x
      by (inl l) = absurd (true≢false (sym e ∙ ap is_kind_universal l.1))
      by (inr o) = (
        record {
          goes = plain-split s placed k n (con.Num (Var x)) tt o.0.2;
          placed = parts-placed q s.bound n s.covers placed;
          fits = λ y f. (subst (λ (bs : List Binding). is_bound_in bs y ≡ false) (sym (append-nil s.bound)) f.0, fitting y f.1);
          kept = λ y h. at-parted d n q s.bound (λ l. Tested s.bound l y) (λ l. Tested (s.bound ++ []) l y) s.given s.covers (tested-within s.bound (s.bound ++ []) y more) h;
        },
        at-map d (λ l. Contains l (con.Num (Var x))) (λ l. Tested (s.bound ++ []) l x) s.given (at_depth n (cover_parted q s.bound) s.covers) (λ l i. said x i)
            (at-here d n q s.bound s.given s.covers x o.1 placed o.0.2),
      )
        where
          same : (y : ℕ) → y < length s.made → (entry s.made y).kind ≡ Universal → entry (split_at s (depth_of s x) (con.Num (Var x))).made y ≡ entry s.made y
          same y l g =
              let new : entry (s.made ++ []) y ≡ entry s.made y = entry-left s.made [] y l in
              (lowered-lowers (n - 1) (con_vars (meaning s) (con.Num (Var x))) (s.made ++ []) y).fixed (ap is_kind_existential (ap (λ (m : Made). m.kind) new ∙ g)) ∙ new

          fitting : (y : ℕ) → Lone s.made y ⊎ (IsOwned s y × (depth_of s y ≤ d)) → Lone made y ⊎ (IsOwned (split_at s (depth_of s x) (con.Num (Var x))) y × (depth_of (split_at s (depth_of s x) (con.Num (Var x))) y ≤ d))
          fitting y (inl l) = inl (lone-more s placed k n q (con.Num (Var x)) y l)
          fitting y (inr f) =
              let t = same y f.0.0 f.0.1 in
              inr (
                (long, ap (λ (m : Made). m.kind) t ∙ f.0.1, subst (λ (m : Made). owns (at_depth n (cover_parted q s.bound) s.covers) m.depth y ≡ true) (sym t) (still-owns q s.bound n s.covers (depth_of s y) y f.0.2)),
                subst (λ (m : Made). m.depth ≤ d) (sym t) f.1,
              )
            where
              long : y < length made
              long =
                  let l : y < length s.made = f.0.0 in
                  let a = lowered-length (n - 1) (con_vars (meaning s) (con.Num (Var x))) (s.made ++ []) in
                  let b : length (s.made ++ []) ≡ length s.made = ap (λ (m : List Made). length m) (append-nil s.made) in
                  omega (arith, l, a, b)

  numbered : Tests d s (numbered_to d s x) × Kept d (numbered_to d s x) x
  numbered = by (is_number_by s d x) (is_universal s x) refl refl
    where
      by : (a b : Bool) → is_number_by s d x ≡ a → is_universal s x ≡ b
          → Tests d s (if a then s else (if b then split_at s (depth_of s x) (con.Num (Var x)) else with_given s (con.Num (Var x))))
          × Kept d (if a then s else (if b then split_at s (depth_of s x) (con.Num (Var x)) else with_given s (con.Num (Var x)))) x
      by true b e f = (tests-itself d s placed k, known e)
      by false true e f = universal f
      by false false e f = existential f

all-numbered : (d : ℕ) (s : State) → Placed s.covers → CoreAt s → (xs : List ℕ) → Each (Fit d s) xs → Tests d s (fold (numbered_to d) s xs) × Each (Kept d (fold (numbered_to d) s xs)) xs
all-numbered d s placed k [] h = (tests-itself d s placed k, tt)
all-numbered d s placed k (x ∷ xs) h =
    let t : State = numbered_to d s x in
    let a = numbered d s placed k x h.0 in
    let b = all-numbered d t a.0.placed a.0.goes.core xs (Each-map (Fit d s) (Fit d t) a.0.fits xs h.1) in
    (tests-then d s t (fold (numbered_to d) t xs) a.0 b.0, (b.0.kept x a.1, b.1))

-- ---- the row

greatest-of : (f : ℕ → ℕ) (xs : List ℕ) (x : ℕ) → among x xs ≡ true → f x ≤ greatest (map f xs)
greatest-of f [] x i = absurd (true≢false (sym i))
greatest-of f (y ∷ ys) x i = by (or_cases (nat_eq x y) (among x ys) i) (λ j. greatest-of f ys x j)
  where
    by : (nat_eq x y ≡ true) ⊎ (among x ys ≡ true) → (among x ys ≡ true → f x ≤ greatest (map f ys)) → f x ≤ max (f y) (greatest (map f ys))
    by (inl e) rest = let same : f x ≡ f y = ap f (eqb-true x y e) in omega (arith, same)
    by (inr j) rest = let l = rest j in omega (arith, l)

at-all : (d : ℕ) (bs : List Binding) (gs : List Con) (cs : List Cover) (ks : List Coeff) → Each (λ x. At d (λ l. Tested bs l x) gs cs) (map (λ k. k.x) ks) → At d (λ l. Each (λ k. Tested bs l k.x) ks) gs cs
at-all d bs gs [] ks h = tt
at-all d bs gs (c ∷ cs) ks h = ((λ e. first ks h e), at-all d bs gs cs ks (behind ks h))
  where
    first : (ks : List Coeff) → Each (λ x. At d (λ l. Tested bs l x) gs (c ∷ cs)) (map (λ k. k.x) ks) → c.depth ≡ d → Each (λ k. Tested bs (stands gs (c ∷ cs)) k.x) ks
    first [] h e = tt
    first (k ∷ ks) h e = (h.0.0 e, first ks h.1 e)

    behind : (ks : List Coeff) → Each (λ x. At d (λ l. Tested bs l x) gs (c ∷ cs)) (map (λ k. k.x) ks) → Each (λ x. At d (λ l. Tested bs l x) gs cs) (map (λ k. k.x) ks)
    behind [] h = tt
    behind (k ∷ ks) h = (h.0.1, behind ks h.1)

negated-in : (bs : List Binding) (l : List Con) (b : Bool) (ks : List Coeff) → Each (λ k. Tested bs l k.x) ks → Each (λ k. Tested bs l k.x) (linear.negated b ks)
negated-in bs l b [] h = tt
negated-in bs l b (k ∷ ks) h = (h.0, negated-in bs l b ks h.1)

module _ (s : State) (placed : Placed s.covers) (k : CoreAt s) (q : Linear) (sorts : Each (λ j. Sort s j.x) q.coeffs) where
  abbrev d : ℕ
  d = owner s (con.Row q)

  abbrev xs : List ℕ
  xs = map (λ j. j.x) q.coeffs

  fits : (ks : List Coeff) → ((j : Coeff) → Contains ks j → Contains q.coeffs j) → Each (λ j. Sort s j.x) ks → Each (Fit (owner s (con.Row q)) s) (map (λ j. j.x) ks)
  fits [] f h = tt
  fits (j ∷ ks) f h = ((h.0.0, by h.0.1), fits ks (λ i m. f i (Contains-there j ks i m)) h.1)
    where
      deep : (entry s.made j.x).kind ≡ Universal → depth_of s j.x ≤ owner s (con.Row q)
      deep e =
          greatest-of (depth_of s) (universals_of s (con.Row q)) j.x
          (filter-among (is_universal s) j.x (con_vars (meaning s) (con.Row q))
          (in-vars (meaning s) q.coeffs j (f j (Contains-here j ks)) j.x (ap (λ (t : Tm). among j.x (term_vars t)) (unbound-self s.bound j.x h.0.0) ∙ or_left (nat_eq j.x j.x) false (eq-eqb j.x j.x refl))) (ap is_kind_universal e))

      by : Lone s.made j.x ⊎ IsOwned s j.x → Lone s.made j.x ⊎ (IsOwned s j.x × (depth_of s j.x ≤ owner s (con.Row q)))
      by (inl l) = inl l
      by (inr o) = inr (o, deep o.1)

  row-split : Goes s (split s (con.Row q))
  row-split =
      goes-then s t (split_at t d (con.Row q)) all.0.goes
      (parted-goes t all.0.placed all.0.goes.core d (parted (next_variable t) (con.Row q)) (con.Row q) (λ b i. refl) (λ z e. absurd (cc e)) (λ z e. absurd (cc e))
      (at-map d (λ l. Each (λ j. Tested t.bound l j.x) q.coeffs) (λ l. RowIn t.bound l (con.Row q) × RowIn t.bound l (con.Row (negation q))) t.given t.covers
      (λ l h. (h, negated-in t.bound l (not (is_symmetric q.op)) q.coeffs h)) (at-all d t.bound t.given t.covers q.coeffs all.1)) refl)
    where
      t : State
      t = fold (numbered_to (owner s (con.Row q))) s (map (λ j. j.x) q.coeffs)

      all : Tests (owner s (con.Row q)) s (fold (numbered_to (owner s (con.Row q))) s (map (λ j. j.x) q.coeffs))
          × Each (Kept (owner s (con.Row q)) (fold (numbered_to (owner s (con.Row q))) s (map (λ j. j.x) q.coeffs))) (map (λ j. j.x) q.coeffs)
      all = all-numbered d s placed k xs (fits q.coeffs (λ j i. i) sorts)

-- each variable of the row is a number by what stands
pub row-parts : (s : State) (placed : Placed s.covers) (solved : Solved (length s.made) s.bound) (k : CoreAt s) (r : Linear) → is_empty (universals_of s (con.Row r)) ≡ false
    → Each (λ j. IsNumberBy s.bound (stands s.given s.covers) j.x) r.coeffs → Each (λ j. InScope s j.x) r.coeffs → Asks (λ t. is_unreplaced (meaning s) (con.Row r) ≡ false → Goes s t) (assume sat s (con.Row r))
row-parts s placed solved k r some numbers scoped =
    asks-assumed s (con.Row r) (λ t. is_unreplaced (meaning s) (con.Row r) ≡ false → Goes s t) (asked-both s (con.Row r) both.0 both.1) (λ f e. goes-itself s placed k) (λ f e. goes-itself s placed k) (λ f g q e. absurd (true≢false (sym q ∙ some))) (λ f g q e. parts g e)
  where
    known : Each (λ j. IsNumberBy s.bound (context s) j.x) r.coeffs
    known = subst (λ (l : List Con). Each (λ (j : Coeff). IsNumberBy s.bound l j.x) r.coeffs) (stands-context s.given s.covers) numbers

    both : Sorted (against s (con.Row r)) × Sorted (along s (con.Row r))
    both = both-rows s placed solved k (context s) (context-list s.made s.covers s.bound s.given k) r known (by-context s placed solved k (con.Row r) some)

    parts : sat (along s (con.Row r)) ≡ true → is_unreplaced (meaning s) (con.Row r) ≡ false → Goes s (split s (con.Row (row_under (meaning s) r)))
    parts g e =
        let o = unreplaced-not (meaning s) r e in
        let m : Sat (map equation s.bound ++ context s) = met-judges s placed solved k (context s) r (by-context s placed solved k (con.Row r) some) both.1 g in
        subst (λ (q : Linear). Goes s (split s (con.Row q))) (sym o.2)
        (row-split s placed k o.0
        (read-holds s placed solved k (context s) m (Sort s) r known (λ j i y f. read-sort s solved (length s.covers) j.x y (Each-member (λ (j : Coeff). InScope s j.x) r.coeffs j scoped i) f) o.0 o.1))
