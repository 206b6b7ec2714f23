-- What stands in the given constraints, in regions and in remainders: of which variables the number tests are, and that each variable of a row
-- is tested by the constraints that its row stands with.
use Rattle.std.specs.Prelude.{◌≡◌, ◌⊎◌, ℕ, ◌<◌, nat_eq, Bool, true, false, ◌&&◌, ◌||◌, if◌then◌else◌, List, [], ◌∷◌, ◌++◌, length, map, filter, reverse, ⊤}
use Rattle.std.specs.List.{Contains, flat_map}
use Rattle.std.proofs.Common.{refl, ap, sym, subst, ◌∙◌, inl, inr}
use Rattle.std.proofs.lemmas.Bool.{true≢false, cases_Bool, eqb-true, eq-eqb, or_from, or_parts}
use Rattle.std.proofs.lemmas.Grind.{flat_map-append}
use Rattle.std.proofs.lemmas.List.{append-nil, append_assoc, reverse-append}
use Rattle.std.proofs.lemmas.List.Elements.{Contains-append_cases, Contains-append_left, Contains-append_right}
use Rattle.scasp_list.specs.Each.{Each}
use Rattle.scasp_list.proofs.EachLemmas.{Each-map, Each-append}
use Rattle.scasp_list.proofs.MemberLemmas.{Contains-single, Contains-here}
use Rattle.scasp_project.specs.Meaning.{IsNoEquation}
use Rattle.scasp_search_rules.specs.declared.states.covers.Cover.{Cover}
use Rattle.scasp_search_rules.specs.declared.states.covers.Remainder.{Remainder}
use Rattle.scasp_search_rules.specs.declared.states.outcomes.Parting.{Parting}
use Rattle.scasp_search_rules.specs.declared.states.state.Kind.TheVariants.{Existential}
use Rattle.scasp_search_rules.specs.declared.states.state.Made.{Made}
use Rattle.scasp_search_rules.specs.Successors.Cases.{unbound}
use Rattle.scasp_search_rules.specs.Successors.Reading.{among}
use Rattle.scasp_search_rules.specs.Successors.Regions.{regions, equation}
use Rattle.scasp_search_rules.specs.Successors.Splits.{at_depth, cover_parted, is_bound_in}
use Rattle.scasp_syntax.specs.declared.con.Con.{Con}
use Rattle.scasp_syntax.specs.declared.con.Con.TheVariants as con
use Rattle.scasp_syntax.specs.declared.term.Term.TheVariants.{Var}
use Rattle.scasp_unify.specs.Sorted.{Sorted}
use Rattle.scasp_unify.specs.declared.bindings.Binding.{Binding}
use Rattle.scasp_law_no_circle.proofs.Meeting.{bound-there}
use Rattle.scasp_law_no_circle.proofs.Places.{entry, owns}
use Rattle.scasp_law_no_circle.proofs.Splitting.{among-left, filter-among, among-either}
use Rattle.scasp_law_sorted.proofs.Tested.{Tested, tested-more, stays, stayed, unbound-more, tested-parts, tested-free, tested-push, RowIn, row-mapped, rows-mapped, rows-sorted}

-- ---- the constraints of a state

-- the given ones, and then those of the regions, the outermost first
abbrev pub stands : List Con → List Cover → List Con
stands gs [] = gs
stands gs (c ∷ cs) = stands gs cs ++ c.region

pub stands-context : (gs : List Con) (cs : List Cover) → stands gs cs ≡ gs ++ regions cs
stands-context gs [] = sym (append-nil gs)
stands-context gs (c ∷ cs) =
    ap (λ (l : List Con). l ++ c.region) (stands-context gs cs) ∙ append_assoc gs (regions cs) c.region
    ∙ ap (λ (l : List Con). gs ++ l)
    (ap (λ (l : List Con). regions cs ++ l) (sym (append-nil c.region)) ∙ sym (flat_map-append (λ (o : Cover). o.region) (reverse cs) (c ∷ [])) ∙ ap (flat_map (λ (o : Cover). o.region)) (sym (reverse-append (c ∷ []) cs)))

pub stands-more : (gs hs : List Con) (cs : List Cover) → ((c : Con) → Contains gs c → Contains hs c) → (c : Con) → Contains (stands gs cs) c → Contains (stands hs cs) c
stands-more gs hs [] f c i = f c i
stands-more gs hs (o ∷ os) f c i = by (Contains-append_cases (stands gs os) o.region c i) (λ j. stands-more gs hs os f c j)
  where
    by : Contains (stands gs os) c ⊎ Contains o.region c → (Contains (stands gs os) c → Contains (stands hs os) c) → Contains (stands hs os ++ o.region) c
    by (inl j) rest = Contains-append_left (stands hs os) o.region c (rest j)
    by (inr j) rest = Contains-append_right (stands hs os) o.region c j

-- one list longer, and what is behind too
pub longer : (ls bs cs ds : List Con) → ((c : Con) → Contains ls c → Contains bs c) → ((c : Con) → Contains cs c → Contains ds c) → (c : Con) → Contains (ls ++ cs) c → Contains (bs ++ ds) c
longer ls bs cs ds f g c i = by (Contains-append_cases ls cs c i)
  where
    by : Contains ls c ⊎ Contains cs c → Contains (bs ++ ds) c
    by (inl j) = Contains-append_left bs ds c (f c j)
    by (inr j) = Contains-append_right bs ds c (g c j)

-- ---- what holds of them

-- existential
abbrev pub Lone : List Made → ℕ → Type 0
Lone made w = (w < length made) × ((entry made w).kind ≡ Existential)

-- no variable is bound twice
abbrev pub Once : List Binding → Type 0
Once [] = ⊤
Once (b ∷ bs) = (is_bound_in bs b.x ≡ false) × Once bs

-- the tests of a remainder are of its universal variables, and its rows' variables are tested where its case begins
pub record Waits (bs : List Binding) (below : List Con) (us : List ℕ) (r : Remainder) : Type 0 where
  pub tests : (z : ℕ) → Contains r.region (con.Num (Var z)) → among z r.universals ≡ true
  pub rows : Each (RowIn (unbound us r.replaced bs) (below ++ r.region)) r.region

pub record Holds (bs : List Binding) (below : List Con) (c : Cover) : Type 0 where
  pub tests : (z : ℕ) → Contains c.region (con.Num (Var z)) → among z c.universals ≡ true
  pub rows : Each (RowIn bs (below ++ c.region)) c.region
  pub waiting : Each (Waits bs below c.universals) c.waiting

abbrev pub AllHold : List Binding → List Con → List Cover → Type 0
AllHold bs gs [] = ⊤
AllHold bs gs (c ∷ cs) = Holds bs (stands gs cs) c × AllHold bs gs cs

pub record Core (made : List Made) (cs : List Cover) (bs : List Binding) (gs : List Con) : Type 0 where
  pub once : Once bs
  pub lone : (w : ℕ) → Tested bs gs w → Lone made w
  pub plain : Each IsNoEquation gs
  pub rows : Each (RowIn bs gs) gs
  pub covers : AllHold bs gs cs

-- ---- so lists are sorted

pub stands-rows : (bs : List Binding) (gs : List Con) (cs : List Cover) → Each (RowIn bs gs) gs → AllHold bs gs cs → Each (RowIn bs (stands gs cs)) (stands gs cs)
stands-rows bs gs [] h k = h
stands-rows bs gs (c ∷ cs) h k =
    Each-append (RowIn bs (stands gs cs ++ c.region)) (stands gs cs) c.region
    (rows-mapped bs bs (stands gs cs) (stands gs cs ++ c.region) (tested-more bs bs (stands gs cs) (stands gs cs ++ c.region) (λ b i. i) (λ d i. Contains-append_left (stands gs cs) c.region d i)) (stands gs cs) (stands-rows bs gs cs h k.1))
    k.0.rows

module _ (made : List Made) (cs : List Cover) (bs : List Binding) (gs : List Con) (k : Core made cs bs gs) where
  pub given-list : Sorted (map equation bs ++ gs)
  given-list = rows-sorted bs gs k.rows

  pub context-list : Sorted (map equation bs ++ (gs ++ regions cs))
  context-list = subst (λ (l : List Con). Sorted (map equation bs ++ l)) (stands-context gs cs) (rows-sorted bs (stands gs cs) (stands-rows bs gs cs k.rows k.covers))

-- ---- more bindings and given constraints

module _ (bs es : List Binding) (f : (b : Binding) → Contains bs b → Contains es b) where
  waits-more : (below more : List Con) → ((c : Con) → Contains below c → Contains more c) → (us : List ℕ) (r : Remainder) → Waits bs below us r → Waits es more us r
  waits-more below more g us r k = record {
    tests = k.tests;
    rows = rows-mapped (unbound us r.replaced bs) (unbound us r.replaced es) (below ++ r.region) (more ++ r.region)
        (tested-more (unbound us r.replaced bs) (unbound us r.replaced es) (below ++ r.region) (more ++ r.region) (unbound-more us r.replaced bs es f) (longer below more r.region r.region g (λ c i. i))) r.region k.rows;
  }

  holds-more : (below more : List Con) → ((c : Con) → Contains below c → Contains more c) → (c : Cover) → Holds bs below c → Holds es more c
  holds-more below more g c k = record {
    tests = k.tests;
    rows = rows-mapped bs es (below ++ c.region) (more ++ c.region) (tested-more bs es (below ++ c.region) (more ++ c.region) f (longer below more c.region c.region g (λ d i. i))) c.region k.rows;
    waiting = Each-map (Waits bs below c.universals) (Waits es more c.universals) (waits-more below more g c.universals) c.waiting k.waiting;
  }

  pub all-more : (gs hs : List Con) → ((c : Con) → Contains gs c → Contains hs c) → (cs : List Cover) → AllHold bs gs cs → AllHold es hs cs
  all-more gs hs g [] k = tt
  all-more gs hs g (c ∷ cs) k = (holds-more (stands gs cs) (stands hs cs) (stands-more gs hs cs g) c k.0, all-more gs hs g cs k.1)

once-push : (bs : List Binding) (b : Binding) → is_bound_in bs b.x ≡ false → Once bs → Once (bs ++ b ∷ [])
once-push [] b e h = (refl, tt)
once-push (c ∷ cs) b e h =
    let q = or_parts (nat_eq c.x b.x) (is_bound_in cs b.x) e in
    (other cs (h.0) (flip q.0), once-push cs b q.1 h.1)
  where
    flip : nat_eq c.x b.x ≡ false → nat_eq b.x c.x ≡ false
    flip g = by (cases_Bool (nat_eq b.x c.x))
      where
        by : (nat_eq b.x c.x ≡ true) ⊎ (nat_eq b.x c.x ≡ false) → nat_eq b.x c.x ≡ false
        by (inl t) = absurd (true≢false (sym (eq-eqb c.x b.x (sym (eqb-true b.x c.x t))) ∙ g))
        by (inr t) = t

    other : (os : List Binding) → is_bound_in os c.x ≡ false → nat_eq b.x c.x ≡ false → is_bound_in (os ++ b ∷ []) c.x ≡ false
    other [] g k = or_from (nat_eq b.x c.x) false k refl
    other (o ∷ os) g k = let q = or_parts (nat_eq o.x c.x) (is_bound_in os c.x) g in or_from (nat_eq o.x c.x) (is_bound_in (os ++ b ∷ []) c.x) q.0 (other os q.1 k)

pub once-filter : (f : Binding → Bool) (bs : List Binding) → Once bs → Once (filter f bs)
once-filter f [] h = tt
once-filter f (b ∷ bs) h = by (f b) (once-filter f bs h.1)
  where
    fewer : (os : List Binding) → is_bound_in os b.x ≡ false → is_bound_in (filter f os) b.x ≡ false
    fewer [] e = refl
    fewer (o ∷ os) e = let q = or_parts (nat_eq o.x b.x) (is_bound_in os b.x) e in at (f o) q.0 (fewer os q.1)
      where
        at : (d : Bool) → nat_eq o.x b.x ≡ false → is_bound_in (filter f os) b.x ≡ false → is_bound_in (if d then o ∷ filter f os else filter f os) b.x ≡ false
        at true g k = or_from (nat_eq o.x b.x) (is_bound_in (filter f os) b.x) g k
        at false g k = k

    by : (d : Bool) → Once (filter f bs) → Once (if d then b ∷ filter f bs else filter f bs)
    by true rest = (fewer bs h.0, rest)
    by false rest = rest

module _ (made : List Made) (cs : List Cover) (bs : List Binding) (gs : List Con) (k : Core made cs bs gs) where
  pub core-made : (more : List Made) → ((w : ℕ) → Lone made w → Lone more w) → Core more cs bs gs
  core-made more f = record { once = k.once; lone = (λ w t. f w (k.lone w t)); plain = k.plain; rows = k.rows; covers = k.covers }

  -- a variable is bound that no given test reads to, or to an existential one
  pub core-push : (b : Binding) → is_bound_in bs b.x ≡ false → ((y : ℕ) → b.term ≡ Var y → Tested bs gs b.x → (is_bound_in (bs ++ b ∷ []) y ≡ false) × Lone made y) → Core made cs (bs ++ b ∷ []) gs
  core-push b free new = record {
    once = once-push bs b free k.once;
    lone = (λ w t. by w (tested-push bs gs b (Lone made) new w t));
    plain = k.plain;
    rows = rows-mapped bs (bs ++ b ∷ []) gs gs (tested-more bs (bs ++ b ∷ []) gs gs more (λ c i. i)) gs k.rows;
    covers = all-more bs (bs ++ b ∷ []) more gs gs (λ c i. i) cs k.covers;
  }
    where
      more : (c : Binding) → Contains bs c → Contains (bs ++ b ∷ []) c
      more c i = Contains-append_left bs (b ∷ []) c i

      by : (w : ℕ) → Tested bs gs w ⊎ ((is_bound_in (bs ++ b ∷ []) w ≡ false) × Lone made w) → Lone made w
      by w (inl t) = k.lone w t
      by w (inr q) = q.1

  pub core-given : (c : Con) → IsNoEquation c → RowIn bs (gs ++ c ∷ []) c → ((z : ℕ) → c ≡ con.Num (Var z) → (is_bound_in bs z ≡ false) × Lone made z) → Core made cs bs (gs ++ c ∷ [])
  core-given c n r new = record {
    once = k.once;
    lone = (λ w t. by w (tested-parts bs gs (c ∷ []) w t));
    plain = Each-append IsNoEquation gs (c ∷ []) k.plain (n, tt);
    rows = Each-append (RowIn bs (gs ++ c ∷ [])) gs (c ∷ []) (rows-mapped bs bs gs (gs ++ c ∷ []) (tested-more bs bs gs (gs ++ c ∷ []) (λ b i. i) more) gs k.rows) (r, tt);
    covers = all-more bs bs (λ b i. i) gs (gs ++ c ∷ []) more cs k.covers;
  }
    where
      more : (d : Con) → Contains gs d → Contains (gs ++ c ∷ []) d
      more d i = Contains-append_left gs (c ∷ []) d i

      by : (w : ℕ) → Tested bs gs w ⊎ Tested bs (c ∷ []) w → Lone made w
      by w (inl t) = k.lone w t
      by w (inr t) = (tested-free bs (c ∷ []) (Lone made) (λ z i. new z (Contains-single c (con.Num (Var z)) i)) w t).1

-- ---- a case that is parted

-- what holds of the constraints that stand down to depth d
abbrev pub At : ℕ → (List Con → Type 0) → List Con → List Cover → Type 0
At d P gs [] = ⊤
At d P gs (c ∷ cs) = (c.depth ≡ d → P (stands gs (c ∷ cs))) × At d P gs cs

pub at-always : (d : ℕ) (P : List Con → Type 0) (gs : List Con) (cs : List Cover) → ((l : List Con) → P l) → At d P gs cs
at-always d P gs [] f = tt
at-always d P gs (c ∷ cs) f = ((λ e. f (stands gs (c ∷ cs))), at-always d P gs cs f)

-- the covers of depth d have the variable among their universal ones
abbrev pub OwnedAt : ℕ → ℕ → List Cover → Type 0
OwnedAt d z cs = Each (λ c. c.depth ≡ d → among z c.universals ≡ true) cs

module _ (d : ℕ) (q : Parting) (bs : List Binding) (gs : List Con) where
  pub stands-parted : (cs : List Cover) (c : Con) → Contains (stands gs cs) c → Contains (stands gs (at_depth d (cover_parted q bs) cs)) c
  stands-parted [] c i = i
  stands-parted (o ∷ os) c i = by (nat_eq o.depth d) (Contains-append_cases (stands gs os) o.region c i) (λ j. stands-parted os c j)
    where
      by : (b : Bool) → Contains (stands gs os) c ⊎ Contains o.region c → (Contains (stands gs os) c → Contains (stands gs (at_depth d (cover_parted q bs) os)) c)
          → Contains (stands gs (at_depth d (cover_parted q bs) os) ++ (if b then cover_parted q bs o else o).region) c
      by true (inl j) rest = Contains-append_left (stands gs (at_depth d (cover_parted q bs) os)) (o.region ++ q.here ∷ []) c (rest j)
      by true (inr j) rest = Contains-append_right (stands gs (at_depth d (cover_parted q bs) os)) (o.region ++ q.here ∷ []) c (Contains-append_left o.region (q.here ∷ []) c j)
      by false (inl j) rest = Contains-append_left (stands gs (at_depth d (cover_parted q bs) os)) o.region c (rest j)
      by false (inr j) rest = Contains-append_right (stands gs (at_depth d (cover_parted q bs) os)) o.region c j

  -- the constraint stands in the cover that owns the variable
  pub stands-here : (cs : List Cover) (z : ℕ) → owns cs d z ≡ true → Contains (stands gs (at_depth d (cover_parted q bs) cs)) q.here
  stands-here [] z o = absurd (true≢false (sym o))
  stands-here (c ∷ cs) z o = by (nat_eq c.depth d) o (λ e. stands-here cs z e)
    where
      by : (b : Bool) → ((b && among z c.universals) || owns cs d z) ≡ true → (owns cs d z ≡ true → Contains (stands gs (at_depth d (cover_parted q bs) cs)) q.here)
          → Contains (stands gs (at_depth d (cover_parted q bs) cs) ++ (if b then cover_parted q bs c else c).region) q.here
      by true e rest =
          Contains-append_right (stands gs (at_depth d (cover_parted q bs) cs)) (c.region ++ q.here ∷ []) q.here
          (Contains-append_right c.region (q.here ∷ []) q.here (Contains-here q.here []))
      by false e rest = Contains-append_left (stands gs (at_depth d (cover_parted q bs) cs)) c.region q.here (rest e)

  module _ (fresh : (b : Binding) → Contains bs b → among b.x q.parts_here ≡ false) where
    pub off : (us : List ℕ) (b : Binding) → Contains bs b → among b.x us ≡ false → among b.x (us ++ q.parts_here) ≡ false
    off us b i e = by (cases_Bool (among b.x (us ++ q.parts_here)))
      where
        either : (among b.x us ≡ true) ⊎ (among b.x q.parts_here ≡ true) → among b.x (us ++ q.parts_here) ≡ false
        either (inl j) = absurd (true≢false (sym j ∙ e))
        either (inr j) = absurd (true≢false (sym j ∙ fresh b i))

        by : (among b.x (us ++ q.parts_here) ≡ true) ⊎ (among b.x (us ++ q.parts_here) ≡ false) → among b.x (us ++ q.parts_here) ≡ false
        by (inl j) = either (among-either b.x us q.parts_here j)
        by (inr j) = j

    older : (below more : List Con) → ((c : Con) → Contains below c → Contains more c) → (us : List ℕ) (r : Remainder) → Waits bs below us r → Waits bs more (us ++ q.parts_here) r
    older below more g us r k = record {
      tests = k.tests;
      rows = rows-mapped (unbound us r.replaced bs) (unbound (us ++ q.parts_here) r.replaced bs) (below ++ r.region) (more ++ r.region)
          (tested-more (unbound us r.replaced bs) (unbound (us ++ q.parts_here) r.replaced bs) (below ++ r.region) (more ++ r.region) kept (longer below more r.region r.region g (λ c i. i))) r.region k.rows;
    }
      where
        kept : (b : Binding) → Contains (unbound us r.replaced bs) b → Contains (unbound (us ++ q.parts_here) r.replaced bs) b
        kept b i = let o = stayed us r.replaced bs b i in by o.0 o.1
          where
            by : Contains bs b → (among b.x us ≡ false) ⊎ (among b.x r.replaced ≡ true) → Contains (unbound (us ++ q.parts_here) r.replaced bs) b
            by j (inl e) = stays (us ++ q.parts_here) r.replaced bs b j (inl (off us b j e))
            by j (inr e) = stays (us ++ q.parts_here) r.replaced bs b j (inr e)

    module _ (c : Cover) (below more : List Con) (g : (o : Con) → Contains below o → Contains more o) (k : Holds bs below c) (here : (z : ℕ) → q.here ≡ con.Num (Var z) → among z c.universals ≡ true)
        (there : (z : ℕ) → q.there ≡ con.Num (Var z) → among z c.universals ≡ true) (rows : RowIn bs (below ++ c.region) q.here × RowIn bs (below ++ c.region) q.there) where
      all-stay : (b : Binding) → Contains bs b → Contains (unbound (c.universals ++ q.parts_here) (filter (is_bound_in bs) c.universals) bs) b
      all-stay b i = stays (c.universals ++ q.parts_here) (filter (is_bound_in bs) c.universals) bs b i (by (cases_Bool (among b.x c.universals)))
        where
          by : (among b.x c.universals ≡ true) ⊎ (among b.x c.universals ≡ false) → (among b.x (c.universals ++ q.parts_here) ≡ false) ⊎ (among b.x (filter (is_bound_in bs) c.universals) ≡ true)
          by (inl e) = inr (filter-among (is_bound_in bs) b.x c.universals e (bound-there bs b b.x i refl))
          by (inr e) = inl (off c.universals b i e)

      rows-with : (o : Con) (es : List Binding) → ((b : Binding) → Contains bs b → Contains es b) → RowIn bs (below ++ c.region) o → Each (RowIn es (more ++ (c.region ++ o ∷ []))) (c.region ++ o ∷ [])
      rows-with o es f r = Each-append (RowIn es (more ++ (c.region ++ o ∷ []))) c.region (o ∷ []) (rows-mapped bs es (below ++ c.region) (more ++ (c.region ++ o ∷ [])) to c.region k.rows) (row-mapped bs es (below ++ c.region) (more ++ (c.region ++ o ∷ [])) to o r, tt)
        where
          to : (w : ℕ) → Tested bs (below ++ c.region) w → Tested es (more ++ (c.region ++ o ∷ [])) w
          to w t = tested-more bs es (below ++ c.region) (more ++ (c.region ++ o ∷ [])) f (longer below more c.region (c.region ++ o ∷ []) g (λ d i. Contains-append_left c.region (o ∷ []) d i)) w t

      tests-with : (o : Con) (us : List ℕ) → ((z : ℕ) → o ≡ con.Num (Var z) → among z c.universals ≡ true) → (z : ℕ) → Contains (c.region ++ o ∷ []) (con.Num (Var z)) → among z (c.universals ++ us) ≡ true
      tests-with o us f z i = among-left z c.universals us (by (Contains-append_cases c.region (o ∷ []) (con.Num (Var z)) i))
        where
          by : Contains c.region (con.Num (Var z)) ⊎ Contains (o ∷ []) (con.Num (Var z)) → among z c.universals ≡ true
          by (inl j) = k.tests z j
          by (inr j) = f z (Contains-single o (con.Num (Var z)) j)

      parted-holds : Holds bs more (cover_parted q bs c)
      parted-holds = record {
        tests = tests-with q.here q.parts_here here;
        rows = rows-with q.here bs (λ b i. i) rows.0;
        waiting = (
          record { tests = tests-with q.there q.parts_there there; rows = rows-with q.there (unbound (c.universals ++ q.parts_here) (filter (is_bound_in bs) c.universals) bs) all-stay rows.1 },
          Each-map (Waits bs below c.universals) (Waits bs more (c.universals ++ q.parts_here)) (older below more g c.universals) c.waiting k.waiting,
        );
      }

    abbrev BothIn : List Con → Type 0
    BothIn l = RowIn bs l q.here × RowIn bs l q.there

    pub all-parted : (cs : List Cover) → ((z : ℕ) → q.here ≡ con.Num (Var z) → OwnedAt d z cs) → ((z : ℕ) → q.there ≡ con.Num (Var z) → OwnedAt d z cs) → At d (λ l. RowIn bs l q.here × RowIn bs l q.there) gs cs → AllHold bs gs cs
        → AllHold bs gs (at_depth d (cover_parted q bs) cs)
    all-parted [] here there rows k = tt
    all-parted (c ∷ cs) here there rows k = (by (nat_eq c.depth d) refl, all-parted cs (λ z e. (here z e).1) (λ z e. (there z e).1) rows.1 k.1)
      where
        by : (b : Bool) → nat_eq c.depth d ≡ b → Holds bs (stands gs (at_depth d (cover_parted q bs) cs)) (if b then cover_parted q bs c else c)
        by true e =
            let same : c.depth ≡ d = eqb-true c.depth d e in
            parted-holds c (stands gs cs) (stands gs (at_depth d (cover_parted q bs) cs)) (stands-parted cs) k.0 (λ z f. (here z f).0 same) (λ z f. (there z f).0 same) (rows.0 same)
        by false e = holds-more bs bs (λ b i. i) (stands gs cs) (stands gs (at_depth d (cover_parted q bs) cs)) (stands-parted cs) c k.0
