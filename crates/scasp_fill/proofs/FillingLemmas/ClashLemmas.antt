-- Clash lines that are found show each pair apart that any clash line shows apart.
use Rattle.std.proofs.Common.{◌≡◌, ◌≢◌, ◌∙◌, ℕ, Bool, true, false, ◌&&◌, not, nat_eq, is_some, if◌then◌else◌, inl, inr, ◌⊎◌, Option, None, Some, List, [], ◌∷◌, map, filter, refl, ap, sym, subst}
use Rattle.std.specs.List.{Contains}
use Rattle.std.proofs.lemmas.Bool.{and_parts, and_from, or_cases, or_left, or_right}
use Rattle.std.proofs.lemmas.Bool.Decides.{Decides-eqb}
use Rattle.std.proofs.lemmas.List.Elements.{Contains-append_cases}
use Rattle.scasp_list.proofs.MemberLemmas.{Contains-none, Contains-here, Contains-there, Contains-single, Contains-cases, Contains-from_map, Contains-flat_map, Contains-from_flat_map, Contains-from_filter}
use Rattle.scasp_syntax.specs.Programs.{numbered, pred_of}
use Rattle.scasp_syntax.specs.Same.{same_bool, same_pred}
use Rattle.scasp_syntax.specs.declared.con.Con.{Con}
use Rattle.scasp_syntax.specs.declared.hint.Hint.{Hint}
use Rattle.scasp_syntax.specs.declared.hint.Hint.TheVariants as hints
use Rattle.scasp_syntax.specs.declared.program.Program.{Program}
use Rattle.scasp_cert.specs.Certificate.{Certificate}
use Rattle.scasp_cert.specs.Trees.{pos_tree, neg_tree, loop_tree, seen_tree, test_tree}
use Rattle.scasp_cert.specs.declared.certificate.Clash.{Clash}
use Rattle.scasp_hint.specs.AskedRows.{RowsNormal}
use Rattle.scasp_hint.specs.Finding.{Found, hint, nothing, unknown_list}
use Rattle.scasp_hint_steps.specs.Pruned.{found_pruned}
use Rattle.scasp_hint.specs.Showing.{fault_of}
use Rattle.scasp_hint.specs.declared.fault.HintFault.{HintFault}
use Rattle.scasp_hint_steps.proofs.FoundLemmas.{pruned-shows, pruned-unshown}
use Rattle.scasp_lines.specs.Lines.{free_of, lines}
use Rattle.scasp_lines.specs.Walk.{Part, of_node, of_rule, of_check, of_case, Line}
use Rattle.scasp_lines.proofs.WalkLemmas.{line-found}
use Rattle.scasp_graph.proofs.PredLemmas.{same_pred-sym}
use Rattle.scasp_checker_rules.specs.Accepted.{AreApart, IsOfPair}
use Rattle.scasp_checker_rules.specs.PairLists.{pair_list}
use Rattle.scasp_checker_rules.specs.Pairs.{all_pairs, is_pair, is_clash_at, clash_of, clash_list, told_on}
use Rattle.scasp_checker_rules.specs.Told.{Told, told_at, all_told}
use Rattle.scasp_checker_rules.proofs.TestLemmas.{bool_decided}
use Rattle.scasp_fill.specs.Filling.Filled.{hint_of, clash_by, clash_or, clash_for, clashes_found, is_either_known}
use Rattle.scasp_fill.specs.Filling.Hinted.{shown_by}

-- ---- equal numbers

same-number : (a b : ℕ) → nat_eq a b ≡ true → a ≡ b
same-number a b = (Decides-eqb a b).0

number-same : (a b : ℕ) → a ≡ b → nat_eq a b ≡ true
number-same a b = (Decides-eqb a b).1

-- ---- a literal is found by its line

told_on-some : (ts : List Told) (a : Told) → Contains ts a → (b : Told) × (told_on a.at ts ≡ Some b) × Contains ts b × (b.at ≡ a.at)
told_on-some [] a h = absurd (Contains-none a h)
told_on-some (t ∷ ts) a h = by (nat_eq t.at a.at) refl (told_on-some ts a)
  where
    later : (b : Told) × (told_on a.at ts ≡ Some b) × Contains ts b × (b.at ≡ a.at)
        → nat_eq t.at a.at ≡ false → (b : Told) × (told_on a.at (t ∷ ts) ≡ Some b) × Contains (t ∷ ts) b × (b.at ≡ a.at)
    later r e = (r.0, rw e r.1, Contains-there t ts r.0 r.2, r.3)

    by : (test : Bool) → nat_eq t.at a.at ≡ test → (Contains ts a → (b : Told) × (told_on a.at ts ≡ Some b) × Contains ts b × (b.at ≡ a.at))
        → (b : Told) × (told_on a.at (t ∷ ts) ≡ Some b) × Contains (t ∷ ts) b × (b.at ≡ a.at)
    by true e rest = (t, rw e refl, Contains-here t ts, same-number t.at a.at e)
    by false e rest = elim (Contains-cases t ts a h) [ inl s ↦ (let q = number-same t.at a.at (ap (λ (x : Told). x.at) s) in cc) | inr k ↦ later (rest k) e ]

-- ---- members of pairs

pub pairs-members : (ts : List Told) (ab : Told × Told) → Contains (all_pairs ts) ab → Contains ts ab.0 × Contains ts ab.1 × (is_pair ab.0 ab.1 ≡ true)
pairs-members [] ab h = absurd (Contains-none ab h)
pairs-members (t ∷ ts) ab h = elim (Contains-append_cases (map (λ b. (t, b)) (filter (is_pair t) ts)) (all_pairs ts) ab h) [
  | inl k ↦
      (let m = Contains-from_map (λ (b : Told). (t, b)) (filter (is_pair t) ts) ab k in
      let i = Contains-from_filter (is_pair t) ts m.0 m.1 in
      let e : (t, m.0) ≡ ab = m.2 in
      let x : t ≡ ab.0 = ap (λ (z : Told × Told). z.0) e in
      let y : m.0 ≡ ab.1 = ap (λ (z : Told × Told). z.1) e in (
        subst (λ (z : Told). Contains (t ∷ ts) z) x (Contains-here t ts),
        subst (λ (z : Told). Contains (t ∷ ts) z) y (Contains-there t ts m.0 i.0),
        subst (λ (z : Told). is_pair ab.0 z ≡ true) y (subst (λ (z : Told). is_pair z m.0 ≡ true) x i.1),
      ))
  | inr k ↦ (let m = pairs-members ts ab k in (Contains-there t ts ab.0 m.0, Contains-there t ts ab.1 m.1, m.2))
]

pair-turned : (a b : Told) → is_pair a b ≡ true → is_pair b a ≡ true
pair-turned a b e =
    let q = and_parts (not (same_bool a.positive b.positive)) (same_pred (pred_of a.atom) (pred_of b.atom)) e in
    and_from _ _ (turned a.positive b.positive q.0) (same_pred-sym (pred_of b.atom) (pred_of a.atom) ∙ q.1)
  where
    turned : (x y : Bool) → not (same_bool x y) ≡ true → not (same_bool y x) ≡ true
    turned true true e = e
    turned true false e = e
    turned false true e = e
    turned false false e = e

-- ---- the first clash line of two lines

clash-some : (i j : ℕ) (ks : List Clash) (k : Clash) → Contains ks k → is_clash_at i j k ≡ true
    → (c : Clash) × (clash_of i j ks ≡ Some c) × Contains ks c × (is_clash_at i j c ≡ true)
clash-some i j [] k h e = absurd (Contains-none k h)
clash-some i j (x ∷ ks) k h e = by (is_clash_at i j x) refl (λ m. clash-some i j ks k m e)
  where
    later : (c : Clash) × (clash_of i j ks ≡ Some c) × Contains ks c × (is_clash_at i j c ≡ true)
        → is_clash_at i j x ≡ false → (c : Clash) × (clash_of i j (x ∷ ks) ≡ Some c) × Contains (x ∷ ks) c × (is_clash_at i j c ≡ true)
    later r f = (r.0, rw f r.1, Contains-there x ks r.0 r.2, r.3)

    by : (test : Bool) → is_clash_at i j x ≡ test → (Contains ks k → (c : Clash) × (clash_of i j ks ≡ Some c) × Contains ks c × (is_clash_at i j c ≡ true))
        → (c : Clash) × (clash_of i j (x ∷ ks) ≡ Some c) × Contains (x ∷ ks) c × (is_clash_at i j c ≡ true)
    by true f rest = (x, rw f refl, Contains-here x ks, f)
    by false f rest = elim (Contains-cases x ks k h) [ inl s ↦ (let q : is_clash_at i j x ≡ true = rw s e in cc) | inr m ↦ later (rest m) f ]

-- ---- what is found

hint-found : (o : Found) (h : Hint) → hint_of o ≡ Some h → o ≡ hint h
hint-found nothing h e = cc
hint-found unknown_list h e = cc
hint-found (hint k) h e = let s : k ≡ h = cc in ap hint s

module _ (free : ℕ) (given : List Con) where
  -- The clash line is of these two literals, and its hint is the one that is found for their list.
  pub record ClashOf (a b : Told) (k : Clash) : Type 0 where
    pub first : k.first ≡ a.at
    pub second : k.second ≡ b.at
    pub hinted : found_pruned (pair_list free given a b) ≡ hint k.hint

  by-hint : (a b : Told) (o : Option Hint) (k : Clash) → hint_of (found_pruned (pair_list free given a b)) ≡ o → Contains (clash_by a.at b.at o) k → ClashOf a b k
  by-hint a b None k e h = absurd (Contains-none k h)
  by-hint a b (Some x) k e h =
      let s = Contains-single _ k h in
      record {
        first = ap (λ (c : Clash). c.first) (sym s);
        second = ap (λ (c : Clash). c.second) (sym s);
        hinted = hint-found _ x e ∙ ap (λ (c : Clash). hint c.hint) s;
      }

  by-either : (a b : Told) (o : Option Hint) (k : Clash) → hint_of (found_pruned (pair_list free given a b)) ≡ o
      → Contains (clash_or a.at b.at o (clash_by b.at a.at (hint_of (found_pruned (pair_list free given b a))))) k → ClashOf a b k ⊎ ClashOf b a k
  by-either a b None k e h = inr (by-hint b a _ k refl h)
  by-either a b (Some x) k e h = inl (by-hint a b (Some x) k e h)

  abbrev either : Told → Told → List Clash
  either a b = clash_or a.at b.at (hint_of (found_pruned (pair_list free given a b))) (clash_by b.at a.at (hint_of (found_pruned (pair_list free given b a))))

  clash-from : (a b : Told) (k : Clash) → Contains (clash_for free given (a, b)) k → ClashOf a b k ⊎ ClashOf b a k
  clash-from a b k h = by (is_some (fault_of (pair_list free given a b) hints.Terms)) h
    where
      by : (test : Bool) → Contains (if test then either a b else []) k → ClashOf a b k ⊎ ClashOf b a k
      by true m = by-either a b _ k refl m
      by false m = absurd (Contains-none k m)

module _ (p : Program) (c : Certificate) where
  abbrev ts : List Told
  ts = all_told (lines p c)

  abbrev apart_list : Told → Told → List Con
  apart_list a b = pair_list (free_of c) c.given a b

  -- ---- one literal a line

  told-alone : (l : Line) (a : Told) → Contains (told_at l) a → (told_at l ≡ a ∷ []) × (a.at ≡ l.at)
  told-alone l a h = by l.part h
    where
      by : (part : Part) → Contains (told_at (record l { part = part })) a → (told_at (record l { part = part }) ≡ a ∷ []) × (a.at ≡ l.at)
      by (of_node due (pos_tree b k us children)) m = let s = Contains-single _ a m in (ap (λ (x : Told). x ∷ []) s, ap (λ (x : Told). x.at) (sym s))
      by (of_node due (neg_tree b covers)) m = let s = Contains-single _ a m in (ap (λ (x : Told). x ∷ []) s, ap (λ (x : Told). x.at) (sym s))
      by (of_node due (loop_tree lit to)) m = absurd (Contains-none a m)
      by (of_node due (seen_tree lit to)) m = absurd (Contains-none a m)
      by (of_node due (test_tree con shown)) m = absurd (Contains-none a m)
      by (of_rule k b x) m = absurd (Contains-none a m)
      by (of_check k x) m = absurd (Contains-none a m)
      by (of_case body x) m = absurd (Contains-none a m)

  told-unique : (a b : Told) → Contains ts a → Contains ts b → a.at ≡ b.at → a ≡ b
  told-unique a b h k e =
      let x = Contains-from_flat_map told_at (lines p c) a h in
      let y = Contains-from_flat_map told_at (lines p c) b k in
      let u = told-alone x.0 a x.2 in
      let v = told-alone y.0 b y.2 in
      let same : numbered (lines p c) x.0.at ≡ numbered (lines p c) y.0.at = ap (numbered (lines p c)) (sym u.1 ∙ e ∙ v.1) in
      let q : Some x.0 ≡ Some y.0 = sym (line-found p.clauses p.queries c x.0 x.1) ∙ same ∙ line-found p.clauses p.queries c y.0 y.1 in
      let l : x.0 ≡ y.0 = cc in
      let w : a ∷ [] ≡ b ∷ [] = sym u.0 ∙ ap told_at l ∙ v.0 in cc

  told_on-is : (a : Told) → Contains ts a → told_on a.at ts ≡ Some a
  told_on-is a h = let b = told_on-some ts a h in b.1 ∙ ap Some (told-unique b.0 a b.2 h b.3)

  not-paired : (a b : Told) → Contains ts a → Contains ts b → is_pair a b ≡ true → a.at ≢ b.at
  not-paired a b h k e s =
      let u = told-unique a b h k s in
      let q = and_parts (not (same_bool a.positive b.positive)) (same_pred (pred_of a.atom) (pred_of b.atom)) e in
      let r : same_bool a.positive b.positive ≡ true = (bool_decided a.positive b.positive).1 (ap (λ (x : Told). x.positive) u) in
      let z : not (same_bool a.positive b.positive) ≡ false = rw r refl in cc

  -- ---- a clash line that is found serves its pair

  -- it is of two literals of the certificate, a pair in one order or the other
  record Comes (k : Clash) : Type 0 where
    one : Told
    other : Told
    one_there : Contains ts one
    other_there : Contains ts other
    pair : (is_pair one other ≡ true) ⊎ (is_pair other one ≡ true)
    clash : ClashOf (free_of c) c.given one other k

  comes : (k : Clash) → Contains (clashes_found p c) k → Comes k
  comes k h =
      let x = Contains-from_flat_map (clash_for (free_of c) c.given) (all_pairs ts) k h in
      let m = pairs-members ts x.0 x.1 in
      elim (clash-from (free_of c) c.given x.0.0 x.0.1 k x.2) [
        | inl s ↦ record { one = x.0.0; other = x.0.1; one_there = m.0; other_there = m.1; pair = inl m.2; clash = s }
        | inr s ↦ record { one = x.0.1; other = x.0.0; one_there = m.1; other_there = m.0; pair = inr m.2; clash = s }
      ]

  module _ (normal : (ab : Told × Told) → Contains (all_pairs ts) ab → RowsNormal (apart_list ab.0 ab.1) × RowsNormal (apart_list ab.1 ab.0)) where
    -- the list of a pair that a clash line names
    shown-there : (a b : Told) (k : Clash) → Contains (all_pairs ts) (a, b) → Contains ts a → Contains ts b → a.at ≢ b.at
        → Comes k → is_clash_at a.at b.at k ≡ true → fault_of (clash_list (free_of c) c.given a b k) k.hint ≡ None
    shown-there a b k i ha hb apart m e = by (nat_eq k.first a.at) refl
      where
        straight : k.first ≡ a.at → k.second ≡ b.at → fault_of (apart_list a b) k.hint ≡ None
        straight f s =
            let x = told-unique m.one a m.one_there ha (sym m.clash.first ∙ f) in
            let y = told-unique m.other b m.other_there hb (sym m.clash.second ∙ s) in
            let q : found_pruned (apart_list a b) ≡ hint k.hint =
            subst (λ (z : Told). found_pruned (apart_list a z) ≡ hint k.hint) y (subst (λ (z : Told). found_pruned (apart_list z m.other) ≡ hint k.hint) x m.clash.hinted) in
            pruned-shows (apart_list a b) k.hint (normal (a, b) i).0 q

        turned : k.first ≡ b.at → k.second ≡ a.at → fault_of (apart_list b a) k.hint ≡ None
        turned f s =
            let x = told-unique m.one b m.one_there hb (sym m.clash.first ∙ f) in
            let y = told-unique m.other a m.other_there ha (sym m.clash.second ∙ s) in
            let q : found_pruned (apart_list b a) ≡ hint k.hint =
            subst (λ (z : Told). found_pruned (apart_list b z) ≡ hint k.hint) y (subst (λ (z : Told). found_pruned (apart_list z m.other) ≡ hint k.hint) x m.clash.hinted) in
            pruned-shows (apart_list b a) k.hint (normal (a, b) i).1 q

        lines_named : (k.first ≡ a.at) × (k.second ≡ b.at) ⊎ (k.first ≡ b.at) × (k.second ≡ a.at)
        lines_named = elim (or_cases (nat_eq k.first a.at && nat_eq k.second b.at) (nat_eq k.first b.at && nat_eq k.second a.at) e) [
          | inl x ↦ (let q = and_parts (nat_eq k.first a.at) (nat_eq k.second b.at) x in inl (same-number k.first a.at q.0, same-number k.second b.at q.1))
          | inr x ↦ (let q = and_parts (nat_eq k.first b.at) (nat_eq k.second a.at) x in inr (same-number k.first b.at q.0, same-number k.second a.at q.1))
        ]

        by : (test : Bool) → nat_eq k.first a.at ≡ test → fault_of (clash_list (free_of c) c.given a b k) k.hint ≡ None
        by true f = rw f (elim lines_named [
          | inl n ↦ straight n.0 n.1
          | inr n ↦ absurd (apart (sym (same-number k.first a.at f) ∙ n.0))
        ])
        by false f = rw f (elim lines_named [
          | inl n ↦ (let q : nat_eq k.first a.at ≡ true = number-same k.first a.at n.0 in cc)
          | inr n ↦ turned n.0 n.1
        ])

    -- one of them is of these two lines
    abbrev HasClash : Told → Told → List Clash → Type 0
    HasClash a b ks = (k : Clash) × Contains ks k × (is_clash_at a.at b.at k ≡ true)

    some-is : (o : Option HintFault) → o ≢ None → is_some o ≡ true
    some-is None e = absurd (e refl)
    some-is (Some why) e = refl

    -- where some hint shows the pair apart, in either order, the clash lines that are found do
    clash-serves : (a b : Told) (h : Hint) → Contains (all_pairs ts) (a, b) → is_either_known (found_pruned (apart_list a b)) (found_pruned (apart_list b a)) ≡ true
        → fault_of (apart_list a b) hints.Terms ≢ None
        → (fault_of (apart_list a b) h ≡ None) ⊎ (fault_of (apart_list b a) h ≡ None)
        → HasClash a b (clash_for (free_of c) c.given (a, b))
    clash-serves a b h i known terms shown = there (found_pruned (apart_list a b)) refl (found_pruned (apart_list b a)) refl
      where
        asked : is_some (fault_of (apart_list a b) hints.Terms) ≡ true
        asked = some-is (fault_of (apart_list a b) hints.Terms) terms

        one_way : (x : Hint) → HasClash a b (record { first = a.at; second = b.at; hint = x } ∷ [])
        one_way x = (record { first = a.at; second = b.at; hint = x }, Contains-here _ [], or_left _ _ (and_from _ _ (number-same a.at a.at refl) (number-same b.at b.at refl)))

        other_way : (x : Hint) → HasClash a b (record { first = b.at; second = a.at; hint = x } ∷ [])
        other_way x = (record { first = b.at; second = a.at; hint = x }, Contains-here _ [], or_right _ _ (and_from _ _ (number-same b.at b.at refl) (number-same a.at a.at refl)))

        unknown : {o u : Found} → found_pruned (apart_list a b) ≡ o → found_pruned (apart_list b a) ≡ u → is_either_known (found_pruned (apart_list a b)) (found_pruned (apart_list b a)) ≡ true → is_either_known o u ≡ true
        unknown e f k = (λ i. is_either_known (sym e i) (sym f i)) ∙ k

        there : (o : Found) → found_pruned (apart_list a b) ≡ o → (u : Found) → found_pruned (apart_list b a) ≡ u → HasClash a b (clash_for (free_of c) c.given (a, b))
        there (hint x) e u f = rw (asked, e) (one_way x)
        there unknown_list e (hint x) f = rw (asked, e, f) (other_way x)
        there unknown_list e nothing f = (let k = unknown e f known in cc)
        there unknown_list e unknown_list f = (let k = unknown e f known in cc)
        there nothing e (hint x) f = rw (asked, e, f) (other_way x)
        there nothing e unknown_list f = (let k = unknown e f known in cc)
        there nothing e nothing f = elim shown [
          | inl s ↦ absurd (pruned-unshown (apart_list a b) h (normal (a, b) i).0 e s)
          | inr s ↦ absurd (pruned-unshown (apart_list b a) h (normal (a, b) i).1 f s)
        ]

    -- the list that a clash line shows is one of the two
    shown-either : (a b : Told) (k : Clash) → fault_of (clash_list (free_of c) c.given a b k) k.hint ≡ None
        → (fault_of (apart_list a b) k.hint ≡ None) ⊎ (fault_of (apart_list b a) k.hint ≡ None)
    shown-either a b k e = by (nat_eq k.first a.at) e
      where
        by : (test : Bool) → fault_of (if test then apart_list a b else apart_list b a) k.hint ≡ None
            → (fault_of (apart_list a b) k.hint ≡ None) ⊎ (fault_of (apart_list b a) k.hint ≡ None)
        by true f = inl f
        by false f = inr f

    -- a pair that is shown apart with some clash lines is shown apart with those that are found
    pub pair-serves : (f g : ℕ → Hint) (ks : List Clash) (a b : Told) → Contains (all_pairs ts) (a, b) → is_either_known (found_pruned (apart_list a b)) (found_pruned (apart_list b a)) ≡ true
        → AreApart (shown_by f ks c) (a, b) → AreApart (shown_by g (clashes_found p c) c) (a, b)
    pair-serves f g ks a b i known h = by (fault_of (apart_list a b) hints.Terms) refl h
      where
        by : (o : Option HintFault) → fault_of (apart_list a b) hints.Terms ≡ o → AreApart (shown_by f ks c) (a, b) → AreApart (shown_by g (clashes_found p c) c) (a, b)
        by None e s = inl e
        by (Some why) e (inl n) = cc
        by (Some why) e (inr s) =
            let m = pairs-members ts (a, b) i in
            let w = clash-serves a b s.clash.hint i known (λ n. cc) (shown-either a b s.clash s.shown) in
            let z = clash-some a.at b.at (clashes_found p c) w.0 (Contains-flat_map (clash_for (free_of c) c.given) (all_pairs ts) (a, b) w.0 i w.1) w.2 in
            inr (record { clash = z.0; found = z.1; shown = shown-there a b z.0 i m.0 m.1 (not-paired a b m.0 m.1 m.2) (comes z.0 z.2) z.3 })

  pub clash-paired : (k : Clash) → Contains (clashes_found p c) k → IsOfPair ts k
  clash-paired k h =
      let m = comes k h in
      record {
        first = m.one;
        first_found = ap (λ n. told_on n ts) m.clash.first ∙ told_on-is m.one m.one_there;
        second = m.other;
        second_found = ap (λ n. told_on n ts) m.clash.second ∙ told_on-is m.other m.other_there;
        pair = elim m.pair [ inl e ↦ e | inr e ↦ pair-turned m.other m.one e ];
      }
