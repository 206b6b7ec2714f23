-- A certificate is accepted with the hints and clash lines that are found, where it is with any.
use Rattle.std.proofs.Common.{◌≡◌, ◌∙◌, ℕ, ◌+◌, ◌<◌, max, nat_lt, arith, Bool, true, false, None, List, [], ◌∷◌, ◌++◌, map, refl, ap, sym, subst}
use Rattle.std.specs.List.{Contains, list_all}
use Rattle.std.proofs.lemmas.Bool.{and_parts, cond_both, ltb-true}
use Rattle.scasp_list.specs.Each.{Each}
use Rattle.scasp_list.proofs.MemberLemmas.{Contains-none, Contains-here, Contains-there, Contains-single, Contains-map, Contains-flat_map, Contains-from_flat_map, list_all-member}
use Rattle.scasp_syntax.specs.declared.con.Con.{Con}
use Rattle.scasp_syntax.specs.declared.con.Con.TheVariants as con
use Rattle.scasp_syntax.specs.Tm.{Tms, nil, cons}
use Rattle.scasp_syntax.specs.Values.{all_under}
use Rattle.scasp_syntax.specs.declared.hint.Hint.{Hint}
use Rattle.scasp_syntax.specs.declared.program.Program.{Program}
use Rattle.scasp_unify.specs.Negations.{negated}
use Rattle.scasp_cert.specs.Certificate.{Certificate}
use Rattle.scasp_cert.specs.Skeleton.{skeleton}
use Rattle.scasp_cert.specs.Trees.{pos_tree, neg_tree, loop_tree, seen_tree, test_tree, split, void, leaf, head, listed}
use Rattle.scasp_cert.specs.declared.certificate.Clash.{Clash}
use Rattle.scasp_hint.specs.AskedRows.{RowsNormal}
use Rattle.scasp_hint.specs.Finding.{Found, hint, nothing, unknown_list}
use Rattle.scasp_hint_steps.specs.Pruned.{found_pruned}
use Rattle.scasp_hint.specs.Showing.{fault_of}
use Rattle.scasp_hint_steps.proofs.FoundLemmas.{pruned-shows, pruned-unshown}
use Rattle.scasp_lines.specs.Below.{count}
use Rattle.scasp_lines.specs.Contexts.{context}
use Rattle.scasp_lines.specs.Lines.{free_of, lines, setting}
use Rattle.scasp_lines.specs.Walk.{Part, of_node, of_rule, of_check, of_case, Line, Setting}
use Rattle.scasp_lines.proofs.WalkLemmas.{line-found}
use Rattle.scasp_checker_rules.specs.Accepted.{LineHolds, AreApart, IsOfPair, AcceptsWhere}
use Rattle.scasp_checker_rules.specs.Normality.{AreRowsNormal, LineNormal, on_part}
use Rattle.scasp_checker_rules.specs.PairLists.{pair_list, above_cons, above_all, con_raised, raising, raised_from, equal_args}
use Rattle.scasp_checker_rules.specs.Pairs.{all_pairs}
use Rattle.scasp_checker_rules.specs.Told.{Told, told_at, all_told}
use Rattle.scasp_checker_rules.specs.Wholes.{Whole, whole_of}
use Rattle.scasp_checker_rules.proofs.CaseLemmas.{line-holds, line-none}
use Rattle.scasp_unify.proofs.Members.{Each-from, Each-member}
use Rattle.scasp_checker_rules.proofs.RenamedRows.{renamed-normal}
use Rattle.scasp_checker_rules.proofs.TestLemmas.{lt-is}
use Rattle.scasp_checker_rules.specs.LineFaults.{line_faults}
use Rattle.scasp_checker_rules.proofs.NormalityLemmas.{normal-append, negated-normal, context-normal, opened-normal}
use Rattle.scasp_search_rules.specs.Successors.Answers.{hint_lists, part_lists}
use Rattle.scasp_fill.specs.Filling.Filled.{hint_of, or_terms, hint_for, hint_at, found_on, clashes_found, filled, is_known, is_pair_known, is_filling_known}
use Rattle.scasp_fill.specs.Filling.Hinted.{trees_hinted, shown_by}
use Rattle.scasp_fill.proofs.FillingLemmas.HintedLemmas.{same-count, listed-hinted}
use Rattle.scasp_fill.proofs.FillingLemmas.WalkLemmas.{line_hinted, same-setting, lines-hinted}
use Rattle.scasp_fill.proofs.FillingLemmas.OwnLemmas.{own, as-own}
use Rattle.scasp_fill.proofs.FillingLemmas.LineLemmas.{whole, line-shown, line-serves, all_told-same}
use Rattle.scasp_fill.proofs.FillingLemmas.ClashLemmas.{pair-serves, clash-paired, pairs-members}

-- ---- each member of a mapped list

each-map : {A B : Type 0} → (h : A → B) (P : B → Type 0) (xs : List A) → ((x : A) → Contains xs x → P (h x)) → Each P (map h xs)
each-map h P [] f = tt
each-map h P (x ∷ xs) f = (f x (Contains-here x xs), each-map h P xs (λ y i. f y (Contains-there x xs y i)))

-- ---- a list that is asked has a hint

list-found : (cs : List Con) (h : Hint) → RowsNormal cs → is_known (found_pruned cs) ≡ true → fault_of cs h ≡ None → fault_of cs (or_terms (hint_of (found_pruned cs))) ≡ None
list-found cs h n known e = by (found_pruned cs) refl
  where
    by : (o : Found) → found_pruned cs ≡ o → fault_of cs (or_terms (hint_of (found_pruned cs))) ≡ None
    by nothing f = absurd (pruned-unshown cs h n f e)
    by unknown_list f = let k = ap is_known f in cc
    by (hint k) f = rw f (pruned-shows cs k n f)

-- ---- rows stay in normal form

raised-lt : (free by x y : ℕ) → x < y → raised_from free by x < raised_from free by y
raised-lt free by x y l =
    cond_both (nat_lt x free) x (x + by) (λ a. a < raised_from free by y)
    (λ e. cond_both (nat_lt y free) y (y + by) (λ b. x < b) (λ _. l) (λ _. omega (arith, l)))
    (λ e. cond_both (nat_lt y free) y (y + by) (λ b. x + by < b)
    (λ f. (let q = ltb-true y free f in absurd (not-lt x free e (omega (arith, q, l))))) (λ _. omega (arith, l)))
  where
    not-lt : (x n : ℕ) → nat_lt x n ≡ false → x < n → ⊥
    not-lt x n e l = let t = lt-is x n l in cc

raised-normal : (free by : ℕ) (cs : List Con) → RowsNormal cs → RowsNormal (map (con_raised free by) cs)
raised-normal free by [] h = tt
raised-normal free by (con.Row r ∷ cs) h = (renamed-normal (raised_from free by) (raised-lt free by) r h.0, raised-normal free by cs h.1)
raised-normal free by (con.Eq t u ∷ cs) h = raised-normal free by cs h
raised-normal free by (con.Neq t u ∷ cs) h = raised-normal free by cs h
raised-normal free by (con.NotShape x f n ∷ cs) h = raised-normal free by cs h
raised-normal free by (con.Num t ∷ cs) h = raised-normal free by cs h
raised-normal free by (con.NotNum t ∷ cs) h = raised-normal free by cs h

args-normal : (ts us : Tms) → RowsNormal (equal_args ts us)
args-normal nil us = tt
args-normal (cons t ts) nil = tt
args-normal (cons t ts) (cons u us) = args-normal ts us

pair-rows : (free : ℕ) (given : List Con) (a b : Told) → RowsNormal (context given a.opened) → RowsNormal (context [] b.opened) → RowsNormal (pair_list free given a b)
pair-rows free given a b na nb =
    let first = context given a.opened in
    let second = context [] b.opened in
    let by = max (above_cons first) (above_all a.atom.args) in
    let args = equal_args a.atom.args (all_under (raising free by) b.atom.args) in
    normal-append (first ++ map (con_raised free by) second) args
    (normal-append first (map (con_raised free by) second) na (raised-normal free by second nb)) (args-normal a.atom.args (all_under (raising free by) b.atom.args))

module _ (p : Program) (c : Certificate) (normal : AreRowsNormal p c) where
  opened-there : (l : Line) → Contains (lines p c) l → RowsNormal (context c.given l.here.opened)
  opened-there l h = context-normal c.given l.here.opened normal.given (opened-normal p c (λ k i. Each-member LineNormal (lines p c) k normal.lines_normal i) l h)

  opened-alone : (l : Line) → Contains (lines p c) l → RowsNormal (context [] l.here.opened)
  opened-alone l h = context-normal [] l.here.opened tt (opened-normal p c (λ k i. Each-member LineNormal (lines p c) k normal.lines_normal i) l h)

  pub lists-normal : (l : Line) → Contains (lines p c) l → (cs : List Con) → Contains (part_lists c.given l.here l.part) cs → RowsNormal cs
  lists-normal l h cs i = by l.part (Each-member LineNormal (lines p c) l normal.lines_normal h) i
    where
      by : (part : Part) → RowsNormal (on_part part) → Contains (part_lists c.given l.here part) cs → RowsNormal cs
      by (of_node due (pos_tree a k ts children)) n m = absurd (Contains-none cs m)
      by (of_node due (neg_tree a covers)) n m = absurd (Contains-none cs m)
      by (of_node due (loop_tree lit to)) n m = absurd (Contains-none cs m)
      by (of_node due (seen_tree lit to)) n m = absurd (Contains-none cs m)
      by (of_node due (test_tree d shown)) n m =
          subst RowsNormal (Contains-single _ cs m) (normal-append (context c.given l.here.opened) (negated l.here.hidden d ∷ []) (opened-there l h) (negated-normal l.here.hidden d n))
      by (of_rule k a b) n m = absurd (Contains-none cs m)
      by (of_check k b) n m = absurd (Contains-none cs m)
      by (of_case body (split d one two)) n m = absurd (Contains-none cs m)
      by (of_case body (void shown)) n m = subst RowsNormal (Contains-single _ cs m) (opened-there l h)
      by (of_case body (leaf k children)) n m = absurd (Contains-none cs m)
      by (of_case body (head children)) n m = absurd (Contains-none cs m)

  one-list : (l : Line) (cs : List Con) → Contains (part_lists c.given l.here l.part) cs → part_lists c.given l.here l.part ≡ cs ∷ []
  one-list l cs i = by l.part i
    where
      by : (part : Part) → Contains (part_lists c.given l.here part) cs → part_lists c.given l.here part ≡ cs ∷ []
      by (of_node due (pos_tree a k ts children)) m = absurd (Contains-none cs m)
      by (of_node due (neg_tree a covers)) m = absurd (Contains-none cs m)
      by (of_node due (loop_tree lit to)) m = absurd (Contains-none cs m)
      by (of_node due (seen_tree lit to)) m = absurd (Contains-none cs m)
      by (of_node due (test_tree d shown)) m = ap (λ (x : List Con). x ∷ []) (Contains-single _ cs m)
      by (of_rule k a b) m = absurd (Contains-none cs m)
      by (of_check k b) m = absurd (Contains-none cs m)
      by (of_case body (split d one two)) m = absurd (Contains-none cs m)
      by (of_case body (void shown)) m = ap (λ (x : List Con). x ∷ []) (Contains-single _ cs m)
      by (of_case body (leaf k children)) m = absurd (Contains-none cs m)
      by (of_case body (head children)) m = absurd (Contains-none cs m)

  -- the hint that is found for a line shows the list that the line asks, where any hint does
  hint-serves : (l : Line) → Contains (lines p c) l → (cs : List Con) → Contains (part_lists c.given l.here l.part) cs → is_known (found_pruned cs) ≡ true
      → (h : Hint) → fault_of cs h ≡ None → fault_of cs (found_on p c l.at) ≡ None
  hint-serves l i cs m known h e =
      let n : found_on p c l.at ≡ or_terms (hint_of (found_pruned cs)) = ap (hint_at c.given) (line-found p.clauses p.queries c l i) ∙ ap hint_for (one-list l cs m) in
      rw n (list-found cs h (lists-normal l i cs m) known e)

  told-line : (a : Told) → Contains (all_told (lines p c)) a → (l : Line) × Contains (lines p c) l × (a.opened ≡ l.here.opened)
  told-line a h =
      let x = Contains-from_flat_map told_at (lines p c) a h in (x.0, x.1, opened-same x.0 a x.2)
    where
      opened-same : (l : Line) (a : Told) → Contains (told_at l) a → a.opened ≡ l.here.opened
      opened-same l a h = by l.part h
        where
          by : (part : Part) → Contains (told_at (record l { part = part })) a → a.opened ≡ l.here.opened
          by (of_node due (pos_tree b k us children)) m = ap (λ (x : Told). x.opened) (sym (Contains-single _ a m))
          by (of_node due (neg_tree b covers)) m = ap (λ (x : Told). x.opened) (sym (Contains-single _ a m))
          by (of_node due (loop_tree lit to)) m = absurd (Contains-none a m)
          by (of_node due (seen_tree lit to)) m = absurd (Contains-none a m)
          by (of_node due (test_tree d shown)) m = absurd (Contains-none a m)
          by (of_rule k b x) m = absurd (Contains-none a m)
          by (of_check k x) m = absurd (Contains-none a m)
          by (of_case body x) m = absurd (Contains-none a m)

  pair-normal : (a b : Told) → Contains (all_told (lines p c)) a → Contains (all_told (lines p c)) b → RowsNormal (pair_list (free_of c) c.given a b)
  pair-normal a b h k =
      let x = told-line a h in
      let y = told-line b k in
      pair-rows (free_of c) c.given a b
      (subst (λ os. RowsNormal (context c.given os)) (sym x.2) (opened-there x.0 x.1))
      (subst (λ os. RowsNormal (context [] os)) (sym y.2) (opened-alone y.0 y.1))

  pub pairs-normal : (ab : Told × Told) → Contains (all_pairs (all_told (lines p c))) ab
      → RowsNormal (pair_list (free_of c) c.given ab.0 ab.1) × RowsNormal (pair_list (free_of c) c.given ab.1 ab.0)
  pairs-normal ab h =
      let m = pairs-members (all_told (lines p c)) ab h in (pair-normal ab.0 ab.1 m.0 m.1, pair-normal ab.1 ab.0 m.1 m.0)

  -- ---- with other hints and clash lines

  module _ (positives : Bool) (f : ℕ → Hint) (ks : List Clash) where
    abbrev hinted_whole : Whole
    hinted_whole = whole (setting p.clauses c) c.given positives (lines p c) (map (line_hinted f) (lines p c))

    whole-same : whole_of positives p (shown_by f ks c) ≡ hinted_whole
    whole-same =
        ap (λ (s : Setting). record { setting = s; given = c.given; lines = lines p (shown_by f ks c); positives = positives }) (same-setting f p.clauses ks c)
        ∙ ap (λ (ls : List Line). record { setting = setting p.clauses c; given = c.given; lines = ls; positives = positives }) (lines-hinted f p ks c)

    told-same : all_told (lines p (shown_by f ks c)) ≡ all_told (lines p c)
    told-same = ap all_told (lines-hinted f p ks c) ∙ all_told-same f (lines p c)

    count-same : count (listed (trees_hinted f 1 c.trees)) ≡ count (listed c.trees)
    count-same = ap count (listed-hinted f 1 c.trees) ∙ same-count f 1 (listed c.trees)

    abbrev Hold : Whole → Type 0
    Hold w = Each (LineHolds w) w.lines

    line-fault : AcceptsWhere positives p (shown_by f ks c) → (l : Line) → Contains (lines p c) l → line_faults hinted_whole (line_hinted f l) ≡ []
    line-fault h l i =
        line-none hinted_whole (line_hinted f l)
        (Each-member (LineHolds hinted_whole) (map (line_hinted f) (lines p c)) (line_hinted f l) (subst Hold whole-same h.lines_hold) (Contains-map (line_hinted f) (lines p c) l i))

  accepts-found : (positives : Bool) (f : ℕ → Hint) (ks : List Clash) → is_filling_known p c ≡ true → AcceptsWhere positives p (shown_by f ks c) → AcceptsWhere positives p (filled p c)
  accepts-found positives f ks known h =
      let each = and_parts (list_all (λ cs. is_known (found_pruned cs)) (hint_lists p c)) (list_all (is_pair_known (free_of c) c.given) (all_pairs (all_told (lines p c)))) known in
      let g = found_on p c in
      let found_clashes = clashes_found p c in
      record {
        query = h.query;
        named = h.named;
        each_variable = h.each_variable;
        terms_known = h.terms_known;
        given_known = h.given_known;
        each_item = count-same positives g found_clashes ∙ sym (count-same positives f ks) ∙ h.each_item;
        lines_hold =
            subst (Hold positives g found_clashes) (sym (whole-same positives g found_clashes))
            (each-map (line_hinted g) (LineHolds (hinted_whole positives g found_clashes)) (lines p c)
            (λ l i. line-holds (hinted_whole positives g found_clashes) (line_hinted g l)
            (line-serves (setting p.clauses c) c.given positives (lines p c) f g l (line-fault positives f ks h l i)
            (λ cs m. hint-serves l i cs m (list_all-member (λ cs. is_known (found_pruned cs)) (hint_lists p c) cs each.0 (Contains-flat_map (λ (l : Line). part_lists c.given l.here l.part) (lines p c) l cs i m)) (f l.at)
            (line-shown (setting p.clauses c) c.given positives (lines p c) f l (line-fault positives f ks h l i) cs m)))));
        apart =
            subst (λ (ts : List Told). Each (AreApart (filled p c)) (all_pairs ts)) (sym (told-same positives g found_clashes))
            (Each-from (AreApart (filled p c)) (all_pairs (all_told (lines p c)))
            (λ ab i. pair-serves p c pairs-normal f g ks ab.0 ab.1 i (list_all-member (is_pair_known (free_of c) c.given) (all_pairs (all_told (lines p c))) ab each.1 i)
            (Each-member (AreApart (shown_by f ks c)) (all_pairs (all_told (lines p c))) ab
            (subst (λ (ts : List Told). Each (AreApart (shown_by f ks c)) (all_pairs ts)) (told-same positives f ks) h.apart) i)));
        clashes =
            subst (λ (ts : List Told). Each (IsOfPair ts) found_clashes) (sym (told-same positives g found_clashes))
            (Each-from (IsOfPair (all_told (lines p c))) found_clashes (clash-paired p c));
        sample_ground = h.sample_ground;
        sample_meets = h.sample_meets;
        map = h.map;
      }

-- what is accepted with any hints and clash lines is accepted with those that are found
pub filled-accepted : (positives : Bool) (p : Program) (c x : Certificate) → AreRowsNormal p c → is_filling_known p c ≡ true → skeleton x ≡ skeleton c
    → AcceptsWhere positives p x → AcceptsWhere positives p (filled p c)
filled-accepted positives p c x normal known e h =
    accepts-found p c normal positives (own p x) x.clashes known (subst (AcceptsWhere positives p) (sym (as-own p x c e)) h)
