-- Other hints change nothing that is tested at a line but the hint.
use Rattle.std.proofs.Common.{◌≡◌, ◌∙◌, ℕ, zero, suc, ◌+◌, Bool, ◌&&◌, nat_le, Option, None, Some, List, [], ◌∷◌, ◌++◌, map, refl, ap, sym, subst}
use Rattle.std.specs.Prelude.{slice_get}
use Rattle.std.specs.List.{Contains, flat_map, list_all}
use Rattle.scasp_list.proofs.MemberLemmas.{Contains-none, Contains-here, Contains-single}
use Rattle.scasp_syntax.specs.Programs.{numbered}
use Rattle.scasp_syntax.specs.Same.{same_atom}
use Rattle.scasp_syntax.specs.declared.atom.Lit.{Lit}
use Rattle.scasp_syntax.specs.declared.con.Con.{Con}
use Rattle.scasp_syntax.specs.declared.hint.Hint.{Hint}
use Rattle.scasp_cert.specs.Lines.{lines_of}
use Rattle.scasp_cert.specs.Trees.{Tree, Branch, pos_tree, neg_tree, loop_tree, seen_tree, test_tree, split, void, leaf, head}
use Rattle.scasp_hint.specs.Showing.{fault_of}
use Rattle.scasp_lines.specs.Bodies.{Body}
use Rattle.scasp_lines.specs.Dues.{Due}
use Rattle.scasp_lines.specs.Known.{is_con_known}
use Rattle.scasp_lines.specs.Places.{Place}
use Rattle.scasp_lines.specs.Sides.{shape_of}
use Rattle.scasp_lines.specs.Walk.{Part, of_node, of_rule, of_check, of_case, Line, Setting}
use Rattle.scasp_checker_rules.specs.LineFaults.{is_fact_due, node_faults, split_faults, case_faults, check_faults, part_faults, line_faults}
use Rattle.scasp_checker_rules.specs.Refusals.{wants, of_some}
use Rattle.scasp_checker_rules.specs.Targets.{is_tree_of, is_around, is_target}
use Rattle.scasp_checker_rules.specs.Told.{told_at, all_told}
use Rattle.scasp_checker_rules.specs.Wholes.{Whole, scope, number_before}
use Rattle.scasp_checker_rules.specs.declared.refusal.Reason.TheVariants as reason
use Rattle.scasp_checker_rules.specs.declared.refusal.Refusal.{Refusal}
use Rattle.scasp_checker_rules.proofs.TestLemmas.{both_none, none_both, fault-none, none-fault}
use Rattle.scasp_search_rules.specs.Successors.Answers.{part_lists}
use Rattle.scasp_fill.specs.Filling.Hinted.{hinted, case_hinted}
use Rattle.scasp_fill.proofs.FillingLemmas.HintedLemmas.{same-lines, same-count, same-rules, same-firm, same-kind}
use Rattle.scasp_fill.proofs.FillingLemmas.WalkLemmas.{part_hinted, line_hinted}

-- ---- lists of lines

flat-same : {A : Type 0} → (h : Line → Line) (g : Line → List A) → ((l : Line) → g (h l) ≡ g l) → (ls : List Line) → flat_map g (map h ls) ≡ flat_map g ls
flat-same h g e [] = refl
flat-same h g e (l ∷ ls) = ap (λ (xs : List _). xs ++ flat_map g (map h ls)) (e l) ∙ ap (λ (xs : List _). g l ++ xs) (flat-same h g e ls)

get-same : (h : Line → Line) (test : Line → Bool) → ((l : Line) → test (h l) ≡ test l) → (ls : List Line) (n : ℕ) → of_some (slice_get (map h ls) n) test ≡ of_some (slice_get ls n) test
get-same h test e [] n = refl
get-same h test e (l ∷ ls) zero = e l
get-same h test e (l ∷ ls) (suc n) = get-same h test e ls n

numbered-same : (h : Line → Line) (test : Line → Bool) → ((l : Line) → test (h l) ≡ test l) → (ls : List Line) (n : ℕ) → of_some (numbered (map h ls) n) test ≡ of_some (numbered ls n) test
numbered-same h test e ls zero = refl
numbered-same h test e ls (suc n) = get-same h test e ls n

-- ---- what a line tells

module _ (f : ℕ → Hint) where
  tree-same : (lit : Lit) (at : ℕ) (t : Tree) → is_tree_of lit (hinted f at t) ≡ is_tree_of lit t
  tree-same lit at (pos_tree a k ts children) = ap (λ (b : Bool). lit.positive && same_atom a lit.atom && b) (same-firm f at (pos_tree a k ts children))
  tree-same lit at (neg_tree a covers) = refl
  tree-same lit at (loop_tree l to) = refl
  tree-same lit at (seen_tree l to) = refl
  tree-same lit at (test_tree c shown) = refl

  target-same : (lit : Lit) (at : ℕ) (here : Place) (l : Line) → is_target lit at here (line_hinted f l) ≡ is_target lit at here l
  target-same lit at here l = by l.part
    where
      by : (part : Part) → is_target lit at here (line_hinted f (record l { part = part })) ≡ is_target lit at here (record l { part = part })
      by (of_node due t) =
          ap (λ (b : Bool). b && nat_le (l.at + lines_of (hinted f l.at t)) at && list_all (is_around here.around) l.here.around) (tree-same lit l.at t)
          ∙ ap (λ n. is_tree_of lit t && nat_le (l.at + n) at && list_all (is_around here.around) l.here.around) (same-lines f l.at t)
      by (of_rule k a b) = refl
      by (of_check k b) = refl
      by (of_case body b) = refl

  number-same : (at : ℕ) (l : Line) → number_before at (line_hinted f l) ≡ number_before at l
  number-same at l = by l.part
    where
      by : (part : Part) → number_before at (line_hinted f (record l { part = part })) ≡ number_before at (record l { part = part })
      by (of_node due t) = refl
      by (of_rule k a b) = refl
      by (of_check k b) = refl
      by (of_case body b) = refl

  told-same : (l : Line) → told_at (line_hinted f l) ≡ told_at l
  told-same l = by l.part
    where
      by : (part : Part) → told_at (line_hinted f (record l { part = part })) ≡ told_at (record l { part = part })
      by (of_node due (pos_tree a k ts children)) = refl
      by (of_node due (neg_tree a covers)) = refl
      by (of_node due (loop_tree lit to)) = refl
      by (of_node due (seen_tree lit to)) = refl
      by (of_node due (test_tree c shown)) = refl
      by (of_rule k a b) = refl
      by (of_check k b) = refl
      by (of_case body b) = refl

  pub all_told-same : (ls : List Line) → all_told (map (line_hinted f) ls) ≡ all_told ls
  all_told-same ls = flat-same (line_hinted f) told_at told-same ls

-- ---- what is wrong at a line

module _ (s : Setting) (given : List Con) (positives : Bool) (ls : List Line) where
  abbrev pub whole : List Line → Whole
  whole xs = record { setting = s; given = given; lines = xs; positives = positives }

  module _ (f : ℕ → Hint) where
    abbrev hinting : Whole
    hinting = whole (map (line_hinted f) ls)

    pos-same : (at : ℕ) (here : Place) (due : Due) (a : _) (k : ℕ) (ts : _) (children : _)
        → node_faults hinting at here due (hinted f at (pos_tree a k ts children)) ≡ node_faults (whole ls) at here due (pos_tree a k ts children)
    pos-same at here due a k ts children =
        rw (same-kind f positives due at (pos_tree a k ts children), same-count f (suc at) children) refl

    neg-same : (at : ℕ) (here : Place) (due : Due) (a : _) (covers : _)
        → node_faults hinting at here due (hinted f at (neg_tree a covers)) ≡ node_faults (whole ls) at here due (neg_tree a covers)
    neg-same at here due a covers =
        rw (same-kind f positives due at (neg_tree a covers), same-rules f (suc at) covers) refl

    loop-same : (at : ℕ) (here : Place) (due : Due) (lit : Lit) (to : ℕ)
        → node_faults hinting at here due (loop_tree lit to) ≡ node_faults (whole ls) at here due (loop_tree lit to)
    loop-same at here due lit to = refl

    seen-same : (at : ℕ) (here : Place) (due : Due) (lit : Lit) (to : ℕ)
        → node_faults hinting at here due (seen_tree lit to) ≡ node_faults (whole ls) at here due (seen_tree lit to)
    seen-same at here due lit to = rw (numbered-same (line_hinted f) (is_target lit at here) (target-same f lit at here) ls to) refl

    check-same : (at k : ℕ) → check_faults hinting at k ≡ check_faults (whole ls) at k
    check-same at k = rw (flat-same (line_hinted f) (number_before at) (number-same f at) ls) refl

    leaf-same : (at next : ℕ) (here : Place) (body : Body) (k : ℕ) (children : _)
        → case_faults hinting at next here body (case_hinted f at (leaf k children)) ≡ case_faults (whole ls) at next here body (leaf k children)
    leaf-same at next here body k children = rw (same-count f (suc at) children) refl

    head-same : (at next : ℕ) (here : Place) (body : Body) (children : _)
        → case_faults hinting at next here body (case_hinted f at (head children)) ≡ case_faults (whole ls) at next here body (head children)
    head-same at next here body children = rw (same-count f (suc at) children) refl

    node-shown : (at : ℕ) (here : Place) (due : Due) (t : Tree) → node_faults hinting at here due (hinted f at t) ≡ []
        → (cs : List Con) → Contains (part_lists given here (of_node due t)) cs → fault_of cs (f at) ≡ None
    node-shown at here due (pos_tree a k ts children) e cs h = absurd (Contains-none cs h)
    node-shown at here due (neg_tree a covers) e cs h = absurd (Contains-none cs h)
    node-shown at here due (loop_tree lit to) e cs h = absurd (Contains-none cs h)
    node-shown at here due (seen_tree lit to) e cs h = absurd (Contains-none cs h)
    node-shown at here due (test_tree c shown) e cs h =
        rw (sym (Contains-single _ cs h)) (fault-none at _ (both_none _ _ e).1)

    case-shown : (at next : ℕ) (here : Place) (body : Body) (b : Branch) → case_faults hinting at next here body (case_hinted f at b) ≡ []
        → (cs : List Con) → Contains (part_lists given here (of_case body b)) cs → fault_of cs (f at) ≡ None
    case-shown at next here body (split c one two) e cs h = absurd (Contains-none cs h)
    case-shown at next here body (void shown) e cs h = rw (sym (Contains-single _ cs h)) (fault-none at _ e)
    case-shown at next here body (leaf k children) e cs h = absurd (Contains-none cs h)
    case-shown at next here body (head children) e cs h = absurd (Contains-none cs h)

    -- where nothing is wrong at the line, its hint shows the list that it asks
    pub line-shown : (l : Line) → line_faults hinting (line_hinted f l) ≡ [] → (cs : List Con) → Contains (part_lists given l.here l.part) cs → fault_of cs (f l.at) ≡ None
    line-shown l e = by l.part e
      where
        by : (part : Part) → part_faults hinting (line_hinted f l) (part_hinted f l.at part) ≡ [] → (cs : List Con) → Contains (part_lists given l.here part) cs → fault_of cs (f l.at) ≡ None
        by (of_node due t) e = node-shown l.at l.here due t e
        by (of_rule k a b) e = λ cs h. absurd (Contains-none cs h)
        by (of_check k b) e = λ cs h. absurd (Contains-none cs h)
        by (of_case body b) e = case-shown l.at l.next l.here body b e

  module _ (f g : ℕ → Hint) where
    -- what is tested of a test before its hint
    abbrev before : ℕ → Place → Con → Due → Bool → List Refusal
    before at here c due kind =
        wants at reason.WrongVariable (is_con_known (scope (hinting f) here) c) ++ wants at reason.WrongNode kind ++ wants at reason.WrongLiteral (is_fact_due due c)

    node-serves : (at : ℕ) (here : Place) (due : Due) (t : Tree) → node_faults (hinting f) at here due (hinted f at t) ≡ []
        → ((cs : List Con) → Contains (part_lists given here (of_node due t)) cs → fault_of cs (g at) ≡ None)
        → node_faults (hinting g) at here due (hinted g at t) ≡ []
    node-serves at here due (pos_tree a k ts children) e h = pos-same g at here due a k ts children ∙ sym (pos-same f at here due a k ts children) ∙ e
    node-serves at here due (neg_tree a covers) e h = neg-same g at here due a covers ∙ sym (neg-same f at here due a covers) ∙ e
    node-serves at here due (loop_tree lit to) e h = loop-same g at here due lit to ∙ sym (loop-same f at here due lit to) ∙ e
    node-serves at here due (seen_tree lit to) e h = seen-same g at here due lit to ∙ sym (seen-same f at here due lit to) ∙ e
    node-serves at here due (test_tree c shown) e h =
        none_both _ _
        (subst (λ (b : Bool). before at here c due b ≡ []) (same-kind f positives due at (test_tree c shown) ∙ sym (same-kind g positives due at (test_tree c shown))) (both_none _ _ e).0)
        (none-fault at _ (h _ (Contains-here _ [])))

    case-serves : (at next : ℕ) (here : Place) (body : Body) (b : Branch) → case_faults (hinting f) at next here body (case_hinted f at b) ≡ []
        → ((cs : List Con) → Contains (part_lists given here (of_case body b)) cs → fault_of cs (g at) ≡ None)
        → case_faults (hinting g) at next here body (case_hinted g at b) ≡ []
    case-serves at next here body (split c one two) e h = by (shape_of next c) e
      where
        by : (o : Option _) → split_faults (hinting f) at here c o ≡ [] → split_faults (hinting g) at here c o ≡ []
        by None e = e
        by (Some x) e = e
    case-serves at next here body (void shown) e h = none-fault at _ (h _ (Contains-here _ []))
    case-serves at next here body (leaf k children) e h = leaf-same g at next here body k children ∙ sym (leaf-same f at next here body k children) ∙ e
    case-serves at next here body (head children) e h = head-same g at next here body children ∙ sym (head-same f at next here body children) ∙ e

    -- what is accepted with some hints is accepted with others, where each of these shows the list that its line asks
    pub line-serves : (l : Line) → line_faults (hinting f) (line_hinted f l) ≡ []
        → ((cs : List Con) → Contains (part_lists given l.here l.part) cs → fault_of cs (g l.at) ≡ None)
        → line_faults (hinting g) (line_hinted g l) ≡ []
    line-serves l e h = by l.part e h
      where
        by : (part : Part) → part_faults (hinting f) (line_hinted f l) (part_hinted f l.at part) ≡ []
            → ((cs : List Con) → Contains (part_lists given l.here part) cs → fault_of cs (g l.at) ≡ None)
            → part_faults (hinting g) (line_hinted g l) (part_hinted g l.at part) ≡ []
        by (of_node due t) e h = node-serves l.at l.here due t e h
        by (of_rule k a b) e h = refl
        by (of_check k b) e h = check-same g l.at k ∙ sym (check-same f l.at k) ∙ e
        by (of_case body b) e h = case-serves l.at l.next l.here body b e h
