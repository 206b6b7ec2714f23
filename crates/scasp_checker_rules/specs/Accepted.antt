-- Which certificates are accepted, by cases on what stands on a line.
use Rattle.std.specs.Prelude.{◌≡◌, ◌⊎◌, ℕ, ◌+◌, ◌<◌, ◌≤◌, Bool, true, false, nat_lt, Option, None, Some, List, [], ◌∷◌, ◌++◌, length, ⊤}
use Rattle.std.specs.List.{list_all}
use Rattle.scasp_list.specs.Each.{Each}
use Rattle.scasp_syntax.specs.Flat.{flat_body}
use Rattle.scasp_syntax.specs.Instances.{atom_under}
use Rattle.scasp_syntax.specs.Programs.{numbered, pred_of, rules_from, predicates}
use Rattle.scasp_syntax.specs.Tm.{Tms, nil, items}
use Rattle.scasp_syntax.specs.Values.{are_ground, giving}
use Rattle.scasp_syntax.specs.WellFormed.{are_below}
use Rattle.scasp_syntax.specs.declared.atom.Atom.{Atom}
use Rattle.scasp_syntax.specs.declared.atom.Lit.{Lit}
use Rattle.scasp_syntax.specs.declared.clause.Clause.{Clause}
use Rattle.scasp_syntax.specs.declared.clause.Query.{Query}
use Rattle.scasp_syntax.specs.declared.con.Con.{Con}
use Rattle.scasp_syntax.specs.declared.hint.Hint.{Hint}
use Rattle.scasp_syntax.specs.declared.hint.Hint.TheVariants as hints
use Rattle.scasp_syntax.specs.declared.program.Program.{Program}
use Rattle.scasp_cert.specs.Certificate.{Certificate}
use Rattle.scasp_cert.specs.Lines.{lines_of}
use Rattle.scasp_cert.specs.Trees.{Tree, Trees, Branch, pos_tree, neg_tree, loop_tree, seen_tree, test_tree, split, void, leaf, head, listed}
use Rattle.scasp_cert.specs.declared.certificate.Clash.{Clash}
use Rattle.scasp_hint.specs.Showing.{fault_of}
use Rattle.scasp_lines.specs.Below.{count, rule_numbers}
use Rattle.scasp_lines.specs.Bodies.{Body}
use Rattle.scasp_lines.specs.Contexts.{context}
use Rattle.scasp_lines.specs.Dues.{Due, goal, fact}
use Rattle.scasp_lines.specs.Known.{are_known, is_con_known}
use Rattle.scasp_lines.specs.Lines.{free_of, lines}
use Rattle.scasp_unify.specs.Negations.{negated}
use Rattle.scasp_lines.specs.Places.{Above, Place}
use Rattle.scasp_lines.specs.Sides.{Shape, shape_of}
use Rattle.scasp_lines.specs.Walk.{Part, of_node, of_rule, of_check, of_case, Line}
use Rattle.scasp_checker_rules.specs.Ancestors.{entry_at, is_negated_before}
use Rattle.scasp_checker_rules.specs.BoundedTruth.{holds_bounded}
use Rattle.scasp_checker_rules.specs.Faults.{is_free, is_map_of}
use Rattle.scasp_checker_rules.specs.Firm.{is_firm}
use Rattle.scasp_checker_rules.specs.PairLists.{pair_list}
use Rattle.scasp_checker_rules.specs.Pairs.{all_pairs, clash_of, clash_list, told_on, is_pair}
use Rattle.scasp_checker_rules.specs.Splits.{may_split}
use Rattle.scasp_checker_rules.specs.Targets.{is_around}
use Rattle.scasp_checker_rules.specs.Told.{Told, all_told}
use Rattle.scasp_checker_rules.specs.Wholes.{Whole, whole_of, scope, universal, checked_before}

-- ---- nodes

-- The literal is the one that is due, and the variables on its line are in scope.
pub record Shows (w : Whole) (here : Place) (due : Due) (positive : Bool) (a : Atom) (ts : Tms) : Type 0 where
  pub known : are_known (scope w here) a.args ≡ true
  pub terms_known : are_known (scope w here) ts ≡ true
  pub asked : due ≡ goal (record { positive = positive; atom = a })

-- It holds by this rule under these terms, and a node stands below for each flat item.
pub record ByRule (w : Whole) (a : Atom) (k : ℕ) (ts : Tms) (children : Trees) : Type 0 where
  pub clause : Clause
  pub named : numbered w.setting.clauses k ≡ Some clause
  pub atom : Atom
  pub has_head : clause.head ≡ Some atom
  pub each_variable : length (items ts) ≡ clause.vars
  pub instance : atom_under (giving (items ts)) atom ≡ a
  pub each_item : count children ≡ length (flat_body clause.body)

-- The line that it names is one of this literal above it; between a positive one and it stands a negated literal.
pub record LoopsTo (here : Place) (lit : Lit) (to : ℕ) : Type 0 where
  pub entry : Above
  pub found : entry_at to here.above ≡ Some entry
  pub sign : entry.positive ≡ lit.positive
  pub same : atom_under here.replaced entry.atom ≡ lit.atom
  pub crosses : lit.positive ≡ true → is_negated_before to here.above ≡ true

-- The node is of this literal; a positive one is firm.
abbrev pub IsTreeOf : Lit → Tree → Type 0
IsTreeOf l (pos_tree a k ts children) = (l.positive ≡ true) × (a ≡ l.atom) × (is_firm (pos_tree a k ts children) ≡ true)
IsTreeOf l (neg_tree a covers) = (l.positive ≡ false) × (a ≡ l.atom)
IsTreeOf l (loop_tree lit to) = ⊥
IsTreeOf l (seen_tree lit to) = ⊥
IsTreeOf l (test_tree c hint) = ⊥

-- The line that it names is one of this literal that has ended, and each case around that line is plain or around this one.
pub record SeenAt (w : Whole) (at : ℕ) (here : Place) (lit : Lit) (to : ℕ) : Type 0 where
  pub allowed : lit.positive ≡ true → w.positives ≡ true
  pub line : Line
  pub found : numbered w.lines to ≡ Some line
  pub due : Due
  pub tree : Tree
  pub node : line.part ≡ of_node due tree
  pub literal : IsTreeOf lit tree
  pub ended : line.at + lines_of tree ≤ at
  pub around : list_all (is_around here.around) line.here.around ≡ true

-- The constraint is the one that is due; no valuation meets the context with its negation.
pub record Tests (w : Whole) (here : Place) (due : Due) (c : Con) (hint : Hint) : Type 0 where
  pub known : is_con_known (scope w here) c ≡ true
  pub asked : due ≡ fact (Some c)
  pub shown : fault_of (context w.given here.opened ++ negated here.hidden c ∷ []) hint ≡ None

abbrev pub NodeHolds : Whole → ℕ → Place → Due → Tree → Type 0
NodeHolds w at here due (pos_tree a k ts children) = Shows w here due true a ts × ByRule w a k ts children
NodeHolds w at here due (neg_tree a covers) = Shows w here due false a nil × (rule_numbers covers ≡ rules_from 1 w.setting.clauses (pred_of a))
NodeHolds w at here due (loop_tree lit to) = Shows w here due lit.positive lit.atom nil × LoopsTo here lit to
NodeHolds w at here due (seen_tree lit to) = Shows w here due lit.positive lit.atom nil × SeenAt w at here lit to
NodeHolds w at here due (test_tree c hint) = Tests w here due c hint

-- ---- cases

-- a split without new parts, and one with
abbrev pub Splits : Whole → Place → Con → Option Shape → Type 0
Splits w here c None = (is_con_known (scope w here) c ≡ true) × (may_split (universal w here) here.replaced c ≡ true)
Splits w here c (Some s) = (scope w here s.of ≡ true) × (universal w here s.of ≡ true)

abbrev pub CaseHolds : Whole → ℕ → Place → Body → Branch → Type 0
CaseHolds w next here body (split c first second) = Splits w here c (shape_of next c)
CaseHolds w next here body (void hint) = fault_of (context w.given here.opened) hint ≡ None
CaseHolds w next here body (leaf k children) = (count children ≡ k) × (0 < k) × (k ≤ length body.items)
CaseHolds w next here body (head children) =
    (count children ≡ length body.items + 1) × (body.is_check ≡ true) × (h : Atom) × (body.head ≡ Some h)

-- ---- lines

abbrev pub CheckHolds : Whole → ℕ → ℕ → Type 0
CheckHolds w at k = (c : Clause) × (numbered w.setting.clauses k ≡ Some c) × (list_all (λ j. nat_lt j k) (checked_before w at) ≡ true)

abbrev pub PartHolds : Whole → Line → Part → Type 0
PartHolds w l (of_node due t) = NodeHolds w l.at l.here due t
PartHolds w l (of_rule k a b) = ⊤
PartHolds w l (of_check k b) = CheckHolds w l.at k
PartHolds w l (of_case body b) = CaseHolds w l.next l.here body b

-- the line is accepted
abbrev pub LineHolds : Whole → Line → Type 0
LineHolds w l = PartHolds w l l.part

-- ---- the whole

-- A clash line shows the pair apart, in the order in which it names the two.
pub record ClashShows (c : Certificate) (a b : Told) : Type 0 where
  pub clash : Clash
  pub found : clash_of a.at b.at c.clashes ≡ Some clash
  pub shown : fault_of (clash_list (free_of c) c.given a b clash) clash.hint ≡ None

abbrev pub AreApart : Certificate → Told × Told → Type 0
AreApart c ab = (fault_of (pair_list (free_of c) c.given ab.0 ab.1) hints.Terms ≡ None) ⊎ ClashShows c ab.0 ab.1

-- The clash line names a positive and a negated literal of one predicate.
pub record IsOfPair (ts : List Told) (k : Clash) : Type 0 where
  pub first : Told
  pub first_found : told_on k.first ts ≡ Some first
  pub second : Told
  pub second_found : told_on k.second ts ≡ Some second
  pub pair : is_pair first second ≡ true

-- The certificate is accepted for the program, where a positive literal may be shown by an earlier line of it, or not.
pub record AcceptsWhere (positives : Bool) (p : Program) (c : Certificate) : Type 0 where
  pub query : Query
  pub named : numbered p.queries c.query ≡ Some query
  pub each_variable : length (items c.terms) ≡ length query.names
  pub terms_known : are_below (free_of c) c.terms ≡ true
  pub given_known : list_all (is_con_known (is_free c)) c.given ≡ true
  pub each_item : count (listed c.trees) ≡ length (flat_body query.body)
  pub lines_hold : Each (LineHolds (whole_of positives p c)) (lines p c)
  pub apart : Each (AreApart c) (all_pairs (all_told (lines p c)))
  pub clashes : Each (IsOfPair (all_told (lines p c))) c.clashes
  pub sample_ground : are_ground c.sample ≡ true
  pub sample_meets : list_all (holds_bounded (giving (items c.sample))) c.given ≡ true
  pub map : is_map_of (predicates p) c.map ≡ true

-- the certificate is accepted for the program
abbrev pub Accepts : Program → Certificate → Type 0
Accepts p c = AcceptsWhere true p c
