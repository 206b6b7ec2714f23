-- What is wrong at a line of a certificate, in the order of the reasons. Only the first fault counts, so no test guards another one.
use Rattle.std.specs.Prelude.{ℕ, ◌+◌, Bool, true, false, ◌&&◌, ◌||◌, not, nat_eq, nat_lt, nat_le, Option, None, Some, List, [], ◌∷◌, ◌++◌, length}
use Rattle.std.specs.List.{list_all}
use Rattle.scasp_syntax.specs.Flat.{flat_body}
use Rattle.scasp_syntax.specs.Instances.{head_under}
use Rattle.scasp_syntax.specs.Programs.{numbered, pred_of, is_rule_of, rules_from}
use Rattle.scasp_syntax.specs.Same.{same_atom, same_bool}
use Rattle.scasp_syntax.specs.Tm.{Tms, nil, items}
use Rattle.scasp_syntax.specs.Values.{giving}
use Rattle.scasp_syntax.specs.declared.atom.Atom.{Atom}
use Rattle.scasp_syntax.specs.declared.clause.Clause.{Clause}
use Rattle.scasp_syntax.specs.declared.clause.FlatItem.{FlatItem}
use Rattle.scasp_syntax.specs.declared.con.Con.{Con}
use Rattle.scasp_cert.specs.Trees.{Tree, Branch, pos_tree, neg_tree, loop_tree, seen_tree, test_tree, split, void, leaf, head}
use Rattle.scasp_hint.specs.Showing.{fault_of}
use Rattle.scasp_lines.specs.Below.{count, rule_numbers}
use Rattle.scasp_lines.specs.Bodies.{Body}
use Rattle.scasp_lines.specs.Contexts.{context}
use Rattle.scasp_lines.specs.Dues.{Due, goal, fact, nothing}
use Rattle.scasp_lines.specs.Known.{are_known, is_con_known}
use Rattle.scasp_unify.specs.Negations.{negated}
use Rattle.scasp_lines.specs.Places.{Place}
use Rattle.scasp_lines.specs.Sides.{Shape, shape_of}
use Rattle.scasp_lines.specs.Walk.{Part, of_node, of_rule, of_check, of_case, Line}
use Rattle.scasp_checker_rules.specs.Ancestors.{entry_at, is_entry_of, is_negated_before}
use Rattle.scasp_checker_rules.specs.Refusals.{wants, of_some, fault_at}
use Rattle.scasp_checker_rules.specs.SameConstraint.{same_con}
use Rattle.scasp_checker_rules.specs.Splits.{may_split}
use Rattle.scasp_checker_rules.specs.Targets.{is_target}
use Rattle.scasp_checker_rules.specs.Wholes.{Whole, scope, universal, checked_before}
use Rattle.scasp_checker_rules.specs.declared.refusal.Refusal.{Refusal}
use Rattle.scasp_checker_rules.specs.declared.refusal.Reason.TheVariants as reason

-- ---- what is due

-- the node is of a kind that may show what is due
abbrev pub is_kind : Bool → Due → Tree → Bool
is_kind positives (goal l) (pos_tree a k ts children) = l.positive
is_kind positives (goal l) (neg_tree a covers) = not l.positive
is_kind positives (goal l) (loop_tree lit to) = true
is_kind positives (goal l) (seen_tree lit to) = positives || not l.positive
is_kind positives (goal l) (test_tree c hint) = false
is_kind positives (fact o) (test_tree c hint) = true
is_kind positives (fact o) t = false
is_kind positives nothing t = false

-- it is due for this literal
abbrev pub is_due : Due → Bool → Atom → Bool
is_due (goal l) positive a = same_bool l.positive positive && same_atom l.atom a
is_due (fact o) positive a = false
is_due nothing positive a = false

-- it is due for this constraint
abbrev pub is_fact_due : Due → Con → Bool
is_fact_due (fact (Some d)) c = same_con d c
is_fact_due (fact None) c = false
is_fact_due (goal l) c = false
is_fact_due nothing c = false

-- ---- nodes

abbrev pub same_numbers : List ℕ → List ℕ → Bool
same_numbers [] [] = true
same_numbers [] (j ∷ js) = false
same_numbers (k ∷ ks) [] = false
same_numbers (k ∷ ks) (j ∷ js) = nat_eq k j && same_numbers ks js

-- the atom is the head of the clause under the terms, one for each of its variables
abbrev pub is_instance : Tms → Atom → Clause → Bool
is_instance ts a c = nat_eq (length (items ts)) c.vars && of_some (head_under (giving (items ts)) c.head) (λ h. same_atom h a)

abbrev pub items_of : Option Clause → List FlatItem
items_of None = []
items_of (Some c) = flat_body c.body

-- a literal on a line has variables in scope, is of the kind that is due there, and is the one that is due
abbrev pub literal_faults : Whole → ℕ → Place → Due → Tree → Bool → Atom → Tms → List Refusal
literal_faults w at here due t positive a ts =
    wants at reason.WrongVariable (are_known (scope w here) a.args && are_known (scope w here) ts)
    ++ wants at reason.WrongNode (is_kind w.positives due t) ++ wants at reason.WrongLiteral (is_due due positive a)

abbrev pub node_faults : Whole → ℕ → Place → Due → Tree → List Refusal
node_faults w at here due (pos_tree a k ts children) =
    let c = numbered w.setting.clauses k in
    literal_faults w at here due (pos_tree a k ts children) true a ts
    ++ wants at reason.WrongRule (of_some c (is_rule_of (pred_of a)))
    ++ wants at reason.WrongInstance (of_some c (is_instance ts a))
    ++ wants at reason.WrongChildren (nat_eq (count children) (length (items_of c)))
node_faults w at here due (neg_tree a covers) =
    literal_faults w at here due (neg_tree a covers) false a nil
    ++ wants at reason.UncoveredCase (same_numbers (rule_numbers covers) (rules_from 1 w.setting.clauses (pred_of a)))
node_faults w at here due (loop_tree lit to) =
    literal_faults w at here due (loop_tree lit to) lit.positive lit.atom nil
    ++ wants at reason.NoAncestor (of_some (entry_at to here.above) (is_entry_of here lit))
    ++ wants at reason.LoopWithoutNegation (not lit.positive || is_negated_before to here.above)
node_faults w at here due (seen_tree lit to) =
    literal_faults w at here due (seen_tree lit to) lit.positive lit.atom nil
    ++ wants at reason.NotInScope (of_some (numbered w.lines to) (is_target lit at here))
node_faults w at here due (test_tree c hint) =
    wants at reason.WrongVariable (is_con_known (scope w here) c)
    ++ wants at reason.WrongNode (is_kind w.positives due (test_tree c hint))
    ++ wants at reason.WrongLiteral (is_fact_due due c)
    ++ fault_at at (fault_of (context w.given here.opened ++ negated here.hidden c ∷ []) hint)

-- ---- cases

-- with new parts, or without
abbrev pub split_faults : Whole → ℕ → Place → Con → Option Shape → List Refusal
split_faults w at here c None =
    wants at reason.WrongVariable (is_con_known (scope w here) c) ++ wants at reason.WrongSplit (may_split (universal w here) here.replaced c)
split_faults w at here c (Some s) =
    wants at reason.WrongVariable (scope w here s.of) ++ wants at reason.WrongSplit (universal w here s.of)

abbrev pub case_faults : Whole → ℕ → ℕ → Place → Body → Branch → List Refusal
case_faults w at next here body (split c first second) = split_faults w at here c (shape_of next c)
case_faults w at next here body (void hint) = fault_at at (fault_of (context w.given here.opened) hint)
case_faults w at next here body (leaf k children) =
    wants at reason.WrongChildren (nat_eq (count children) k) ++ wants at reason.WrongItem (nat_lt 0 k && nat_le k (length body.items))
case_faults w at next here body (head children) =
    wants at reason.WrongChildren (nat_eq (count children) (length body.items + 1))
    ++ wants at reason.WrongItem (body.is_check && of_some body.head (λ h. true))

-- ---- checks

-- the clause is there, behind those that were checked before
abbrev pub check_faults : Whole → ℕ → ℕ → List Refusal
check_faults w at k =
    wants at reason.WrongCheck (of_some (numbered w.setting.clauses k) (λ c. true) && list_all (λ j. nat_lt j k) (checked_before w at))

-- ---- lines

abbrev pub part_faults : Whole → Line → Part → List Refusal
part_faults w l (of_node due t) = node_faults w l.at l.here due t
part_faults w l (of_rule k a b) = []
part_faults w l (of_check k b) = check_faults w l.at k
part_faults w l (of_case body b) = case_faults w l.at l.next l.here body b

abbrev pub line_faults : Whole → Line → List Refusal
line_faults w l = part_faults w l l.part
