-- A node has no fault exactly where it is accepted.
use Rattle.std.proofs.Common.{◌≡◌, ℕ, suc, ◌+◌, Bool, true, false, ◌&&◌, ◌||◌, not, nat_eq, nat_le, [], Option, Some, None, length, refl, ap, sym, subst, ◌∙◌}
use Rattle.std.specs.List.{list_all}
use Rattle.std.proofs.lemmas.Bool.{and_parts, and_from, not-true}
use Rattle.std.proofs.lemmas.Bool.Decides.{Decides-eqb}
use Rattle.scasp_syntax.specs.Flat.{flat_body}
use Rattle.scasp_syntax.specs.Instances.{atom_under, head_under}
use Rattle.scasp_syntax.specs.Programs.{numbered, pred_of, is_rule_of}
use Rattle.scasp_syntax.specs.Same.{same_atom, same_bool, same_pred}
use Rattle.scasp_syntax.specs.Tm.{Tms, nil, cons, items}
use Rattle.scasp_syntax.specs.Values.{Sub, giving, all_under}
use Rattle.scasp_syntax.specs.declared.atom.Atom.{Atom}
use Rattle.scasp_syntax.specs.declared.atom.Lit.{Lit}
use Rattle.scasp_syntax.specs.declared.atom.Pred.{Pred}
use Rattle.scasp_syntax.specs.declared.clause.Clause.{Clause}
use Rattle.scasp_syntax.proofs.SameLemmas.{atom_decided}
use Rattle.scasp_cert.specs.Lines.{lines_of}
use Rattle.scasp_cert.specs.Trees.{Tree, Trees, pos_tree, neg_tree, loop_tree, seen_tree, test_tree}
use Rattle.scasp_lines.specs.Below.{count}
use Rattle.scasp_lines.specs.Dues.{Due, goal}
use Rattle.scasp_lines.specs.Known.{are_known}
use Rattle.scasp_lines.specs.Places.{Place}
use Rattle.scasp_lines.specs.Walk.{Part, of_node, of_rule, of_check, of_case, Line}
use Rattle.scasp_checker_rules.specs.Accepted.{Shows, ByRule, LoopsTo, IsTreeOf, SeenAt, NodeHolds}
use Rattle.scasp_checker_rules.specs.Ancestors.{entry_at, is_entry_of, is_negated_before}
use Rattle.scasp_checker_rules.specs.Firm.{is_firm}
use Rattle.scasp_checker_rules.specs.LineFaults.{is_kind, is_instance, items_of, literal_faults, node_faults}
use Rattle.scasp_checker_rules.specs.Refusals.{of_some}
use Rattle.scasp_checker_rules.specs.Targets.{is_tree_of, is_around, is_shown_by, is_target}
use Rattle.scasp_checker_rules.specs.Wholes.{Whole, scope}
use Rattle.scasp_checker_rules.proofs.TestLemmas.{le-from, le-is, wants-holds, wants-none, both_none, none_both, fault-none, none-fault, of_some-parts, of_some-from, bool_decided, numbers_decided, due_decided, fact_decided}

-- ---- rules

pub all_under-length : (s : Sub) (ts : Tms) → length (items (all_under s ts)) ≡ length (items ts)
all_under-length s nil = refl
all_under-length s (cons t ts) = ap suc (all_under-length s ts)

pub pred-under : (s : Sub) (a : Atom) → pred_of (atom_under s a) ≡ pred_of a
pred-under s a = ap (λ n. record { minus = a.minus; name = a.name; arity = n }) (all_under-length s a.args)

pub same-pred : (p : Pred) → same_pred p p ≡ true
same-pred p = and_from _ _ (and_from _ _ ((bool_decided p.minus p.minus).1 refl) ((Decides-eqb p.name p.name).1 refl)) ((Decides-eqb p.arity p.arity).1 refl)

-- the predicate of an instance is that of the head
rule-of_instance : (s : Sub) (c : Clause) (h a : Atom) → c.head ≡ Some h → atom_under s h ≡ a → is_rule_of (pred_of a) c ≡ true
rule-of_instance s c h a e f =
    subst (λ (o : Option Atom). is_rule_of (pred_of a) (record { head = o; body = c.body; vars = c.vars }) ≡ true) (sym e)
    (subst (λ (p : Pred). same_pred p (pred_of h) ≡ true) (sym (pred-under s h) ∙ ap pred_of f) (same-pred (pred_of h)))

headed : (s : Sub) (a : Atom) (o : Option Atom) → of_some (head_under s o) (λ h. same_atom h a) ≡ true → (h : Atom) × (o ≡ Some h) × (atom_under s h ≡ a)
headed s a None e = cc
headed s a (Some h) e = (h, refl, (atom_decided (atom_under s h) a).0 e)

head-is : (s : Sub) (a h : Atom) (o : Option Atom) → o ≡ Some h → atom_under s h ≡ a → of_some (head_under s o) (λ h. same_atom h a) ≡ true
head-is s a h o e f = subst (λ (o : Option Atom). of_some (head_under s o) (λ h. same_atom h a) ≡ true) (sym e) ((atom_decided (atom_under s h) a).1 f)

by-rule : (w : Whole) (a : Atom) (k : ℕ) (ts : Tms) (children : Trees) (o : Option Clause) → numbered w.setting.clauses k ≡ o
    → of_some o (is_instance ts a) ≡ true → nat_eq (count children) (length (items_of o)) ≡ true → ByRule w a k ts children
by-rule w a k ts children None e i n = cc
by-rule w a k ts children (Some c) e i n =
    let p = and_parts (nat_eq (length (items ts)) c.vars) (of_some (head_under (giving (items ts)) c.head) (λ h. same_atom h a)) i in
    let h = headed (giving (items ts)) a c.head p.1 in
    record {
      clause = c;
      named = e;
      atom = h.0;
      has_head = h.1;
      each_variable = (Decides-eqb (length (items ts)) c.vars).0 p.0;
      instance = h.2;
      each_item = (Decides-eqb (count children) (length (flat_body c.body))).0 n;
    }

-- ---- loops

crossed : (b n : Bool) → (not b || n) ≡ true → b ≡ true → n ≡ true
crossed true n e s = e
crossed false n e s = cc

crosses : (b n : Bool) → (b ≡ true → n ≡ true) → (not b || n) ≡ true
crosses true n f = f refl
crosses false n f = refl

looped : (here : Place) (lit : Lit) (to : ℕ) → of_some (entry_at to here.above) (is_entry_of here lit) ≡ true
    → (not lit.positive || is_negated_before to here.above) ≡ true → LoopsTo here lit to
looped here lit to e n =
    let o = of_some-parts (entry_at to here.above) (is_entry_of here lit) e in
    let p = and_parts (same_bool o.0.positive lit.positive) (same_atom (atom_under here.replaced o.0.atom) lit.atom) o.2 in
    record {
      entry = o.0;
      found = o.1;
      sign = (bool_decided o.0.positive lit.positive).0 p.0;
      same = (atom_decided (atom_under here.replaced o.0.atom) lit.atom).0 p.1;
      crosses = crossed lit.positive (is_negated_before to here.above) n;
    }

entry-is : (here : Place) (lit : Lit) (to : ℕ) (h : LoopsTo here lit to) → of_some (entry_at to here.above) (is_entry_of here lit) ≡ true
entry-is here lit to h =
    of_some-from (entry_at to here.above) (is_entry_of here lit) h.entry h.found
    (and_from _ _ ((bool_decided h.entry.positive lit.positive).1 h.sign) ((atom_decided (atom_under here.replaced h.entry.atom) lit.atom).1 h.same))

-- ---- literals seen before

tree-of : (lit : Lit) (t : Tree) → is_tree_of lit t ≡ true → IsTreeOf lit t
tree-of lit (pos_tree a k ts children) e =
    let p = and_parts (lit.positive && same_atom a lit.atom) (is_firm (pos_tree a k ts children)) e in
    let q = and_parts lit.positive (same_atom a lit.atom) p.0 in
    (q.0, (atom_decided a lit.atom).0 q.1, p.1)
tree-of lit (neg_tree a covers) e =
    let q = and_parts (not lit.positive) (same_atom a lit.atom) e in
    (not-true lit.positive q.0, (atom_decided a lit.atom).0 q.1)
tree-of lit (loop_tree l to) e = cc
tree-of lit (seen_tree l to) e = cc
tree-of lit (test_tree c hint) e = cc

not-false : (b : Bool) → b ≡ false → not b ≡ true
not-false true e = cc
not-false false e = refl

of-tree : (lit : Lit) (t : Tree) → IsTreeOf lit t → is_tree_of lit t ≡ true
of-tree lit (pos_tree a k ts children) h = and_from _ _ (and_from _ _ h.0 ((atom_decided a lit.atom).1 h.1)) h.2
of-tree lit (neg_tree a covers) h = and_from _ _ (not-false lit.positive h.0) ((atom_decided a lit.atom).1 h.1)
of-tree lit (loop_tree l to) h = elim h [ ]
of-tree lit (seen_tree l to) h = elim h [ ]
of-tree lit (test_tree c hint) h = elim h [ ]

module _ (w : Whole) (at : ℕ) (here : Place) (lit : Lit) (to : ℕ) where
  shown-by : (allowed : lit.positive ≡ true → w.positives ≡ true) (l : Line) → numbered w.lines to ≡ Some l → (part : Part) → l.part ≡ part
      → is_shown_by lit at here l part ≡ true → SeenAt w at here lit to
  shown-by allowed l f (of_node d t) g e =
      let p = and_parts (is_tree_of lit t && nat_le (l.at + lines_of t) at) (list_all (is_around here.around) l.here.around) e in
      let q = and_parts (is_tree_of lit t) (nat_le (l.at + lines_of t) at) p.0 in
      record {
        allowed = allowed;
        line = l;
        found = f;
        due = d;
        tree = t;
        node = g;
        literal = tree-of lit t q.0;
        ended = le-from (l.at + lines_of t) at q.1;
        around = p.1;
      }
  shown-by allowed l f (of_rule k a b) g e = cc
  shown-by allowed l f (of_check k b) g e = cc
  shown-by allowed l f (of_case body b) g e = cc

  seen : (lit.positive ≡ true → w.positives ≡ true) → of_some (numbered w.lines to) (is_target lit at here) ≡ true → SeenAt w at here lit to
  seen allowed e =
      let o = of_some-parts (numbered w.lines to) (is_target lit at here) e in shown-by allowed o.0 o.1 o.0.part refl o.2

  target-is : (h : SeenAt w at here lit to) → of_some (numbered w.lines to) (is_target lit at here) ≡ true
  target-is h =
      of_some-from (numbered w.lines to) (is_target lit at here) h.line h.found
      (subst (λ (x : Part). is_shown_by lit at here h.line x ≡ true) (sym h.node)
      (and_from _ _ (and_from _ _ (of-tree lit h.tree h.literal) (le-is (h.line.at + lines_of h.tree) at h.ended)) h.around))

-- ---- nodes

may : (p b : Bool) → (p || not b) ≡ true → b ≡ true → p ≡ true
may true b e f = refl
may false true e f = cc
may false false e f = cc

may-be : (p b : Bool) → (b ≡ true → p ≡ true) → (p || not b) ≡ true
may-be true b f = refl
may-be false true f = f refl
may-be false false f = refl

module _ (w : Whole) (at : ℕ) (here : Place) (due : Due) where
  shows : (t : Tree) (positive : Bool) (a : Atom) (ts : Tms) → literal_faults w at here due t positive a ts ≡ [] → Shows w here due positive a ts
  shows t positive a ts e =
      let l = both_none _ _ e in
      let n = both_none _ _ l.0 in
      let k = and_parts (are_known (scope w here) a.args) (are_known (scope w here) ts) (wants-holds at _ _ n.0) in
      record { known = k.0; terms_known = k.1; asked = (due_decided due positive a).0 (wants-holds at _ _ l.1) }

  kind : (t : Tree) (positive : Bool) (a : Atom) (ts : Tms) → literal_faults w at here due t positive a ts ≡ []
      → is_kind w.positives (goal (record { positive = positive; atom = a })) t ≡ true
  kind t positive a ts e =
      let l = both_none _ _ e in
      let n = both_none _ _ l.0 in
      subst (λ (d : Due). is_kind w.positives d t ≡ true) ((due_decided due positive a).0 (wants-holds at _ _ l.1)) (wants-holds at _ _ n.1)

  shown-none : (t : Tree) (positive : Bool) (a : Atom) (ts : Tms) → Shows w here due positive a ts
      → is_kind w.positives (goal (record { positive = positive; atom = a })) t ≡ true → literal_faults w at here due t positive a ts ≡ []
  shown-none t positive a ts h k =
      none_both _ _
      (none_both _ _ (wants-none at _ _ (and_from _ _ h.known h.terms_known))
      (wants-none at _ _ (subst (λ (d : Due). is_kind w.positives d t ≡ true) (sym h.asked) k)))
      (wants-none at _ _ ((due_decided due positive a).1 h.asked))

  pub node-holds : (t : Tree) → node_faults w at here due t ≡ [] → NodeHolds w at here due t
  node-holds (pos_tree a k ts children) e =
      let c = both_none _ _ e in
      let i = both_none _ _ c.0 in
      let r = both_none _ _ i.0 in (
        shows (pos_tree a k ts children) true a ts r.0,
        by-rule w a k ts children (numbered w.setting.clauses k) refl (wants-holds at _ _ i.1) (wants-holds at _ _ c.1),
      )
  node-holds (neg_tree a covers) e =
      let c = both_none _ _ e in
      (shows (neg_tree a covers) false a nil c.0, (numbers_decided _ _).0 (wants-holds at _ _ c.1))
  node-holds (loop_tree lit to) e =
      let c = both_none _ _ e in
      let i = both_none _ _ c.0 in
      (shows (loop_tree lit to) lit.positive lit.atom nil i.0, looped here lit to (wants-holds at _ _ i.1) (wants-holds at _ _ c.1))
  node-holds (seen_tree lit to) e =
      let c = both_none _ _ e in (
        shows (seen_tree lit to) lit.positive lit.atom nil c.0,
        seen w at here lit to (may w.positives lit.positive (kind (seen_tree lit to) lit.positive lit.atom nil c.0)) (wants-holds at _ _ c.1),
      )
  node-holds (test_tree c hint) e =
      let h = both_none _ _ e in
      let l = both_none _ _ h.0 in
      let n = both_none _ _ l.0 in
      record { known = wants-holds at _ _ n.0; asked = (fact_decided due c).0 (wants-holds at _ _ l.1); shown = fault-none at _ h.1 }

  pub node-none : (t : Tree) → NodeHolds w at here due t → node_faults w at here due t ≡ []
  node-none (pos_tree a k ts children) h =
      none_both _ _
      (none_both _ _
      (none_both _ _ (shown-none (pos_tree a k ts children) true a ts h.0 refl)
      (wants-none at _ _ (of_some-from _ (is_rule_of (pred_of a)) h.1.clause h.1.named (rule-of_instance (giving (items ts)) h.1.clause h.1.atom a h.1.has_head h.1.instance))))
      (wants-none at _ _
      (of_some-from _ (is_instance ts a) h.1.clause h.1.named
      (and_from _ _ ((Decides-eqb (length (items ts)) h.1.clause.vars).1 h.1.each_variable)
      (head-is (giving (items ts)) a h.1.atom h.1.clause.head h.1.has_head h.1.instance)))))
      (wants-none at _ _
      (subst (λ (o : Option Clause). nat_eq (count children) (length (items_of o)) ≡ true) (sym h.1.named)
      ((Decides-eqb (count children) (length (flat_body h.1.clause.body))).1 h.1.each_item)))
  node-none (neg_tree a covers) h =
      none_both _ _ (shown-none (neg_tree a covers) false a nil h.0 refl) (wants-none at _ _ ((numbers_decided _ _).1 h.1))
  node-none (loop_tree lit to) h =
      none_both _ _
      (none_both _ _ (shown-none (loop_tree lit to) lit.positive lit.atom nil h.0 refl) (wants-none at _ _ (entry-is here lit to h.1)))
      (wants-none at _ _ (crosses lit.positive (is_negated_before to here.above) h.1.crosses))
  node-none (seen_tree lit to) h =
      none_both _ _ (shown-none (seen_tree lit to) lit.positive lit.atom nil h.0 (may-be w.positives lit.positive h.1.allowed))
      (wants-none at _ _ (target-is w at here lit to h.1))
  node-none (test_tree c hint) h =
      none_both _ _
      (none_both _ _
      (none_both _ _ (wants-none at _ _ h.known)
      (wants-none at _ _ (subst (λ (d : Due). is_kind w.positives d (test_tree c hint) ≡ true) (sym h.asked) refl)))
      (wants-none at _ _ ((fact_decided due c).1 h.asked)))
      (none-fault at _ h.shown)
