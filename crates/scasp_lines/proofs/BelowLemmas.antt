-- The lines right below a line are there.
use Rattle.std.proofs.Common.{◌≡◌, ◌∙◌, ℕ, zero, suc, ◌+◌, true, false, List, [], ◌∷◌, ◌++◌, map, length, length-append, slice_get, Option, Some, refl, ap, sym, subst, inl, inr}
use Rattle.std.specs.List.{Contains}
use Rattle.std.proofs.lemmas.List.Elements.{Contains-append_left, Contains-append_right}
use Rattle.scasp_syntax.specs.Flat.{flat_body}
use Rattle.scasp_syntax.specs.Instances.{atom_under}
use Rattle.scasp_syntax.specs.Programs.{numbered}
use Rattle.scasp_syntax.specs.Tm.{items}
use Rattle.scasp_syntax.specs.Values.{Sub, giving}
use Rattle.scasp_syntax.specs.declared.atom.Atom.{Atom}
use Rattle.scasp_syntax.specs.declared.clause.Clause.{Clause}
use Rattle.scasp_syntax.specs.declared.clause.FlatItem.{FlatItem}
use Rattle.scasp_syntax.specs.declared.clause.Query.{Query}
use Rattle.scasp_syntax.specs.declared.program.Program.{Program}
use Rattle.scasp_cert.specs.Certificate.{Certificate}
use Rattle.scasp_cert.specs.Lines.{lines_of, lines_at}
use Rattle.scasp_cert.specs.Trees.{Tree, Trees, Branch, Branches, pos_tree, neg_tree, loop_tree, seen_tree, test_tree, no_tree, tree, split, void, leaf, head, no_branch, branch, listed}
use Rattle.scasp_lines.specs.Below.{count, rule_numbers, HasNode, HasRule, HasCase, HasItems, HasRules, HasRuleCase, HasCheckCase, HasSides, HasFalseItem, HasHead, HasBelow}
use Rattle.scasp_lines.specs.Dues.{due_of, dues_until, head_due, Due, goal, rule_dues, leaf_dues, head_dues, query_dues, values_here}
use Rattle.scasp_lines.specs.Places.{Place, below_literal, within_case, start}
use Rattle.scasp_lines.specs.Bodies.{Body, split_body, inside_rule, inside_check}
use Rattle.scasp_lines.specs.Walk.{Part, of_node, of_rule, of_check, of_case, Line, Setting, Walked, line, node_walk, nodes_walk, branch_walk, covers_walk, part_walk}
use Rattle.scasp_lines.specs.Sides.{Sides, sides}
use Rattle.scasp_lines.specs.Lines.{setting, lines, walk_of}
use Rattle.scasp_list.proofs.MemberLemmas.{Contains-none, Contains-here, Contains-there, Contains-cases, Contains-map}

module _ (s : Setting) where
  node-root : (here : Place) (at next : ℕ) (due : Due) (t : Tree) → Contains (node_walk s here at next due t).lines (line at next here (of_node due t))
  node-root here at next due (pos_tree a k ts children) = Contains-here _ _
  node-root here at next due (neg_tree a covers) = Contains-here _ _
  node-root here at next due (loop_tree lit to) = Contains-here _ []
  node-root here at next due (seen_tree lit to) = Contains-here _ []
  node-root here at next due (test_tree c hint) = Contains-here _ []

  pub branch-root : (here : Place) (at next : ℕ) (body : Body) (b : Branch) → Contains (branch_walk s here at next body b).lines (line at next here (of_case body b))
  branch-root here at next body (split c first second) = Contains-here _ _
  branch-root here at next body (void hint) = Contains-here _ []
  branch-root here at next body (leaf k children) = Contains-here _ _
  branch-root here at next body (head children) = Contains-here _ _

  -- of as many nodes as dues each due has one
  nodes-have : (here : Place) (at next : ℕ) (dues : List Due) (ts : Trees) (due : Due) → count ts ≡ length dues → Contains dues due → HasNode (nodes_walk s here at next dues ts).lines here due
  nodes-have here at next [] ts due e h = absurd (Contains-none due h)
  nodes-have here at next (d ∷ ds) no_tree due e h = cc
  nodes-have here at next (d ∷ ds) (tree t ts) due e h =
      let first : Walked = node_walk s here at next d t in
      elim (Contains-cases d ds due h) [
        | inl same ↦ record {
          line = line at next here (of_node d t);
          listed = Contains-append_left first.lines _ _ (node-root here at next d t);
          there = refl;
          tree = t;
          is = ap (λ (x : Due). of_node x t) same;
        }
        | inr later ↦
            (let fewer : count ts ≡ length ds = cc in
            let rest = nodes-have here (at + lines_of t) first.next ds ts due fewer later in
            record { line = rest.line; listed = Contains-append_right first.lines _ _ rest.listed; there = rest.there; tree = rest.tree; is = rest.is })
      ]

  covers-have : (here : Place) (at next : ℕ) (a : Atom) (bs : Branches) (k : ℕ) → Contains (rule_numbers bs) k → HasRule (covers_walk s here at next a bs).lines here k a
  covers-have here at next a no_branch k h = absurd (Contains-none k h)
  covers-have here at next a (branch r b bs) k h =
      let i = inside_rule (numbered s.clauses r) a next here in
      let one : Walked = branch_walk s i.here (suc at) i.next i.body b in
      let own : Line = line at next here (of_rule r a b) in
      elim (Contains-cases r (rule_numbers bs) k h) [
        | inl same ↦ record {
          line = own;
          listed = Contains-append_left (own ∷ one.lines) _ own (Contains-here own one.lines);
          there = refl;
          case = b;
          is = ap (λ (x : ℕ). of_rule x a b) same;
        }
        | inr later ↦
            (let rest = covers-have here (at + (1 + lines_at b)) one.next a bs k later in
            record { line = rest.line; listed = Contains-append_right (own ∷ one.lines) _ _ rest.listed; there = rest.there; case = rest.case; is = rest.is })
      ]

  -- one line further up
  node-below : (l : Line) (ls : List Line) (here : Place) (due : Due) → HasNode ls here due → HasNode (l ∷ ls) here due
  node-below l ls here due h = record { line = h.line; listed = Contains-there l ls h.line h.listed; there = h.there; tree = h.tree; is = h.is }

-- ---- dues

length-map : {X Y : Type 0} → (f : X → Y) (xs : List X) → length (map f xs) ≡ length xs
length-map f [] = refl
length-map f (x ∷ xs) = ap suc (length-map f xs)

-- the item of this number is the last that is due, and so many are
until-has : (m : Sub) (k : ℕ) (is : List FlatItem) (i : FlatItem) → slice_get is k ≡ Some i → Contains (dues_until m (suc k) is) (due_of m false i)
until-has m k [] i e = cc
until-has m zero (x ∷ is) i e = let same : x ≡ i = cc in subst (λ (z : FlatItem). Contains (due_of m false z ∷ []) (due_of m false i)) (sym same) (Contains-here (due_of m false i) [])
until-has m (suc k) (x ∷ is) i e = Contains-there (due_of m true x) (dues_until m (suc k) is) (due_of m false i) (until-has m k is i e)

until-long : (m : Sub) (k : ℕ) (is : List FlatItem) (i : FlatItem) → slice_get is k ≡ Some i → length (dues_until m (suc k) is) ≡ suc k
until-long m k [] i e = cc
until-long m zero (x ∷ is) i e = refl
until-long m (suc k) (x ∷ is) i e = ap suc (until-long m k is i e)

-- ---- below each line

module _ (s : Setting) (l : Line) where
  -- a fact of the walk of what stands there
  turned : (part : Part) (P : List Line → Type 0) → l.part ≡ part → P (part_walk s l.here l.at l.next part).lines → P (walk_of s l)
  turned part P e h = subst (λ (z : Part). P (part_walk s l.here l.at l.next z).lines) (sym e) h

  has-items : HasItems s l
  has-items due a k ts children e c there many i h =
      let m : Sub = values_here l.here (giving (items ts)) in
      let long : count children ≡ length (rule_dues (numbered s.clauses k) l.here ts) =
      many ∙ sym (length-map (due_of m true) (flat_body c.body)) ∙ ap (λ (o : Option Clause). length (rule_dues o l.here ts)) (sym there) in
      let due_there : Contains (rule_dues (numbered s.clauses k) l.here ts) (due_of m true i) =
      subst (λ (o : Option Clause). Contains (rule_dues o l.here ts) (due_of m true i)) (sym there) (Contains-map (due_of m true) (flat_body c.body) i h) in
      turned (of_node due (pos_tree a k ts children)) (λ ls. HasNode ls (below_literal l.at true a l.here) (due_of m true i)) e
      (node-below s _ _ (below_literal l.at true a l.here) (due_of m true i)
      (nodes-have s (below_literal l.at true a l.here) (suc l.at) l.next (rule_dues (numbered s.clauses k) l.here ts) children (due_of m true i) long due_there))

  has-rules : HasRules s l
  has-rules due a covers e k h =
      let r = covers-have s (below_literal l.at false a l.here) (suc l.at) l.next a covers k h in
      turned (of_node due (neg_tree a covers)) (λ ls. HasRule ls (below_literal l.at false a l.here) k a) e
      (record { line = r.line; listed = Contains-there _ _ r.line r.listed; there = r.there; case = r.case; is = r.is })

  has-rule_case : HasRuleCase s l
  has-rule_case k a b e =
      let i = inside_rule (numbered s.clauses k) a l.next l.here in
      turned (of_rule k a b) (λ ls. HasCase ls i.here i.body b) e
      (record { line = line (suc l.at) i.next i.here (of_case i.body b); listed = Contains-there _ _ _ (branch-root s i.here (suc l.at) i.next i.body b); there = refl; is = refl })

  has-check_case : HasCheckCase s l
  has-check_case k b e =
      let i = inside_check (numbered s.clauses k) l.next l.here in
      turned (of_check k b) (λ ls. HasCase ls i.here i.body b) e
      (record { line = line (suc l.at) i.next i.here (of_case i.body b); listed = Contains-there _ _ _ (branch-root s i.here (suc l.at) i.next i.body b); there = refl; is = refl })

  has-sides : HasSides s l
  has-sides body c first second e =
      let both : Sides = sides s.free s.top c l.here l.next in
      let one : Walked = branch_walk s both.first (suc l.at) both.next (split_body body) first in
      let two : Walked = branch_walk s both.second (suc l.at + lines_at first) one.next (split_body body) second in
      let left : HasCase (part_walk s l.here l.at l.next (of_case body (split c first second))).lines both.first (split_body body) first =
      record {
        line = line (suc l.at) both.next both.first (of_case (split_body body) first);
        listed = Contains-there _ (one.lines ++ two.lines) _ (Contains-append_left one.lines two.lines _ (branch-root s both.first (suc l.at) both.next (split_body body) first));
        there = refl;
        is = refl;
      } in
      let right : HasCase (part_walk s l.here l.at l.next (of_case body (split c first second))).lines both.second (split_body body) second =
      record {
        line = line (suc l.at + lines_at first) one.next both.second (of_case (split_body body) second);
        listed = Contains-there _ (one.lines ++ two.lines) _ (Contains-append_right one.lines two.lines _ (branch-root s both.second (suc l.at + lines_at first) one.next (split_body body) second));
        there = refl;
        is = refl;
      } in (
        turned (of_case body (split c first second)) (λ ls. HasCase ls both.first (split_body body) first) e left,
        turned (of_case body (split c first second)) (λ ls. HasCase ls both.second (split_body body) second) e right,
      )

  has-false_item : HasFalseItem s l
  has-false_item body zero children e many i h = cc
  has-false_item body (suc k) children e many i h =
      let m : Sub = values_here l.here body.values in
      turned (of_case body (leaf (suc k) children)) (λ ls. HasNode ls (within_case l.at body.bare l.here) (due_of m false i)) e
      (node-below s _ _ (within_case l.at body.bare l.here) (due_of m false i)
      (nodes-have s (within_case l.at body.bare l.here) (suc l.at) l.next (leaf_dues l.here body (suc k)) children (due_of m false i)
      (many ∙ sym (until-long m k body.items i h)) (until-has m k body.items i h)))

  has-head : HasHead s l
  has-head body children e many h is =
      let m : Sub = values_here l.here body.values in
      let own : Due = goal (record { positive = true; atom = atom_under m h }) in
      let before : List Due = map (due_of m true) body.items in
      let last : head_due m body.head ≡ own ∷ [] = ap (head_due m) is in
      let long : count children ≡ length (head_dues l.here body) =
      many ∙ sym (length-append before (head_due m body.head) ∙ ap (λ (ds : List Due). length before + length ds) last ∙ ap (λ n. n + 1) (length-map (due_of m true) body.items)) in
      let there : Contains (head_dues l.here body) own =
      Contains-append_right before (head_due m body.head) own (subst (λ (ds : List Due). Contains ds own) (sym last) (Contains-here own [])) in
      turned (of_case body (head children)) (λ ls. HasNode ls (within_case l.at body.bare l.here) own) e
      (node-below s _ _ (within_case l.at body.bare l.here) own (nodes-have s (within_case l.at body.bare l.here) (suc l.at) l.next (head_dues l.here body) children own long there))

pub has-below : (s : Setting) (l : Line) → HasBelow s l
has-below s l =
    record {
      items_of = has-items s l;
      rules_of = has-rules s l;
      rule_case = has-rule_case s l;
      check_case = has-check_case s l;
      sides_of = has-sides s l;
      false_item = has-false_item s l;
      head_of = has-head s l;
    }

-- each item of the query has its node
pub has-query : (p : Program) (c : Certificate) (q : Query) → numbered p.queries c.query ≡ Some q → count (listed c.trees) ≡ length (flat_body q.body) → (i : FlatItem) → Contains (flat_body q.body) i
    → HasNode (lines p c) (start (setting p.clauses c).top) (due_of (giving (items c.terms)) true i)
has-query p c q there many i h =
    let s : Setting = setting p.clauses c in
    let m : Sub = giving (items c.terms) in
    let long : count (listed c.trees) ≡ length (query_dues (numbered p.queries c.query) c.terms) =
    many ∙ sym (length-map (due_of m true) (flat_body q.body)) ∙ ap (λ (o : Option Query). length (query_dues o c.terms)) (sym there) in
    let due_there : Contains (query_dues (numbered p.queries c.query) c.terms) (due_of m true i) =
    subst (λ (o : Option Query). Contains (query_dues o c.terms) (due_of m true i)) (sym there) (Contains-map (due_of m true) (flat_body q.body) i h) in
    let n = nodes-have s (start s.top) 1 s.free (query_dues (numbered p.queries c.query) c.terms) (listed c.trees) (due_of m true i) long due_there in
    record {
      line = n.line;
      listed = Contains-append_left (nodes_walk s (start s.top) 1 s.free (query_dues (numbered p.queries c.query) c.terms) (listed c.trees)).lines _ n.line n.listed;
      there = n.there;
      tree = n.tree;
      is = n.is;
    }
