-- The node of an item below a firm literal is firm.
use Rattle.std.proofs.Common.{◌≡◌, ◌∙◌, ℕ, suc, ◌+◌, true, List, [], ◌∷◌, map, length, Option, Some, refl, ap, sym, subst, inl, inr}
use Rattle.std.specs.List.{Contains}
use Rattle.std.proofs.lemmas.Bool.{and_parts}
use Rattle.std.proofs.lemmas.List.Elements.{Contains-append_left, Contains-append_right}
use Rattle.scasp_list.proofs.MemberLemmas.{Contains-none, Contains-here, Contains-there, Contains-cases, Contains-map}
use Rattle.scasp_syntax.specs.Flat.{flat_body}
use Rattle.scasp_syntax.specs.Programs.{numbered}
use Rattle.scasp_syntax.specs.Tm.{Tms, items}
use Rattle.scasp_syntax.specs.Values.{Sub, giving}
use Rattle.scasp_syntax.specs.declared.atom.Atom.{Atom}
use Rattle.scasp_syntax.specs.declared.clause.Clause.{Clause}
use Rattle.scasp_syntax.specs.declared.clause.FlatItem.{FlatItem}
use Rattle.scasp_cert.specs.Lines.{lines_of}
use Rattle.scasp_cert.specs.Trees.{Tree, Trees, pos_tree, neg_tree, loop_tree, seen_tree, test_tree, no_tree, tree}
use Rattle.scasp_lines.specs.Below.{HasNode, count}
use Rattle.scasp_lines.specs.Dues.{Due, due_of, rule_dues, values_here}
use Rattle.scasp_lines.specs.Lines.{walk_of}
use Rattle.scasp_lines.specs.Places.{Place, below_literal}
use Rattle.scasp_lines.specs.Walk.{Part, of_node, Line, Setting, Walked, line, node_walk, nodes_walk, part_walk}
use Rattle.scasp_checker_rules.specs.Firm.{is_firm, are_firm}

pub record FirmNode (ls : List Line) (here : Place) (due : Due) (ts : Trees) : Type 0 where
  pub node : HasNode ls here due
  pub firm : are_firm ts ≡ true → is_firm node.tree ≡ true

module _ (s : Setting) where
  root : (here : Place) (at next : ℕ) (due : Due) (t : Tree) → Contains (node_walk s here at next due t).lines (line at next here (of_node due t))
  root here at next due (pos_tree a k ts children) = Contains-here _ _
  root here at next due (neg_tree a covers) = Contains-here _ _
  root here at next due (loop_tree lit to) = Contains-here _ []
  root here at next due (seen_tree lit to) = Contains-here _ []
  root here at next due (test_tree c hint) = Contains-here _ []

  nodes-firm : (here : Place) (at next : ℕ) (dues : List Due) (ts : Trees) (due : Due) → count ts ≡ length dues → Contains dues due → FirmNode (nodes_walk s here at next dues ts).lines here due ts
  nodes-firm here at next [] ts due e h = absurd (Contains-none due h)
  nodes-firm here at next (d ∷ ds) no_tree due e h = cc
  nodes-firm here at next (d ∷ ds) (tree t ts) due e h =
      let first : Walked = node_walk s here at next d t in
      elim (Contains-cases d ds due h) [
        | inl same ↦ record {
          node = record {
            line = line at next here (of_node d t);
            listed = Contains-append_left first.lines _ _ (root here at next d t);
            there = refl;
            tree = t;
            is = ap (λ (x : Due). of_node x t) same;
          };
          firm = λ f. (and_parts (is_firm t) (are_firm ts) f).0;
        }
        | inr later ↦
            (let fewer : count ts ≡ length ds = cc in
            let rest = nodes-firm here (at + lines_of t) first.next ds ts due fewer later in
            let n = rest.node in
            record {
              node = record { line = n.line; listed = Contains-append_right first.lines _ _ n.listed; there = n.there; tree = n.tree; is = n.is };
              firm = λ f. rest.firm (and_parts (is_firm t) (are_firm ts) f).1;
            })
      ]

length-map : {X Y : Type 0} → (f : X → Y) (xs : List X) → length (map f xs) ≡ length xs
length-map f [] = refl
length-map f (x ∷ xs) = ap suc (length-map f xs)

-- each item of a rule has its node, which is firm where the literal is
pub item-node : (s : Setting) (l : Line) (due : Due) (a : Atom) (k : ℕ) (ts : Tms) (children : Trees) → l.part ≡ of_node due (pos_tree a k ts children)
    → (c : Clause) → numbered s.clauses k ≡ Some c → count children ≡ length (flat_body c.body) → (i : FlatItem) → Contains (flat_body c.body) i
    → FirmNode (walk_of s l) (below_literal l.at true a l.here) (due_of (values_here l.here (giving (items ts))) true i) children
item-node s l due a k ts children e c there many i h =
    let m : Sub = values_here l.here (giving (items ts)) in
    let dues = rule_dues (numbered s.clauses k) l.here ts in
    let long : count children ≡ length dues =
    many ∙ sym (length-map (due_of m true) (flat_body c.body)) ∙ ap (λ (o : Option Clause). length (rule_dues o l.here ts)) (sym there) in
    let due_there : Contains dues (due_of m true i) =
    subst (λ (o : Option Clause). Contains (rule_dues o l.here ts) (due_of m true i)) (sym there) (Contains-map (due_of m true) (flat_body c.body) i h) in
    let below = nodes-firm s (below_literal l.at true a l.here) (suc l.at) l.next dues children (due_of m true i) long due_there in
    let n = below.node in
    subst (λ (x : Part). FirmNode (part_walk s l.here l.at l.next x).lines (below_literal l.at true a l.here) (due_of m true i) children) (sym e)
    (record {
      node = record { line = n.line; listed = Contains-there _ _ n.line n.listed; there = n.there; tree = n.tree; is = n.is };
      firm = below.firm;
    })
