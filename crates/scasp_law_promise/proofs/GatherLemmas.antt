-- What stands on the lines of a certificate is what its trees have.
use Rattle.std.proofs.Common.{ℕ, suc, ◌+◌, true, false, List, [], ◌∷◌, ◌++◌, subst, inl, inr}
use Rattle.std.specs.List.{Contains, flat_map}
use Rattle.std.proofs.lemmas.List.Elements.{Contains-append_left, Contains-append_right, Contains-append_cases}
use Rattle.scasp_list.proofs.MemberLemmas.{Contains-none, Contains-cases}
use Rattle.scasp_syntax.specs.Programs.{numbered}
use Rattle.scasp_syntax.specs.Tm.{Tms}
use Rattle.scasp_syntax.specs.declared.atom.Atom.{Atom}
use Rattle.scasp_syntax.specs.declared.con.Con.{Con}
use Rattle.scasp_syntax.specs.declared.program.Program.{Program}
use Rattle.scasp_cert.specs.Certificate.{Certificate}
use Rattle.scasp_cert.specs.Lines.{lines_of, lines_below, lines_at}
use Rattle.scasp_cert.specs.Trees.{Tree, Trees, Branch, Branches, pos_tree, neg_tree, loop_tree, seen_tree, test_tree, no_tree, tree, split, void, leaf, head, no_branch, branch, listed}
use Rattle.scasp_lines.specs.Bodies.{Body, split_body, inside_rule, inside_check}
use Rattle.scasp_lines.specs.Dues.{Due, first_due, other_dues, query_dues}
use Rattle.scasp_lines.specs.Lines.{lines, setting}
use Rattle.scasp_lines.specs.Places.{Place, below_literal, within_case, start}
use Rattle.scasp_lines.specs.Sides.{Sides, sides}
use Rattle.scasp_lines.specs.Walk.{Part, of_node, of_rule, of_check, of_case, Line, Setting, Walked, line, node_walk, nodes_walk, branch_walk, covers_walk, checks_walk}

-- What each tree and each case has: what stands on its own line, and what those below it have.
pub record Gathers {X : Type 0} (on : Part → List X) (by : Tree → List X) (below : Trees → List X) (inside : Branch → List X) (among : Branches → List X) : Type 0 where
  pub node : (due : Due) (t : Tree) (x : X) → Contains (on (of_node due t)) x → Contains (by t) x
  pub case : (body : Body) (b : Branch) (x : X) → Contains (on (of_case body b)) x → Contains (inside b) x
  pub rule : (k : ℕ) (a : Atom) (b : Branch) (x : X) → Contains (on (of_rule k a b)) x → Contains (inside b) x
  pub check : (k : ℕ) (b : Branch) (x : X) → Contains (on (of_check k b)) x → Contains (inside b) x
  pub children : (a : Atom) (k : ℕ) (ts : Tms) (us : Trees) (x : X) → Contains (below us) x → Contains (by (pos_tree a k ts us)) x
  pub covers : (a : Atom) (bs : Branches) (x : X) → Contains (among bs) x → Contains (by (neg_tree a bs)) x
  pub first_tree : (t : Tree) (ts : Trees) (x : X) → Contains (by t) x → Contains (below (tree t ts)) x
  pub other_trees : (t : Tree) (ts : Trees) (x : X) → Contains (below ts) x → Contains (below (tree t ts)) x
  pub first_side : (c : Con) (f g : Branch) (x : X) → Contains (inside f) x → Contains (inside (split c f g)) x
  pub second_side : (c : Con) (f g : Branch) (x : X) → Contains (inside g) x → Contains (inside (split c f g)) x
  pub of_leaf : (k : ℕ) (ts : Trees) (x : X) → Contains (below ts) x → Contains (inside (leaf k ts)) x
  pub of_head : (ts : Trees) (x : X) → Contains (below ts) x → Contains (inside (head ts)) x
  pub first_cover : (k : ℕ) (b : Branch) (bs : Branches) (x : X) → Contains (inside b) x → Contains (among (branch k b bs)) x
  pub other_covers : (k : ℕ) (b : Branch) (bs : Branches) (x : X) → Contains (among bs) x → Contains (among (branch k b bs)) x

module _ {X : Type 0} (on : Part → List X) (by : Tree → List X) (below : Trees → List X) (inside : Branch → List X) (among : Branches → List X)
    (g : Gathers on by below inside among) (P : X → Type 0) where
  abbrev All : List X → Type 0
  All xs = (x : X) → Contains xs x → P x

  -- P holds of all that stands on these lines
  pub record Passed (ls : List Line) : Type 0 where
    pub at : (l : Line) → Contains ls l → All (on l.part)

  none : Passed []
  none = record { at = λ l i. absurd (Contains-none l i) }

  started-by : (l : Line) (ls : List Line) → All (on l.part) → Passed ls → Passed (l ∷ ls)
  started-by l ls h a =
      record { at = λ k i. elim (Contains-cases l ls k i) [ inl e ↦ subst (λ (y : Line). All (on y.part)) e h | inr j ↦ a.at k j ] }

  followed-by : (xs ys : List Line) → Passed xs → Passed ys → Passed (xs ++ ys)
  followed-by xs ys a b =
      record { at = λ k i. elim (Contains-append_cases xs ys k i) [ inl j ↦ a.at k j | inr j ↦ b.at k j ] }

  module _ (s : Setting) where
    mutual
      node-passed : (here : Place) (at next : ℕ) (due : Due) (t : Tree) → All (by t) → Passed (node_walk s here at next due t).lines
      node-passed here at next due (pos_tree a k ts us) h =
          started-by _ _ (λ x i. h x (g.node due (pos_tree a k ts us) x i))
          (nodes-passed (below_literal at true a here) (suc at) next _ us (λ x i. h x (g.children a k ts us x i)))
      node-passed here at next due (neg_tree a bs) h =
          started-by _ _ (λ x i. h x (g.node due (neg_tree a bs) x i))
          (covers-passed (below_literal at false a here) (suc at) next a bs (λ x i. h x (g.covers a bs x i)))
      node-passed here at next due (loop_tree lit to) h = started-by _ _ (λ x i. h x (g.node due (loop_tree lit to) x i)) none
      node-passed here at next due (seen_tree lit to) h = started-by _ _ (λ x i. h x (g.node due (seen_tree lit to) x i)) none
      node-passed here at next due (test_tree c hint) h = started-by _ _ (λ x i. h x (g.node due (test_tree c hint) x i)) none

      nodes-passed : (here : Place) (at next : ℕ) (dues : List Due) (ts : Trees) → All (below ts) → Passed (nodes_walk s here at next dues ts).lines
      nodes-passed here at next dues no_tree h = none
      nodes-passed here at next dues (tree t ts) h =
          followed-by _ _ (node-passed here at next (first_due dues) t (λ x i. h x (g.first_tree t ts x i)))
          (nodes-passed here (at + lines_of t) _ (other_dues dues) ts (λ x i. h x (g.other_trees t ts x i)))

      branch-passed : (here : Place) (at next : ℕ) (body : Body) (b : Branch) → All (inside b) → Passed (branch_walk s here at next body b).lines
      branch-passed here at next body (split c one two) h =
          let both : Sides = sides s.free s.top c here next in
          started-by _ _ (λ x i. h x (g.case body (split c one two) x i))
          (followed-by _ _ (branch-passed both.first (suc at) both.next (split_body body) one (λ x i. h x (g.first_side c one two x i)))
          (branch-passed both.second (suc at + lines_at one) _ (split_body body) two (λ x i. h x (g.second_side c one two x i))))
      branch-passed here at next body (void hint) h = started-by _ _ (λ x i. h x (g.case body (void hint) x i)) none
      branch-passed here at next body (leaf k ts) h =
          started-by _ _ (λ x i. h x (g.case body (leaf k ts) x i))
          (nodes-passed (within_case at body.bare here) (suc at) next _ ts (λ x i. h x (g.of_leaf k ts x i)))
      branch-passed here at next body (head ts) h =
          started-by _ _ (λ x i. h x (g.case body (head ts) x i))
          (nodes-passed (within_case at body.bare here) (suc at) next _ ts (λ x i. h x (g.of_head ts x i)))

      covers-passed : (here : Place) (at next : ℕ) (a : Atom) (bs : Branches) → All (among bs) → Passed (covers_walk s here at next a bs).lines
      covers-passed here at next a no_branch h = none
      covers-passed here at next a (branch k b bs) h =
          let i = inside_rule (numbered s.clauses k) a next here in
          let one : Walked = branch_walk s i.here (suc at) i.next i.body b in
          let own : Line = line at next here (of_rule k a b) in
          followed-by (own ∷ one.lines) _
          (started-by own one.lines (λ x j. h x (g.first_cover k b bs x (g.rule k a b x j)))
          (branch-passed i.here (suc at) i.next i.body b (λ x j. h x (g.first_cover k b bs x j))))
          (covers-passed here (at + (1 + lines_at b)) one.next a bs (λ x j. h x (g.other_covers k b bs x j)))

    checks-passed : (here : Place) (at next : ℕ) (cs : List (ℕ × Branch)) → All (flat_map (λ k. inside k.1) cs) → Passed (checks_walk s here at next cs).lines
    checks-passed here at next [] h = none
    checks-passed here at next (c ∷ cs) h =
        let i = inside_check (numbered s.clauses c.0) next here in
        let one : Walked = branch_walk s i.here (suc at) i.next i.body c.1 in
        let own : Line = line at next here (of_check c.0 c.1) in
        let rest : List X = flat_map (λ k. inside k.1) cs in
        followed-by (own ∷ one.lines) _
        (started-by own one.lines (λ x j. h x (Contains-append_left (inside c.1) rest x (g.check c.0 c.1 x j)))
        (branch-passed i.here (suc at) i.next i.body c.1 (λ x j. h x (Contains-append_left (inside c.1) rest x j))))
        (checks-passed here (at + (1 + lines_at c.1)) one.next cs (λ x j. h x (Contains-append_right (inside c.1) rest x j)))

  -- P holds of all that stands on lines where it holds of all that the trees and the checks have
  pub lines-passed : (p : Program) (c : Certificate) → All (below (listed c.trees) ++ flat_map (λ k. inside k.1) c.checks) → Passed (lines p c)
  lines-passed p c h =
      let s : Setting = setting p.clauses c in
      let trees : List X = below (listed c.trees) in
      let checks : List X = flat_map (λ k. inside k.1) c.checks in
      followed-by _ _
      (nodes-passed s (start s.top) 1 s.free (query_dues (numbered p.queries c.query) c.terms) (listed c.trees) (λ x i. h x (Contains-append_left trees checks x i)))
      (checks-passed s (start s.top) (1 + lines_below (listed c.trees)) _ c.checks (λ x i. h x (Contains-append_right trees checks x i)))
