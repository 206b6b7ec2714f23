-- At each line there is room for the universal variables that begin there.
use Rattle.std.proofs.Common.{ℕ, suc, ◌+◌, ◌≤◌, true, false, List, [], ◌∷◌, ◌++◌, subst, inl, inr, arith}
use Rattle.std.specs.List.{Contains}
use Rattle.std.proofs.lemmas.List.Elements.{Contains-append_cases}
use Rattle.scasp_list.proofs.MemberLemmas.{Contains-none, Contains-cases}
use Rattle.scasp_syntax.specs.Programs.{numbered}
use Rattle.scasp_syntax.specs.declared.atom.Atom.{Atom}
use Rattle.scasp_syntax.specs.declared.program.Program.{Program}
use Rattle.scasp_cert.specs.Certificate.{Certificate}
use Rattle.scasp_cert.specs.Lines.{lines_of, lines_below, lines_at}
use Rattle.scasp_cert.specs.Trees.{Tree, Trees, Branch, Branches, pos_tree, neg_tree, loop_tree, seen_tree, test_tree, no_tree, tree, split, void, leaf, head, no_branch, branch, listed}
use Rattle.scasp_lines.specs.Bodies.{Body, split_body, inside_rule, inside_check}
use Rattle.scasp_lines.specs.Dues.{Due, first_due, other_dues, query_dues}
use Rattle.scasp_lines.specs.Lines.{lines, setting}
use Rattle.scasp_lines.specs.Places.{Place, below_literal, within_case, start}
use Rattle.scasp_lines.specs.Rooms.{room_of_clause, room_of_con, room_of, room_below, room_at, room_in, room_under, room_of_part}
use Rattle.scasp_lines.specs.Sides.{Sides, sides}
use Rattle.scasp_lines.specs.Walk.{of_rule, of_check, Line, Setting, Walked, line, node_walk, nodes_walk, branch_walk, covers_walk, checks_walk}
use Rattle.scasp_lines.proofs.CounterLemmas.{rule-rises, check-rises, sides-rise, node-rises, nodes-rise, branch-rises}

module _ (s : Setting) (top : ℕ) where
  abbrev HasRoom : Line → Type 0
  HasRoom l = (l.next + room_of_part s.clauses l.part) ≤ top

  pub record Roomy (ls : List Line) : Type 0 where
    pub at : (x : Line) → Contains ls x → HasRoom x

  none : Roomy []
  none = record { at = λ x h. absurd (Contains-none x h) }

  started-by : (l : Line) (ls : List Line) → HasRoom l → Roomy ls → Roomy (l ∷ ls)
  started-by l ls h a = record { at = λ x i. elim (Contains-cases l ls x i) [ inl e ↦ subst HasRoom e h | inr j ↦ a.at x j ] }

  followed-by : (xs ys : List Line) → Roomy xs → Roomy ys → Roomy (xs ++ ys)
  followed-by xs ys a b = record { at = λ x i. elim (Contains-append_cases xs ys x i) [ inl j ↦ a.at x j | inr j ↦ b.at x j ] }

  mutual
    pub node-roomy : (here : Place) (at next : ℕ) (due : Due) (t : Tree) → (next + room_of s.clauses t) ≤ top → Roomy (node_walk s here at next due t).lines
    node-roomy here at next due (pos_tree a r ts children) l = started-by _ _ l (nodes-roomy (below_literal at true a here) (suc at) next _ children l)
    node-roomy here at next due (neg_tree a covers) l = started-by _ _ l (covers-roomy (below_literal at false a here) (suc at) next a covers l)
    node-roomy here at next due (loop_tree lit to) l = started-by _ _ l none
    node-roomy here at next due (seen_tree lit to) l = started-by _ _ l none
    node-roomy here at next due (test_tree c hint) l = started-by _ _ l none

    pub nodes-roomy : (here : Place) (at next : ℕ) (dues : List Due) (ts : Trees) → (next + room_below s.clauses ts) ≤ top → Roomy (nodes_walk s here at next dues ts).lines
    nodes-roomy here at next dues no_tree l = none
    nodes-roomy here at next dues (tree t ts) l =
        let first = node_walk s here at next (first_due dues) t in
        let r = node-rises s here at next (first_due dues) t in
        let most = r.most in
        let end : (first.next + room_below s.clauses ts) ≤ top = omega (arith, l, most) in
        followed-by _ _ (node-roomy here at next (first_due dues) t (omega (arith, l))) (nodes-roomy here (at + lines_of t) first.next (other_dues dues) ts end)

    pub branch-roomy : (here : Place) (at next : ℕ) (body : Body) (b : Branch) → (next + room_at s.clauses b) ≤ top → Roomy (branch_walk s here at next body b).lines
    branch-roomy here at next body (split c first second) l =
        let both : Sides = sides s.free s.top c here next in
        let one : Walked = branch_walk s both.first (suc at) both.next (split_body body) first in
        let r = sides-rise _ next here c in
        let split_most : both.next ≤ next + room_of_con c = r.most in
        let t = branch-rises s both.first (suc at) both.next (split_body body) first in
        let one_most : one.next ≤ both.next + room_at s.clauses first = t.most in
        let end : (one.next + room_at s.clauses second) ≤ top = omega (arith, l, split_most, one_most) in
        started-by _ _ l
        (followed-by _ _ (branch-roomy both.first (suc at) both.next (split_body body) first (omega (arith, l, split_most)))
        (branch-roomy both.second (suc at + lines_at first) one.next (split_body body) second end))
    branch-roomy here at next body (void hint) l = started-by _ _ l none
    branch-roomy here at next body (leaf r children) l = started-by _ _ l (nodes-roomy (within_case at body.bare here) (suc at) next _ children l)
    branch-roomy here at next body (head children) l = started-by _ _ l (nodes-roomy (within_case at body.bare here) (suc at) next _ children l)

    pub covers-roomy : (here : Place) (at next : ℕ) (a : Atom) (bs : Branches) → (next + room_in s.clauses bs) ≤ top → Roomy (covers_walk s here at next a bs).lines
    covers-roomy here at next a no_branch l = none
    covers-roomy here at next a (branch r b bs) l =
        let i = inside_rule (numbered s.clauses r) a next here in
        let one : Walked = branch_walk s i.here (suc at) i.next i.body b in
        let u = rule-rises (numbered s.clauses r) a next here in
        let cover_most : i.next ≤ next + room_of_clause (numbered s.clauses r) = u.most in
        let t = branch-rises s i.here (suc at) i.next i.body b in
        let one_most : one.next ≤ i.next + room_at s.clauses b = t.most in
        let end : (one.next + room_in s.clauses bs) ≤ top = omega (arith, l, cover_most, one_most) in
        let own : Line = line at next here (of_rule r a b) in
        followed-by (own ∷ one.lines) _
        (started-by own one.lines (omega (arith, l)) (branch-roomy i.here (suc at) i.next i.body b (omega (arith, l, cover_most))))
        (covers-roomy here (at + (1 + lines_at b)) one.next a bs end)

  pub checks-roomy : (here : Place) (at next : ℕ) (cs : List (ℕ × Branch)) → (next + room_under s.clauses cs) ≤ top → Roomy (checks_walk s here at next cs).lines
  checks-roomy here at next [] l = none
  checks-roomy here at next (c ∷ cs) l =
      let i = inside_check (numbered s.clauses c.0) next here in
      let one : Walked = branch_walk s i.here (suc at) i.next i.body c.1 in
      let u = check-rises (numbered s.clauses c.0) next here in
      let check_most : i.next ≤ next + room_of_clause (numbered s.clauses c.0) = u.most in
      let t = branch-rises s i.here (suc at) i.next i.body c.1 in
      let one_most : one.next ≤ i.next + room_at s.clauses c.1 = t.most in
      let end : (one.next + room_under s.clauses cs) ≤ top = omega (arith, l, check_most, one_most) in
      let own : Line = line at next here (of_check c.0 c.1) in
      followed-by (own ∷ one.lines) _
      (started-by own one.lines (omega (arith, l)) (branch-roomy i.here (suc at) i.next i.body c.1 (omega (arith, l, check_most))))
      (checks-roomy here (at + (1 + lines_at c.1)) one.next cs end)

-- at each line of a certificate
pub lines-roomy : (p : Program) (c : Certificate) (l : Line) → Contains (lines p c) l → (l.next + room_of_part p.clauses l.part) ≤ (setting p.clauses c).top
lines-roomy p c l i =
    let s : Setting = setting p.clauses c in
    let first : Walked = nodes_walk s (start s.top) 1 s.free (query_dues (numbered p.queries c.query) c.terms) (listed c.trees) in
    let r = nodes-rise s (start s.top) 1 s.free (query_dues (numbered p.queries c.query) c.terms) (listed c.trees) in
    let most : first.next ≤ s.free + room_below p.clauses (listed c.trees) = r.most in
    let end : (first.next + room_under p.clauses c.checks) ≤ s.top = omega (arith, most) in
    (followed-by s s.top first.lines _
    (nodes-roomy s s.top (start s.top) 1 s.free (query_dues (numbered p.queries c.query) c.terms) (listed c.trees) (omega arith))
    (checks-roomy s s.top (start s.top) (1 + lines_below (listed c.trees)) first.next c.checks end)).at l i
