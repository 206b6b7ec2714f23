-- The number of the next universal variable: it does not fall, and rises by no more than there is room for.
use Rattle.std.proofs.Common.{◌≡◌, ℕ, zero, suc, ◌+◌, ◌≤◌, Bool, List, length, Option, None, Some, refl, ap, sym, arith}
use Rattle.std.proofs.lemmas.Bool.{cond_both}
use Rattle.std.specs.Prelude.{◌&&◌, nat_lt}
use Rattle.scasp_syntax.specs.Programs.{numbered}
use Rattle.scasp_syntax.specs.Same.{same_tms}
use Rattle.scasp_syntax.specs.Tm.{Tm, var, num, app, items}
use Rattle.scasp_syntax.specs.View.{tm_of}
use Rattle.scasp_syntax.specs.declared.atom.Atom.{Atom}
use Rattle.scasp_syntax.specs.declared.clause.Clause.{Clause}
use Rattle.scasp_syntax.specs.declared.con.Con.{Con}
use Rattle.scasp_syntax.specs.declared.con.Con.TheVariants as con
use Rattle.scasp_cert.specs.Lines.{lines_of, lines_at}
use Rattle.scasp_cert.specs.Trees.{Tree, Trees, Branch, Branches, pos_tree, neg_tree, loop_tree, seen_tree, test_tree, no_tree, tree, split, void, leaf, head, no_branch, branch}
use Rattle.scasp_unify.specs.Negations.{new_parts}
use Rattle.scasp_lines.specs.Covers.{Cover, with_universal, with_universals, cover_from}
use Rattle.scasp_lines.specs.Openings.{bound_to, unopened}
use Rattle.scasp_lines.specs.Places.{Place}
use Rattle.scasp_lines.specs.Bodies.{Body, split_body, inside_rule, inside_check, open_head}
use Rattle.scasp_lines.specs.Dues.{Due, first_due, other_dues}
use Rattle.scasp_lines.specs.Sides.{Shape, shape_between, shape_of, shape_sides, sides_by}
use Rattle.scasp_lines.specs.Walk.{Setting, node_walk, nodes_walk, branch_walk, covers_walk, check_walk}
use Rattle.scasp_lines.specs.Rooms.{room_of_clause, arguments, room_of_con, room_of, room_below, room_at, room_in}

-- the next number behind is at least this one, and at most so much above it
pub record Rises (next room behind : ℕ) : Type 0 where
  pub least : next ≤ behind
  pub most : behind ≤ next + room

rises-none : (next : ℕ) → Rises next 0 next
rises-none next = record { least = omega arith; most = omega arith }

rises-wider : (next a b behind : ℕ) → a ≤ b → Rises next a behind → Rises next b behind
rises-wider next a b behind l r = let p = r.least in let q = r.most in record { least = p; most = omega (arith, l, q) }

rises-then : (next a b middle behind : ℕ) → Rises next a middle → Rises middle b behind → Rises next (a + b) behind
rises-then next a b middle behind r t =
    let p = r.least in let q = r.most in let u = t.least in let w = t.most in
    record { least = omega (arith, p, u); most = omega (arith, q, w) }

universals-rise : (n x : ℕ) (c : Cover) → Rises c.next n (with_universals n x c).next
universals-rise zero x c = rises-none c.next
universals-rise (suc n) x c =
    let one = by (bound_to c.bound x) in
    let rest = universals-rise n (suc x) (with_universal (bound_to c.bound x) x c) in
    rises-wider c.next (1 + n) (suc n) _ (omega arith) (rises-then c.next 1 n _ _ one rest)
  where
    by : (o : Option Tm) → Rises c.next 1 (with_universal o x c).next
    by None = record { least = omega arith; most = omega arith }
    by (Some t) = record { least = omega arith; most = omega arith }

pub rule-rises : (c : Option Clause) (a : Atom) (next : ℕ) (here : Place) → Rises next (room_of_clause c) (inside_rule c a next here).next
rule-rises None a next here = rises-none next
rule-rises (Some c) a next here = universals-rise c.vars 0 (cover_from next (open_head c.head a (unopened here.opened here.hidden)))

pub check-rises : (c : Option Clause) (next : ℕ) (here : Place) → Rises next (room_of_clause c) (inside_check c next here).next
check-rises None next here = rises-none next
check-rises (Some c) next here = universals-rise c.vars 0 (cover_from next (unopened here.opened here.hidden))

module _ (universal : ℕ → Bool) (next : ℕ) (here : Place) where
  between-size : (t u : Tm) (s : Shape) → shape_between next t u ≡ Some s → s.size ≡ arguments u
  between-size (var x) (app f ts) s e =
      cond_both (nat_lt 0 (length (items ts)) && same_tms ts (new_parts next (length (items ts)))) (Some made) None
      (λ (o : Option Shape). o ≡ Some s → s.size ≡ length (items ts)) (λ _ h. let same : made ≡ s = cc in ap (λ (z : Shape). z.size) (sym same)) (λ _ h. absurd (cc)) e
    where
      made : Shape
      made = record { of = x; name = f; size = length (items ts) }
  between-size (var x) (var y) s e = cc
  between-size (var x) (num q) s e = cc
  between-size (num q) u s e = cc
  between-size (app f ts) u s e = cc

  shape-rises : (c : Con) (s : Shape) → shape_of next c ≡ Some s → Rises next (room_of_con c) (shape_sides universal next s c here).next
  shape-rises (con.Eq t u) s e = let size = between-size (tm_of t) (tm_of u) s e in record { least = omega arith; most = omega (arith, size) }
  shape-rises (con.Neq t u) s e = let size = between-size (tm_of t) (tm_of u) s e in record { least = omega arith; most = omega (arith, size) }
  shape-rises (con.NotShape x f n) s e = rises-none next
  shape-rises (con.Num t) s e = rises-none next
  shape-rises (con.NotNum t) s e = rises-none next
  shape-rises (con.Row r) s e = rises-none next

  pub sides-rise : (c : Con) → Rises next (room_of_con c) (sides_by universal next (shape_of next c) c here).next
  sides-rise c = by (shape_of next c) refl
    where
      by : (o : Option Shape) → shape_of next c ≡ o → Rises next (room_of_con c) (sides_by universal next o c here).next
      by None e = rises-wider next 0 (room_of_con c) next (omega arith) (rises-none next)
      by (Some s) e = shape-rises c s e

module _ (s : Setting) where
  mutual
    pub node-rises : (here : Place) (at next : ℕ) (due : Due) (t : Tree) → Rises next (room_of s.clauses t) (node_walk s here at next due t).next
    node-rises here at next due (pos_tree a k ts children) = nodes-rise _ (suc at) next _ children
    node-rises here at next due (neg_tree a covers) = covers-rise _ (suc at) next a covers
    node-rises here at next due (loop_tree lit to) = rises-none next
    node-rises here at next due (seen_tree lit to) = rises-none next
    node-rises here at next due (test_tree c hint) = rises-none next

    pub nodes-rise : (here : Place) (at next : ℕ) (dues : List Due) (ts : Trees) → Rises next (room_below s.clauses ts) (nodes_walk s here at next dues ts).next
    nodes-rise here at next dues no_tree = rises-none next
    nodes-rise here at next dues (tree t ts) =
        rises-then next _ _ _ _ (node-rises here at next (first_due dues) t) (nodes-rise here (at + lines_of t) _ (other_dues dues) ts)

    pub branch-rises : (here : Place) (at next : ℕ) (body : Body) (b : Branch) → Rises next (room_at s.clauses b) (branch_walk s here at next body b).next
    branch-rises here at next body (split c first second) =
        rises-then next _ _ _ _ (sides-rise _ next here c)
        (rises-then _ _ _ _ _ (branch-rises _ (suc at) _ (split_body body) first) (branch-rises _ (suc at + lines_at first) _ (split_body body) second))
    branch-rises here at next body (void hint) = rises-none next
    branch-rises here at next body (leaf k children) = nodes-rise _ (suc at) next _ children
    branch-rises here at next body (head children) = nodes-rise _ (suc at) next _ children

    pub covers-rise : (here : Place) (at next : ℕ) (a : Atom) (bs : Branches) → Rises next (room_in s.clauses bs) (covers_walk s here at next a bs).next
    covers-rise here at next a no_branch = rises-none next
    covers-rise here at next a (branch k b bs) =
        rises-then next _ _ _ _ (rule-rises (numbered s.clauses k) a next here)
        (rises-then _ _ _ _ _ (branch-rises _ (suc at) _ _ b) (covers-rise here (at + (1 + lines_at b)) _ a bs))

  pub check_walk-rises : (here : Place) (at next k : ℕ) (b : Branch) → Rises next (room_of_clause (numbered s.clauses k) + room_at s.clauses b) (check_walk s here at next k b).next
  check_walk-rises here at next k b = rises-then next _ _ _ _ (check-rises (numbered s.clauses k) next here) (branch-rises _ (suc at) _ _ b)
