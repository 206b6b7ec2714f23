-- The lines of each line of a walk lie in that walk.
use Rattle.std.proofs.Common.{◌≡◌, ℕ, suc, ◌+◌, List, [], ◌∷◌, ◌++◌, refl, sym, subst, inl, inr}
use Rattle.std.specs.List.{Contains}
use Rattle.std.proofs.lemmas.List.Elements.{Contains-append_left, Contains-append_right, Contains-append_cases}
use Rattle.scasp_syntax.specs.Programs.{numbered}
use Rattle.scasp_syntax.specs.declared.atom.Atom.{Atom}
use Rattle.scasp_syntax.specs.declared.clause.Clause.{Clause}
use Rattle.scasp_syntax.specs.declared.clause.Query.{Query}
use Rattle.scasp_cert.specs.Certificate.{Certificate}
use Rattle.scasp_cert.specs.Lines.{lines_of, lines_at}
use Rattle.scasp_cert.specs.Trees.{Tree, Trees, Branch, Branches, pos_tree, neg_tree, loop_tree, seen_tree, test_tree, no_tree, tree, split, void, leaf, head, no_branch, branch, listed}
use Rattle.scasp_lines.specs.Places.{Place, start}
use Rattle.scasp_lines.specs.Bodies.{Body, split_body}
use Rattle.scasp_lines.specs.Dues.{Due, first_due, other_dues, query_dues}
use Rattle.scasp_lines.specs.Walk.{Part, of_node, of_rule, of_check, of_case, Line, Setting, node_walk, nodes_walk, branch_walk, covers_walk, checks_walk, part_walk}
use Rattle.scasp_lines.specs.Lines.{setting, certificate_walk, walk_of}
use Rattle.scasp_list.proofs.MemberLemmas.{Contains-none, Contains-there, Contains-cases}

module _ (s : Setting) where
  -- the lines of each of these lines are among them
  pub record Whole (ls : List Line) : Type 0 where
    pub has : (x y : Line) → Contains ls x → Contains (walk_of s x) y → Contains ls y

  whole-none : Whole []
  whole-none = record { has = λ x y h k. absurd (Contains-none x h) }

  whole-started : (l : Line) (ls : List Line) → walk_of s l ≡ l ∷ ls → Whole ls → Whole (l ∷ ls)
  whole-started l ls e w =
      record {
        has = λ x y h k. elim (Contains-cases l ls x h) [
          | inl i ↦ subst (λ (ks : List Line). Contains ks y) e (subst (λ (z : Line). Contains (walk_of s z) y) (sym i) k)
          | inr i ↦ Contains-there l ls y (w.has x y i k)
        ];
      }

  pub whole-followed : (xs ys : List Line) → Whole xs → Whole ys → Whole (xs ++ ys)
  whole-followed xs ys v w =
      record {
        has = λ x y h k. elim (Contains-append_cases xs ys x h) [
          | inl i ↦ Contains-append_left xs ys y (v.has x y i k)
          | inr i ↦ Contains-append_right xs ys y (w.has x y i k)
        ];
      }

  mutual
    node-whole : (here : Place) (at next : ℕ) (due : Due) (t : Tree) → Whole (node_walk s here at next due t).lines
    node-whole here at next due (pos_tree a k ts children) = whole-started _ _ refl (nodes-whole _ (suc at) next _ children)
    node-whole here at next due (neg_tree a covers) = whole-started _ _ refl (covers-whole _ (suc at) next a covers)
    node-whole here at next due (loop_tree lit to) = whole-started _ _ refl whole-none
    node-whole here at next due (seen_tree lit to) = whole-started _ _ refl whole-none
    node-whole here at next due (test_tree c hint) = whole-started _ _ refl whole-none

    pub nodes-whole : (here : Place) (at next : ℕ) (dues : List Due) (ts : Trees) → Whole (nodes_walk s here at next dues ts).lines
    nodes-whole here at next dues no_tree = whole-none
    nodes-whole here at next dues (tree t ts) =
        whole-followed _ _ (node-whole here at next (first_due dues) t) (nodes-whole here (at + lines_of t) _ (other_dues dues) ts)

    branch-whole : (here : Place) (at next : ℕ) (body : Body) (b : Branch) → Whole (branch_walk s here at next body b).lines
    branch-whole here at next body (split c first second) =
        whole-started _ _ refl
        (whole-followed _ _ (branch-whole _ (suc at) _ (split_body body) first) (branch-whole _ (suc at + lines_at first) _ (split_body body) second))
    branch-whole here at next body (void hint) = whole-started _ _ refl whole-none
    branch-whole here at next body (leaf k children) = whole-started _ _ refl (nodes-whole _ (suc at) next _ children)
    branch-whole here at next body (head children) = whole-started _ _ refl (nodes-whole _ (suc at) next _ children)

    covers-whole : (here : Place) (at next : ℕ) (a : Atom) (bs : Branches) → Whole (covers_walk s here at next a bs).lines
    covers-whole here at next a no_branch = whole-none
    covers-whole here at next a (branch k b bs) =
        whole-followed _ _ (whole-started _ _ refl (branch-whole _ (suc at) _ _ b)) (covers-whole here (at + (1 + lines_at b)) _ a bs)

  pub checks-whole : (here : Place) (at next : ℕ) (cs : List (ℕ × Branch)) → Whole (checks_walk s here at next cs).lines
  checks-whole here at next [] = whole-none
  checks-whole here at next (c ∷ cs) =
      whole-followed _ _ (whole-started _ _ refl (branch-whole _ (suc at) _ _ c.1)) (checks-whole here (at + (1 + lines_at c.1)) _ cs)

  pub line-whole : (l : Line) → Whole (walk_of s l)
  line-whole l = by l.part
    where
      by : (part : Part) → Whole (part_walk s l.here l.at l.next part).lines
      by (of_node due t) = node-whole l.here l.at l.next due t
      by (of_rule k a b) = whole-started _ _ refl (branch-whole _ (suc l.at) _ _ b)
      by (of_check k b) = whole-started _ _ refl (branch-whole _ (suc l.at) _ _ b)
      by (of_case body b) = branch-whole l.here l.at l.next body b

pub certificate-whole : (cs : List Clause) (qs : List Query) (c : Certificate) → Whole (setting cs c) (certificate_walk cs qs c).lines
certificate-whole cs qs c =
    let s = setting cs c in
    whole-followed s _ _ (nodes-whole s (start s.top) 1 s.free (query_dues (numbered qs c.query) c.terms) (listed c.trees))
    (checks-whole s (start s.top) _ _ c.checks)
