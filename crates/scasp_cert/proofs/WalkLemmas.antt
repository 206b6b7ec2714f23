-- The lines that are left in a walk over a certificate.
use Rattle.std.proofs.Common.{◌≡◌, ◌∙◌, ℕ, List, [], ◌∷◌, ◌++◌, length, refl, ap, sym, subst, arith, Option, Some}
use Rattle.std.specs.Prelude.{MatchOption}
use Rattle.std.proofs.lemmas.List.{append-nil, append_assoc, length-append}
use Rattle.scasp_cert.specs.Certificate.{Certificate}
use Rattle.scasp_cert.specs.Lines.{all_lines, lines_at, lines_below, lines_in, lines_of, lines_under}
use Rattle.scasp_cert.specs.Trees.{Tree, Trees, Branch, Branches, pos_tree, neg_tree, loop_tree, seen_tree, test_tree, no_tree, tree, split, void, leaf, head, no_branch, branch, listed}
use Rattle.scasp_cert.specs.Walk.{Line, below_case, below_tree, case_line, node_line, walk, walk_at, walk_below, walk_in, walk_of, walk_under}
use Rattle.scasp_cert.specs.WalkView.{line_of, lines_in_stack, lines_left, lines_of_waiting}
use Rattle.scasp_cert.specs.declared.walk.Line.{Line as ThisLine}
use Rattle.scasp_cert.specs.declared.walk.Waiting.{Waiting}
use Rattle.scasp_cert.specs.declared.walk.Walk.{Walk}

pub side_by_side : (first second behind : List Line) → (first ++ second) ++ behind ≡ first ++ (second ++ behind)
side_by_side first second behind = append_assoc first second behind

pub none_behind : (ls : List Line) → ls ++ [] ≡ ls
none_behind ls = append-nil ls

-- what was put last comes first
pub last_first : (ws : List Waiting) (w : Waiting) → lines_in_stack (ws ++ w ∷ []) ≡ lines_of_waiting w ++ lines_in_stack ws
last_first [] w = sym (append-nil (lines_of_waiting w))
last_first (x ∷ ws) w =
    ap (λ ls. ls ++ lines_of_waiting x) (last_first ws w) ∙ append_assoc (lines_of_waiting w) (lines_in_stack ws) (lines_of_waiting x)

-- the line that is found is the first of those that were left
pub comes : (found : Option ThisLine) (l : ThisLine) (old new : Walk) → found ≡ Some l
    → MatchOption found (lines_left old ≡ []) (λ line. lines_left old ≡ line_of line ∷ lines_left new) → lines_left old ≡ line_of l ∷ lines_left new
comes found l old new e h = subst (λ (o : Option ThisLine). MatchOption o (lines_left old ≡ []) (λ line. lines_left old ≡ line_of line ∷ lines_left new)) e h

-- a tree and a case begin with their own line
pub tree_begun : (t : Tree) → walk_of t ≡ node_line t ∷ below_tree t
tree_begun (pos_tree a rule ts children) = refl
tree_begun (neg_tree a covers) = refl
tree_begun (loop_tree lit at) = refl
tree_begun (seen_tree lit at) = refl
tree_begun (test_tree con hint) = refl

pub case_begun : (b : Branch) → walk_at b ≡ case_line b ∷ (below_case b ++ [])
case_begun (split con first second) = ap (λ ls. case_line (split con first second) ∷ ls) (sym (append-nil (walk_at first ++ walk_at second)))
case_begun (void hint) = refl
case_begun (leaf item children) = ap (λ ls. case_line (leaf item children) ∷ ls) (sym (append-nil (walk_below children)))
case_begun (head children) = ap (λ ls. case_line (head children) ∷ ls) (sym (append-nil (walk_below children)))

-- a walk has so many lines as a certificate takes
mutual
  tree_counted : (t : Tree) → length (walk_of t) ≡ lines_of t
  tree_counted (pos_tree a rule ts children) = omega (arith, below_counted children)
  tree_counted (neg_tree a covers) = omega (arith, in_counted covers)
  tree_counted (loop_tree lit at) = refl
  tree_counted (seen_tree lit at) = refl
  tree_counted (test_tree con hint) = refl

  below_counted : (ts : Trees) → length (walk_below ts) ≡ lines_below ts
  below_counted no_tree = refl
  below_counted (tree t ts) = omega (arith, length-append (walk_of t) (walk_below ts), tree_counted t, below_counted ts)

  at_counted : (b : Branch) → length (walk_at b) ≡ lines_at b
  at_counted (split con first second) = omega (arith, length-append (walk_at first) (walk_at second), at_counted first, at_counted second)
  at_counted (void hint) = refl
  at_counted (leaf item children) = omega (arith, below_counted children)
  at_counted (head children) = omega (arith, below_counted children)

  in_counted : (bs : Branches) → length (walk_in bs) ≡ lines_in bs
  in_counted no_branch = refl
  in_counted (branch rule b bs) = omega (arith, length-append (walk_at b) (walk_in bs), at_counted b, in_counted bs)

under_counted : (cs : List (ℕ × Branch)) → length (walk_under cs) ≡ lines_under cs
under_counted [] = refl
under_counted (c ∷ cs) = omega (arith, length-append (walk_at c.1) (walk_under cs), at_counted c.1, under_counted cs)

pub all_counted : (c : Certificate) → length (walk c) ≡ all_lines c
all_counted c =
    omega (arith, length-append (walk_below (listed c.trees)) (walk_under c.checks), below_counted (listed c.trees), under_counted c.checks)
