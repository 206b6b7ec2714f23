-- The ends that are found from the last line to the first are those of the lines' parts.
use Rattle.std.proofs.Common.{◌≡◌, ◌∙◌, ℕ, suc, ◌+◌, Bool, true, false, ◌&&◌, List, [], ◌∷◌, ◌++◌, length, drop, refl, ap, sym, subst, arith}
use Rattle.std.specs.Prelude.{⊤}
use Rattle.std.proofs.Math.Bool.{and-true, and_assoc}
use Rattle.std.proofs.lemmas.List.{append-nil, append_assoc}
use Rattle.scasp_syntax.specs.Programs.{numbered}
use Rattle.scasp_syntax.specs.declared.atom.Atom.{Atom}
use Rattle.scasp_syntax.specs.declared.program.Program.{Program}
use Rattle.scasp_checker_rules.specs.Firm.{is_firm, are_firm}
use Rattle.scasp_cert.specs.Certificate.{Certificate}
use Rattle.scasp_cert.specs.Lines.{lines_of, lines_at, lines_below, lines_in}
use Rattle.scasp_cert.specs.Trees.{Tree, Trees, Branch, Branches, pos_tree, neg_tree, loop_tree, seen_tree, test_tree, no_tree, tree, split, void, leaf, head, no_branch, branch, listed}
use Rattle.scasp_lines.specs.Below.{count, rule_numbers}
use Rattle.scasp_lines.specs.Bodies.{Body, split_body, inside_rule, inside_check}
use Rattle.scasp_lines.specs.Dues.{Due, first_due, other_dues, rule_dues, leaf_dues, head_dues}
use Rattle.scasp_lines.specs.Lines.{lines, setting, query_walk}
use Rattle.scasp_lines.specs.Places.{Place, below_literal, start, within_case}
use Rattle.scasp_lines.specs.Sides.{sides}
use Rattle.scasp_lines.specs.Walk.{of_node, of_rule, of_check, of_case, Line, Setting, line, node_walk, nodes_walk, branch_walk, covers_walk, rule_walk, check_walk, checks_walk}
use Rattle.scasp_lines_walk.specs.Shown.Inside.Ends.{parts, gathered, closed, ended_at, ends, end_of}
use Rattle.scasp_lines_walk.specs.declared.shown.ends.Ended.{Ended}

-- ---- ends of parts side by side

abbrev tree_ends : ℕ → Trees → List Ended
tree_ends at no_tree = []
tree_ends at (tree t ts) = record { behind = at + lines_of t; firm = is_firm t } ∷ tree_ends (at + lines_of t) ts

abbrev rule_ends : ℕ → Branches → List Ended
rule_ends at no_branch = []
rule_ends at (branch k b bs) = record { behind = at + (1 + lines_at b); firm = true } ∷ rule_ends (at + (1 + lines_at b)) bs

abbrev check_ends : ℕ → List (ℕ × Branch) → List Ended
check_ends at [] = []
check_ends at (c ∷ cs) = record { behind = at + (1 + lines_at c.1); firm = true } ∷ check_ends (at + (1 + lines_at c.1)) cs

tree_ends-long : (at : ℕ) (ts : Trees) → count ts ≡ length (tree_ends at ts)
tree_ends-long at no_tree = refl
tree_ends-long at (tree t ts) = ap suc (tree_ends-long (at + lines_of t) ts)

rule_ends-long : (at : ℕ) (bs : Branches) → length (rule_numbers bs) ≡ length (rule_ends at bs)
rule_ends-long at no_branch = refl
rule_ends-long at (branch k b bs) = ap suc (rule_ends-long (at + (1 + lines_at b)) bs)

-- ---- what is gathered of all of them

abbrev all_gathered : Ended → List Ended → Ended
all_gathered e [] = e
all_gathered e (x ∷ xs) = all_gathered (record { behind = x.behind; firm = e.firm && x.firm }) xs

gathered-all : (e : Ended) (es qs : List Ended) → gathered e (length es) (es ++ qs) ≡ all_gathered e es
gathered-all e [] qs = refl
gathered-all e (x ∷ es) qs = gathered-all (record { behind = x.behind; firm = e.firm && x.firm }) es qs

drop-all : (es qs : List Ended) → drop (length es) (es ++ qs) ≡ qs
drop-all [] qs = refl
drop-all (x ∷ es) qs = drop-all es qs

abbrev ended : ℕ → Bool → Ended
ended n f = record { behind = n; firm = f }

trees-gathered : (at : ℕ) (f : Bool) (ts : Trees) → all_gathered (ended at f) (tree_ends at ts) ≡ ended (at + lines_below ts) (f && are_firm ts)
trees-gathered at f no_tree = let n : at ≡ at + 0 = omega arith in let g = sym (and-true f) in λ i. ended (n i) (g i)
trees-gathered at f (tree t ts) =
    let n : (at + lines_of t) + lines_below ts ≡ at + (lines_of t + lines_below ts) = omega arith in
    let g = and_assoc f (is_firm t) (are_firm ts) in
    trees-gathered (at + lines_of t) (f && is_firm t) ts ∙ (λ i. ended (n i) (g i))

rules-gathered : (at : ℕ) (f : Bool) (bs : Branches) → all_gathered (ended at f) (rule_ends at bs) ≡ ended (at + lines_in bs) f
rules-gathered at f no_branch = let n : at ≡ at + 0 = omega arith in λ i. ended (n i) f
rules-gathered at f (branch k b bs) =
    let n : (at + (1 + lines_at b)) + lines_in bs ≡ at + (1 + lines_at b + lines_in bs) = omega arith in
    let g = and-true f in
    rules-gathered (at + (1 + lines_at b)) (f && true) bs ∙ (λ i. ended (n i) (g i))

-- ---- lines in front of others

-- at each line the end is that of its part
abbrev pub AreRight : List Line → Type 0
AreRight [] = ⊤
AreRight (l ∷ ls) = (ended_at l (ends ls) ≡ end_of l.at l.part) × AreRight ls

-- in front of these lines, the lines have these ends, and right ones
record Goes (xs : List Line) (es : List Ended) (rest : List Line) : Type 0 where
  goes : ends (xs ++ rest) ≡ es ++ ends rest
  right : AreRight rest → AreRight (xs ++ rest)

goes-none : (rest : List Line) → Goes [] [] rest
goes-none rest = record { goes = refl; right = λ h. h }

goes-behind : (xs ys : List Line) (es fs : List Ended) (rest : List Line) → Goes xs es (ys ++ rest) → Goes ys fs rest → Goes (xs ++ ys) (es ++ fs) rest
goes-behind xs ys es fs rest p q =
    record {
      goes = ap ends (append_assoc xs ys rest) ∙ p.goes ∙ ap (λ gs. es ++ gs) q.goes ∙ sym (append_assoc es fs (ends rest));
      right = λ h. subst AreRight (sym (append_assoc xs ys rest)) (p.right (q.right h));
    }

goes-line : (l : Line) (xs : List Line) (es : List Ended) (rest : List Line) → Goes xs es rest → parts l.part ≡ length es
    → closed l.part (all_gathered (ended (suc l.at) true) es) ≡ end_of l.at l.part → Goes (l ∷ xs) (end_of l.at l.part ∷ []) rest
goes-line l xs es rest q n e =
    let here : ended_at l (ends (xs ++ rest)) ≡ end_of l.at l.part =
    ap (ended_at l) q.goes
    ∙ ap (λ m. closed l.part (gathered (ended (suc l.at) true) m (es ++ ends rest))) n
    ∙ ap (closed l.part) (gathered-all (ended (suc l.at) true) es (ends rest))
    ∙ e in
    let others : drop (parts l.part) (ends (xs ++ rest)) ≡ ends rest =
    ap (drop (parts l.part)) q.goes ∙ ap (λ m. drop m (es ++ ends rest)) n ∙ drop-all es (ends rest) in
    record {
      goes = λ i. here i ∷ others i;
      right = λ h. (here, q.right h);
    }

one-more : (n : ℕ) (f : Bool) → ended (suc n) f ≡ ended (n + 1) f
one-more n f = let e : suc n ≡ n + 1 = omega arith in λ i. ended (e i) f

-- so many lines below a line are behind it with the line itself
further : (n m : ℕ) (f : Bool) → ended (suc n + m) f ≡ ended (n + (1 + m)) f
further n m f = let e : suc n + m ≡ n + (1 + m) = omega arith in λ i. ended (e i) f

both : (n m k : ℕ) → ended ((suc n + m) + k) true ≡ ended (n + (1 + (m + k))) true
both n m k = let e : (suc n + m) + k ≡ n + (1 + (m + k)) = omega arith in λ i. ended (e i) true

-- ---- the walks

module _ (s : Setting) where
  mutual
    node-goes : (here : Place) (at next : ℕ) (due : Due) (t : Tree) (rest : List Line) → Goes (node_walk s here at next due t).lines (end_of at (of_node due t) ∷ []) rest
    node-goes here at next due (pos_tree a k ts children) rest =
        goes-line (line at next here (of_node due (pos_tree a k ts children))) _ (tree_ends (suc at) children) rest
        (nodes-goes (below_literal at true a here) (suc at) next (rule_dues (numbered s.clauses k) here ts) children rest) (tree_ends-long (suc at) children)
        (ap (closed (of_node due (pos_tree a k ts children))) (trees-gathered (suc at) true children) ∙ further at (lines_below children) (are_firm children))
    node-goes here at next due (neg_tree a covers) rest =
        goes-line (line at next here (of_node due (neg_tree a covers))) _ (rule_ends (suc at) covers) rest
        (covers-goes (below_literal at false a here) (suc at) next a covers rest) (rule_ends-long (suc at) covers)
        (ap (closed (of_node due (neg_tree a covers))) (rules-gathered (suc at) true covers) ∙ further at (lines_in covers) true)
    node-goes here at next due (loop_tree lit to) rest = goes-line (line at next here (of_node due (loop_tree lit to))) [] [] rest (goes-none rest) refl (one-more at _)
    node-goes here at next due (seen_tree lit to) rest = goes-line (line at next here (of_node due (seen_tree lit to))) [] [] rest (goes-none rest) refl (one-more at _)
    node-goes here at next due (test_tree c hint) rest = goes-line (line at next here (of_node due (test_tree c hint))) [] [] rest (goes-none rest) refl (one-more at _)

    nodes-goes : (here : Place) (at next : ℕ) (dues : List Due) (ts : Trees) (rest : List Line) → Goes (nodes_walk s here at next dues ts).lines (tree_ends at ts) rest
    nodes-goes here at next dues no_tree rest = goes-none rest
    nodes-goes here at next dues (tree t ts) rest =
        let first = node_walk s here at next (first_due dues) t in
        let others = nodes_walk s here (at + lines_of t) first.next (other_dues dues) ts in
        goes-behind first.lines others.lines (end_of at (of_node (first_due dues) t) ∷ []) (tree_ends (at + lines_of t) ts) rest
        (node-goes here at next (first_due dues) t (others.lines ++ rest)) (nodes-goes here (at + lines_of t) first.next (other_dues dues) ts rest)

    branch-goes : (here : Place) (at next : ℕ) (body : Body) (b : Branch) (rest : List Line) → Goes (branch_walk s here at next body b).lines (end_of at (of_case body b) ∷ []) rest
    branch-goes here at next body (split c first second) rest =
        let o = sides s.free s.top c here next in
        let one = branch_walk s o.first (suc at) o.next (split_body body) first in
        let other = branch_walk s o.second (suc at + lines_at first) one.next (split_body body) second in
        goes-line (line at next here (of_case body (split c first second))) (one.lines ++ other.lines)
        (end_of (suc at) (of_case (split_body body) first) ∷ end_of (suc at + lines_at first) (of_case (split_body body) second) ∷ []) rest
        (goes-behind one.lines other.lines (end_of (suc at) (of_case (split_body body) first) ∷ []) (end_of (suc at + lines_at first) (of_case (split_body body) second) ∷ []) rest
        (branch-goes o.first (suc at) o.next (split_body body) first (other.lines ++ rest))
        (branch-goes o.second (suc at + lines_at first) one.next (split_body body) second rest))
        refl (both at (lines_at first) (lines_at second))
    branch-goes here at next body (void hint) rest = goes-line (line at next here (of_case body (void hint))) [] [] rest (goes-none rest) refl (one-more at _)
    branch-goes here at next body (leaf k children) rest =
        goes-line (line at next here (of_case body (leaf k children))) _ (tree_ends (suc at) children) rest
        (nodes-goes (within_case at body.bare here) (suc at) next (leaf_dues here body k) children rest) (tree_ends-long (suc at) children)
        (ap (closed (of_case body (leaf k children))) (trees-gathered (suc at) true children) ∙ further at (lines_below children) true)
    branch-goes here at next body (head children) rest =
        goes-line (line at next here (of_case body (head children))) _ (tree_ends (suc at) children) rest
        (nodes-goes (within_case at body.bare here) (suc at) next (head_dues here body) children rest) (tree_ends-long (suc at) children)
        (ap (closed (of_case body (head children))) (trees-gathered (suc at) true children) ∙ further at (lines_below children) true)

    covers-goes : (here : Place) (at next : ℕ) (a : Atom) (bs : Branches) (rest : List Line) → Goes (covers_walk s here at next a bs).lines (rule_ends at bs) rest
    covers-goes here at next a no_branch rest = goes-none rest
    covers-goes here at next a (branch k b bs) rest =
        let i = inside_rule (numbered s.clauses k) a next here in
        let first = rule_walk s here at next k a b in
        let others = covers_walk s here (at + (1 + lines_at b)) first.next a bs in
        goes-behind first.lines others.lines (end_of at (of_rule k a b) ∷ []) (rule_ends (at + (1 + lines_at b)) bs) rest
        (goes-line (line at next here (of_rule k a b)) _ (end_of (suc at) (of_case i.body b) ∷ []) (others.lines ++ rest)
        (branch-goes i.here (suc at) i.next i.body b (others.lines ++ rest)) refl (further at (lines_at b) true))
        (covers-goes here (at + (1 + lines_at b)) first.next a bs rest)

  checks-goes : (here : Place) (at next : ℕ) (cs : List (ℕ × Branch)) (rest : List Line) → Goes (checks_walk s here at next cs).lines (check_ends at cs) rest
  checks-goes here at next [] rest = goes-none rest
  checks-goes here at next (c ∷ cs) rest =
      let i = inside_check (numbered s.clauses c.0) next here in
      let first = check_walk s here at next c.0 c.1 in
      let others = checks_walk s here (at + (1 + lines_at c.1)) first.next cs in
      goes-behind first.lines others.lines (end_of at (of_check c.0 c.1) ∷ []) (check_ends (at + (1 + lines_at c.1)) cs) rest
      (goes-line (line at next here (of_check c.0 c.1)) _ (end_of (suc at) (of_case i.body c.1) ∷ []) (others.lines ++ rest)
      (branch-goes i.here (suc at) i.next i.body c.1 (others.lines ++ rest)) refl (further at (lines_at c.1) true))
      (checks-goes here (at + (1 + lines_at c.1)) first.next cs rest)

-- at each line of a certificate the end is that of its part
pub lines-right : (p : Program) (c : Certificate) → AreRight (lines p c)
lines-right p c =
    let s = setting p.clauses c in
    let first = query_walk p.clauses p.queries c in
    let checks = checks_walk s (start s.top) (1 + lines_below (listed c.trees)) first.next c.checks in
    let all = goes-behind first.lines checks.lines _ _ []
    (nodes-goes s (start s.top) 1 s.free _ (listed c.trees) (checks.lines ++ [])) (checks-goes s (start s.top) (1 + lines_below (listed c.trees)) first.next c.checks []) in
    subst AreRight (append-nil (lines p c)) (all.right tt)

pub right-at : (xs : List Line) (l : Line) (ls : List Line) → AreRight (xs ++ l ∷ ls) → ended_at l (ends ls) ≡ end_of l.at l.part
right-at [] l ls h = h.0
right-at (x ∷ xs) l ls h = right-at xs l ls h.1
