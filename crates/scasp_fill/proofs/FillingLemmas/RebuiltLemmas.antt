-- The lines of a certificate make its trees from the last one back, with the hints that they have.
use Rattle.std.proofs.Common.{◌≡◌, ◌∙◌, ℕ, suc, ◌+◌, true, false, Some, List, [], ◌∷◌, ◌++◌, map, take, drop, length, refl, ap, sym}
use Rattle.std.proofs.lemmas.List.{append-nil}
use Rattle.std.specs.List.{Contains}
use Rattle.scasp_list.proofs.MemberLemmas.{Contains-here, Contains-there}
use Rattle.scasp_search_trees.specs.Stacked.{with_check, with_rule}
use Rattle.scasp_syntax.specs.Programs.{numbered}
use Rattle.scasp_syntax.specs.declared.atom.Atom.{Atom}
use Rattle.scasp_syntax.specs.declared.con.Con.{Con}
use Rattle.scasp_syntax.specs.declared.hint.Hint.{Hint}
use Rattle.scasp_syntax.specs.declared.program.Program.{Program}
use Rattle.scasp_cert.specs.Certificate.{Certificate}
use Rattle.scasp_cert.specs.Lines.{lines_of, lines_at, lines_below}
use Rattle.scasp_cert.specs.Trees.{Tree, Trees, Branch, Branches, pos_tree, neg_tree, loop_tree, seen_tree, test_tree, no_tree, tree, split, void, leaf, head, no_branch, branch, listed, covering}
use Rattle.scasp_cert.specs.declared.certificate.Clash.{Clash}
use Rattle.scasp_lines.specs.Below.{count, rule_numbers}
use Rattle.scasp_lines.specs.Bodies.{Body, split_body, inside_rule, inside_check}
use Rattle.scasp_lines.specs.Dues.{Due, first_due, other_dues, rule_dues, leaf_dues, head_dues, query_dues}
use Rattle.scasp_lines.specs.Lines.{lines, setting, query_walk}
use Rattle.scasp_lines.specs.Places.{Place, below_literal, start, within_case}
use Rattle.scasp_lines.specs.Sides.{sides}
use Rattle.scasp_lines.specs.Walk.{Line, Setting, node_walk, nodes_walk, branch_walk, covers_walk, checks_walk}
use Rattle.scasp_lines.proofs.WalkLemmas.{line-found}
use Rattle.scasp_search_rules.specs.Successors.Trees.{Built, no_lines, with_case, with_node}
use Rattle.scasp_fill.specs.Filling.Filled.{clashes_found, filled, found_on, hint_at}
use Rattle.scasp_fill.specs.Filling.Hinted.{hinted, all_hinted, case_hinted, covers_hinted, trees_hinted, checks_hinted}
use Rattle.scasp_fill.specs.Filling.Inside.Pieces.{Piece, hinted_at, made_of, onto, piece_at, put, put_branch, put_tree}
use Rattle.scasp_fill.proofs.FillingLemmas.HintedLemmas.{same-count, same-rules}

-- ---- trees and rules in front of others

abbrev trees_in : Trees → List Tree
trees_in no_tree = []
trees_in (tree t ts) = t ∷ trees_in ts

abbrev covers_in : Branches → List (ℕ × Branch)
covers_in no_branch = []
covers_in (branch k b bs) = (k, b) ∷ covers_in bs

taken-trees : (ts : Trees) (xs : List Tree) → listed (take (count ts) (trees_in ts ++ xs)) ≡ ts
taken-trees no_tree xs = refl
taken-trees (tree t ts) xs = ap (tree t) (taken-trees ts xs)

left-trees : (ts : Trees) (xs : List Tree) → drop (count ts) (trees_in ts ++ xs) ≡ xs
left-trees no_tree xs = refl
left-trees (tree t ts) xs = left-trees ts xs

taken-covers : (bs : Branches) (xs : List (ℕ × Branch)) → covering (take (length (rule_numbers bs)) (covers_in bs ++ xs)) ≡ bs
taken-covers no_branch xs = refl
taken-covers (branch k b bs) xs = ap (branch k b) (taken-covers bs xs)

left-covers : (bs : Branches) (xs : List (ℕ × Branch)) → drop (length (rule_numbers bs)) (covers_in bs ++ xs) ≡ xs
left-covers no_branch xs = refl
left-covers (branch k b bs) xs = left-covers bs xs

abbrev with_nodes : Trees → Built → Built
with_nodes ts b = record b { nodes = trees_in ts ++ b.nodes }

abbrev with_covers : Branches → Built → Built
with_covers bs b = record b { covers = covers_in bs ++ b.covers }

abbrev with_checks : List (ℕ × Branch) → Built → Built
with_checks ks b = record b { checks = ks ++ b.checks }

-- ---- nodes and cases over what was put before

-- as many as are there are taken, and stand below
pos-put : (a : Atom) (k : ℕ) (ts : _) (children made : Trees) (h : Hint) (b : Built) → count made ≡ count children
    → put_tree (pos_tree a k ts children) h (with_nodes made b) ≡ with_node (pos_tree a k ts made) 0 b
pos-put a k ts children made h b e =
    ap (λ n. with_node (pos_tree a k ts (listed (take n (trees_in made ++ b.nodes)))) n (with_nodes made b)) (sym e)
    ∙ (λ i. record b { nodes = pos_tree a k ts (taken-trees made b.nodes i) ∷ left-trees made b.nodes i })

neg-put : (a : Atom) (covers made : Branches) (h : Hint) (b : Built) → rule_numbers made ≡ rule_numbers covers
    → put_tree (neg_tree a covers) h (with_covers made b) ≡ with_node (neg_tree a made) 0 b
neg-put a covers made h b e =
    ap (λ (ns : List ℕ). record b { nodes = neg_tree a (covering (take (length ns) (covers_in made ++ b.covers))) ∷ b.nodes; covers = drop (length ns) (covers_in made ++ b.covers) }) (sym e)
    ∙ (λ i. record b { nodes = neg_tree a (taken-covers made b.covers i) ∷ b.nodes; covers = left-covers made b.covers i })

leaf-put : (k : ℕ) (children made : Trees) (h : Hint) (b : Built) → count made ≡ count children
    → put_branch (leaf k children) h (with_nodes made b) ≡ with_case (leaf k made) 0 b
leaf-put k children made h b e =
    ap (λ n. record b { nodes = drop n (trees_in made ++ b.nodes); cases = leaf k (listed (take n (trees_in made ++ b.nodes))) ∷ b.cases }) (sym e)
    ∙ (λ i. record b { nodes = left-trees made b.nodes i; cases = leaf k (taken-trees made b.nodes i) ∷ b.cases })

head-put : (children made : Trees) (h : Hint) (b : Built) → count made ≡ count children
    → put_branch (head children) h (with_nodes made b) ≡ with_case (head made) 0 b
head-put children made h b e =
    ap (λ n. record b { nodes = drop n (trees_in made ++ b.nodes); cases = head (listed (take n (trees_in made ++ b.nodes))) ∷ b.cases }) (sym e)
    ∙ (λ i. record b { nodes = left-trees made b.nodes i; cases = head (taken-trees made b.nodes i) ∷ b.cases })

-- ---- the walk makes what it goes over

module _ (f : ℕ → Hint) where
  -- what stands on the line, with its hint
  abbrev pub hinted_by : Line → Piece × Hint
  hinted_by l = (piece_at l.part, f l.at)

  abbrev pub from : List Line → Built → Built
  from [] b = b
  from (l ∷ ls) b = put (hinted_by l) (from ls b)

  from-append : (xs ys : List Line) (b : Built) → from (xs ++ ys) b ≡ from xs (from ys b)
  from-append [] ys b = refl
  from-append (x ∷ xs) ys b = ap (put (hinted_by x)) (from-append xs ys b)

  module _ (s : Setting) where
    mutual
      node-made : (here : Place) (at next : ℕ) (due : Due) (t : Tree) (b : Built) → from (node_walk s here at next due t).lines b ≡ with_node (hinted f at t) 0 b
      node-made here at next due (pos_tree a k ts children) b =
          ap (put_tree (pos_tree a k ts children) (f at)) (nodes-made (below_literal at true a here) (suc at) next (rule_dues (numbered s.clauses k) here ts) children b)
          ∙ pos-put a k ts children (all_hinted f (suc at) children) (f at) b (same-count f (suc at) children)
      node-made here at next due (neg_tree a covers) b =
          ap (put_tree (neg_tree a covers) (f at)) (covers-made (below_literal at false a here) (suc at) next a covers b)
          ∙ neg-put a covers (covers_hinted f (suc at) covers) (f at) b (same-rules f (suc at) covers)
      node-made here at next due (loop_tree lit to) b = refl
      node-made here at next due (seen_tree lit to) b = refl
      node-made here at next due (test_tree c shown) b = refl

      nodes-made : (here : Place) (at next : ℕ) (dues : List Due) (ts : Trees) (b : Built) → from (nodes_walk s here at next dues ts).lines b ≡ with_nodes (all_hinted f at ts) b
      nodes-made here at next dues no_tree b = refl
      nodes-made here at next dues (tree t ts) b =
          let first = node_walk s here at next (first_due dues) t in
          let rest = nodes_walk s here (at + lines_of t) first.next (other_dues dues) ts in
          from-append first.lines rest.lines b
          ∙ ap (from first.lines) (nodes-made here (at + lines_of t) first.next (other_dues dues) ts b)
          ∙ node-made here at next (first_due dues) t (with_nodes (all_hinted f (at + lines_of t) ts) b)

      case-made : (here : Place) (at next : ℕ) (body : Body) (x : Branch) (b : Built) → from (branch_walk s here at next body x).lines b ≡ with_case (case_hinted f at x) 0 b
      case-made here at next body (split c one two) b =
          let both = sides s.free s.top c here next in
          let first = branch_walk s both.first (suc at) both.next (split_body body) one in
          let rest = branch_walk s both.second (suc at + lines_at one) first.next (split_body body) two in
          ap (put_branch (split c one two) (f at))
          (from-append first.lines rest.lines b
          ∙ ap (from first.lines) (case-made both.second (suc at + lines_at one) first.next (split_body body) two b)
          ∙ case-made both.first (suc at) both.next (split_body body) one (with_case (case_hinted f (suc at + lines_at one) two) 0 b))
      case-made here at next body (void shown) b = refl
      case-made here at next body (leaf k children) b =
          ap (put_branch (leaf k children) (f at)) (nodes-made (within_case at body.bare here) (suc at) next (leaf_dues here body k) children b)
          ∙ leaf-put k children (all_hinted f (suc at) children) (f at) b (same-count f (suc at) children)
      case-made here at next body (head children) b =
          ap (put_branch (head children) (f at)) (nodes-made (within_case at body.bare here) (suc at) next (head_dues here body) children b)
          ∙ head-put children (all_hinted f (suc at) children) (f at) b (same-count f (suc at) children)

      covers-made : (here : Place) (at next : ℕ) (a : Atom) (bs : Branches) (b : Built) → from (covers_walk s here at next a bs).lines b ≡ with_covers (covers_hinted f at bs) b
      covers-made here at next a no_branch b = refl
      covers-made here at next a (branch k x bs) b =
          let i = inside_rule (numbered s.clauses k) a next here in
          let first = branch_walk s i.here (suc at) i.next i.body x in
          let rest = covers_walk s here (at + (1 + lines_at x)) first.next a bs in
          ap (with_rule k)
          (from-append first.lines rest.lines b
          ∙ ap (from first.lines) (covers-made here (at + (1 + lines_at x)) first.next a bs b)
          ∙ case-made i.here (suc at) i.next i.body x (with_covers (covers_hinted f (at + (1 + lines_at x)) bs) b))

    checks-made : (here : Place) (at next : ℕ) (ks : List (ℕ × Branch)) (b : Built) → from (checks_walk s here at next ks).lines b ≡ with_checks (checks_hinted f at ks) b
    checks-made here at next [] b = refl
    checks-made here at next (k ∷ ks) b =
        let i = inside_check (numbered s.clauses k.0) next here in
        let first = branch_walk s i.here (suc at) i.next i.body k.1 in
        let rest = checks_walk s here (at + (1 + lines_at k.1)) first.next ks in
        ap (with_check k.0)
        (from-append first.lines rest.lines b
        ∙ ap (from first.lines) (checks-made here (at + (1 + lines_at k.1)) first.next ks b)
        ∙ case-made i.here (suc at) i.next i.body k.1 (with_checks (checks_hinted f (at + (1 + lines_at k.1)) ks) b))

  trees-listed : (at : ℕ) (ts : List Tree) → trees_in (all_hinted f at (listed ts)) ≡ trees_hinted f at ts
  trees-listed at [] = refl
  trees-listed at (t ∷ ts) = ap (λ (xs : List Tree). hinted f at t ∷ xs) (trees-listed (at + lines_of t) ts)

  pub certificate-made : (p : Program) (c : Certificate) → from (lines p c) no_lines
      ≡ record { nodes = trees_hinted f 1 c.trees; cases = []; covers = []; checks = checks_hinted f (1 + lines_below (listed c.trees)) c.checks }
  certificate-made p c =
      let s = setting p.clauses c in
      let first = query_walk p.clauses p.queries c in
      let at = 1 + lines_below (listed c.trees) in
      let rest = checks_walk s (start s.top) at first.next c.checks in
      from-append first.lines rest.lines no_lines
      ∙ ap (from first.lines) (checks-made s (start s.top) at first.next c.checks no_lines)
      ∙ nodes-made s (start s.top) 1 s.free (query_dues (numbered p.queries c.query) c.terms) (listed c.trees) (with_checks (checks_hinted f at c.checks) no_lines)
      ∙ (λ i. record {
        nodes = (append-nil (trees_in (all_hinted f 1 (listed c.trees))) ∙ trees-listed 1 c.trees) i;
        cases = [];
        covers = [];
        checks = append-nil (checks_hinted f at c.checks) i;
      })

-- ---- with the hints that are found

onto-from : (f : ℕ → Hint) (given : List Con) (ls : List Line) → ((l : Line) → Contains ls l → hint_at given (Some l) ≡ f l.at) → (b : Built)
    → onto (map (hinted_at given) ls) b ≡ from f ls b
onto-from f given [] e b = refl
onto-from f given (l ∷ ls) e b =
    ap (λ (h : Hint). put (piece_at l.part, h) (onto (map (hinted_at given) ls) b)) (e l (Contains-here l ls))
    ∙ ap (put (piece_at l.part, f l.at)) (onto-from f given ls (λ k m. e k (Contains-there l ls k m)) b)

pub lines-made : (p : Program) (c : Certificate) → onto (map (hinted_at c.given) (lines p c)) no_lines
    ≡ record { nodes = trees_hinted (found_on p c) 1 c.trees; cases = []; covers = []; checks = checks_hinted (found_on p c) (1 + lines_below (listed c.trees)) c.checks }
lines-made p c =
    onto-from (found_on p c) c.given (lines p c) (λ l h. ap (hint_at c.given) (sym (line-found p.clauses p.queries c l h))) no_lines
    ∙ certificate-made (found_on p c) p c

-- the certificate that is made of these lines and clash lines is the filled one
pub filled-made : (p : Program) (c : Certificate) (hs : List (Piece × Hint)) (clashes : List Clash)
    → hs ≡ map (hinted_at c.given) (lines p c) → clashes ≡ clashes_found p c → made_of c hs clashes ≡ filled p c
filled-made p c hs clashes e d =
    let made = ap (λ (xs : List (Piece × Hint)). onto xs no_lines) e ∙ lines-made p c in
    λ i. record c { trees = (made i).nodes; checks = (made i).checks; clashes = d i }
