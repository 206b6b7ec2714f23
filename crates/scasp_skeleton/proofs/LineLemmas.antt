-- The lines of a certificate make its skeleton from the last one back.
use Rattle.std.proofs.Common.{◌≡◌, ◌∙◌, ℕ, suc, List, [], ◌∷◌, ◌++◌, map, refl, ap, sym, append_assoc}
use Rattle.std.proofs.lemmas.List.{append-nil, map-append}
use Rattle.scasp_cert.specs.Certificate.{Certificate}
use Rattle.scasp_cert.specs.Skeleton.{bare, all_bare, bare_branch, bare_covers, bare_entry}
use Rattle.scasp_cert.specs.Trees.{Tree, Trees, Branch, Branches, pos_tree, neg_tree, loop_tree, seen_tree, test_tree, no_tree, tree, split, void, leaf, head, no_branch, branch, listed}
use Rattle.scasp_cert.specs.Walk.{Line, walk, walk_at, walk_below, walk_in, walk_of, walk_under}
use Rattle.scasp_cert.specs.WalkView.{line_of}
use Rattle.scasp_cert.specs.declared.walk.Line.{Line as ThisLine}
use Rattle.scasp_lines.specs.Below.{count, rule_numbers}
use Rattle.scasp_search_rules.specs.Successors.Trees.{Built, no_lines, with_case, with_node}
use Rattle.scasp_search_trees.specs.Stacked.{with_check, with_rule}
use Rattle.scasp_skeleton.specs.Bare.{onto, put}
use Rattle.scasp_skeleton.specs.Copies.{put_branch, put_tree}
use Rattle.scasp_skeleton.proofs.CopyLemmas.{head-put, leaf-put, neg-put, pos-put, trees_in, with_checks, with_covers, with_nodes}
use Rattle.scasp_syntax.specs.declared.hint.Hint.TheVariants as hint

-- ---- lines one by one

module _ (made more : List ThisLine) (all ls rest : List Line) where
  pub one_line : (l : ThisLine) → ls ≡ line_of l ∷ rest → more ≡ made ++ l ∷ [] → map line_of made ++ ls ≡ all → map line_of more ++ rest ≡ all
  one_line l e p h =
      ap (λ xs. map line_of xs ++ rest) p ∙ ap (λ ks. ks ++ rest) (map-append line_of made (l ∷ [])) ∙ append_assoc (map line_of made) (line_of l ∷ []) rest
      ∙ ap (λ ks. map line_of made ++ ks) (sym e) ∙ h

  pub no_line : ls ≡ [] → map line_of made ++ ls ≡ all → map line_of made ≡ all
  no_line e h = sym (append-nil (map line_of made)) ∙ ap (λ ks. map line_of made ++ ks) (sym e) ∙ h

-- the last line is put first
pub onto_last : (ls : List ThisLine) (l : ThisLine) (b : Built) → onto (map line_of (ls ++ l ∷ [])) b ≡ onto (map line_of ls) (put (line_of l) b)
onto_last [] l b = refl
onto_last (k ∷ ks) l b = ap (put (line_of k)) (onto_last ks l b)

-- ---- the walk makes what it goes over

onto-append : (xs ys : List Line) (b : Built) → onto (xs ++ ys) b ≡ onto xs (onto ys b)
onto-append [] ys b = refl
onto-append (x ∷ xs) ys b = ap (put x) (onto-append xs ys b)

bare-count : (ts : Trees) → count (all_bare ts) ≡ count ts
bare-count no_tree = refl
bare-count (tree t ts) = ap suc (bare-count ts)

bare-rules : (bs : Branches) → rule_numbers (bare_covers bs) ≡ rule_numbers bs
bare-rules no_branch = refl
bare-rules (branch k b bs) = ap (λ ns. k ∷ ns) (bare-rules bs)

mutual
  node-made : (t : Tree) (b : Built) → onto (walk_of t) b ≡ with_node (bare t) 0 b
  node-made (pos_tree a k ts children) b =
      ap (put_tree (pos_tree a k ts children) hint.Terms) (nodes-made children b) ∙ pos-put a k ts children (all_bare children) hint.Terms b (bare-count children)
  node-made (neg_tree a covers) b =
      ap (put_tree (neg_tree a covers) hint.Terms) (covers-made covers b) ∙ neg-put a covers (bare_covers covers) hint.Terms b (bare-rules covers)
  node-made (loop_tree lit to) b = refl
  node-made (seen_tree lit to) b = refl
  node-made (test_tree c shown) b = refl

  nodes-made : (ts : Trees) (b : Built) → onto (walk_below ts) b ≡ with_nodes (all_bare ts) b
  nodes-made no_tree b = refl
  nodes-made (tree t ts) b =
      onto-append (walk_of t) (walk_below ts) b ∙ ap (onto (walk_of t)) (nodes-made ts b) ∙ node-made t (with_nodes (all_bare ts) b)

  case-made : (x : Branch) (b : Built) → onto (walk_at x) b ≡ with_case (bare_branch x) 0 b
  case-made (split c one two) b =
      ap (put_branch (split c one two) hint.Terms)
      (onto-append (walk_at one) (walk_at two) b ∙ ap (onto (walk_at one)) (case-made two b) ∙ case-made one (with_case (bare_branch two) 0 b))
  case-made (void shown) b = refl
  case-made (leaf k children) b =
      ap (put_branch (leaf k children) hint.Terms) (nodes-made children b) ∙ leaf-put k children (all_bare children) hint.Terms b (bare-count children)
  case-made (head children) b =
      ap (put_branch (head children) hint.Terms) (nodes-made children b) ∙ head-put children (all_bare children) hint.Terms b (bare-count children)

  covers-made : (bs : Branches) (b : Built) → onto (walk_in bs) b ≡ with_covers (bare_covers bs) b
  covers-made no_branch b = refl
  covers-made (branch k x bs) b =
      ap (with_rule k)
      (onto-append (walk_at x) (walk_in bs) b ∙ ap (onto (walk_at x)) (covers-made bs b) ∙ case-made x (with_covers (bare_covers bs) b))

checks-made : (ks : List (ℕ × Branch)) (b : Built) → onto (walk_under ks) b ≡ with_checks (map bare_entry ks) b
checks-made [] b = refl
checks-made (k ∷ ks) b =
    ap (with_check k.0)
    (onto-append (walk_at k.1) (walk_under ks) b ∙ ap (onto (walk_at k.1)) (checks-made ks b) ∙ case-made k.1 (with_checks (map bare_entry ks) b))

trees-listed : (ts : List Tree) → trees_in (all_bare (listed ts)) ≡ map bare ts
trees-listed [] = refl
trees-listed (t ∷ ts) = ap (λ (xs : List Tree). bare t ∷ xs) (trees-listed ts)

certificate-made : (c : Certificate) → onto (walk c) no_lines ≡ record { nodes = map bare c.trees; cases = []; covers = []; checks = map bare_entry c.checks }
certificate-made c =
    onto-append (walk_below (listed c.trees)) (walk_under c.checks) no_lines
    ∙ ap (onto (walk_below (listed c.trees))) (checks-made c.checks no_lines)
    ∙ nodes-made (listed c.trees) (with_checks (map bare_entry c.checks) no_lines)
    ∙ (λ i. record { nodes = (append-nil (trees_in (all_bare (listed c.trees))) ∙ trees-listed c.trees) i; cases = []; covers = []; checks = append-nil (map bare_entry c.checks) i })

-- the trees and the checks that the lines make
pub trees_made : (c : Certificate) (ls : List ThisLine) (b : Built) (ts : List Tree) → map line_of ls ≡ walk c → b ≡ onto (map line_of ls) no_lines → ts ≡ b.nodes
    → ts ≡ map bare c.trees
trees_made c ls b ts e h k = k ∙ ap (λ (x : Built). x.nodes) (h ∙ ap (λ ks. onto ks no_lines) e ∙ certificate-made c)

pub checks_made : (c : Certificate) (ls : List ThisLine) (b : Built) (ks : List (ℕ × Branch)) → map line_of ls ≡ walk c → b ≡ onto (map line_of ls) no_lines → ks ≡ b.checks
    → ks ≡ map bare_entry c.checks
checks_made c ls b ks e h k = k ∙ ap (λ (x : Built). x.checks) (h ∙ ap (λ us. onto us no_lines) e ∙ certificate-made c)
