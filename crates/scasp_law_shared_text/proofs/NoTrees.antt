-- Of the lines of a block one alone is `tree`.
use Rattle.std.proofs.Common.{◌≡◌, ◌∙◌, ℕ, ◌+◌, Bool, true, false, not, ◌&&◌, List, [], ◌∷◌, ◌++◌, map, flat_map, codes, refl, sym, ap}
use Rattle.std.specs.Prelude.{◌==◌, if◌then◌else◌}
use Rattle.std.specs.List.{list_all}
use Rattle.std.specs.Str.{bytes_eq}
use Rattle.std.proofs.lemmas.Bool.{and_parts, and_from, not-true}
use Rattle.std.proofs.lemmas.List.Folds.{list_all-append}
use Rattle.std.proofs.Math.Bool.{and-false}
use Rattle.scasp_cert.specs.Trees.{Tree, Trees, Branch, Branches, pos_tree, neg_tree, loop_tree, seen_tree, test_tree, no_tree, tree, split, void, leaf, head, no_branch, branch, listed}
use Rattle.scasp_cert.specs.Certificate.{Certificate}
use Rattle.scasp_syntax.specs.declared.con.Con.{Con}
use Rattle.scasp_syntax.specs.declared.predicate_map.PredMap.{PredMap}
use Rattle.scasp_cert.specs.declared.certificate.Clash.{Clash}
use Rattle.scasp_answers_terms.specs.Tokens.Lines.{ended, stopped, spent, overflow, Line, header_line, ending_line, rejected_line, answer_line, given_line, sample_line, tree_line, check_line, clash_line, map_line, end_line, pos_line, neg_line, loop_line, seen_line, test_line, rule_line, split_line, void_line, leaf_line, head_line, words_of}
use Rattle.scasp_answers.specs.Blocks.Blocks.{Placed, at, tree_lines, trees_lines, branch_lines, branches_lines, check_lines, block_lines}
use Rattle.scasp_copies.specs.Pieces.{Piece}
use Rattle.scasp_print_shared.specs.Shared.{is_tree}
use Rattle.scasp_law_shared_text.proofs.Blocks.{is_no_tree, HasNoTree, once}

abbrev is_tree_line : Line → Bool
is_tree_line tree_line = true
is_tree_line _ = false

-- ---- lines as values

abbrev is_other : Placed → Bool
is_other p = not (is_tree_line p.line)

abbrev AreOthers : List Placed → Type 0
AreOthers ps = list_all is_other ps ≡ true

others-append : (xs ys : List Placed) → AreOthers xs → AreOthers ys → AreOthers (xs ++ ys)
others-append xs ys a b = list_all-append is_other xs ys ∙ and_from (list_all is_other xs) (list_all is_other ys) a b

mutual
  tree-others : (d : ℕ) (t : Tree) → AreOthers (tree_lines d t)
  tree-others d (pos_tree a rule ts children) = trees-others (d + 1) children
  tree-others d (neg_tree a covers) = branches-others (d + 1) covers
  tree-others d (loop_tree l n) = refl
  tree-others d (seen_tree l n) = refl
  tree-others d (test_tree c h) = refl

  trees-others : (d : ℕ) (ts : Trees) → AreOthers (trees_lines d ts)
  trees-others d no_tree = refl
  trees-others d (tree t ts) = others-append (tree_lines d t) (trees_lines d ts) (tree-others d t) (trees-others d ts)

  branch-others : (d : ℕ) (b : Branch) → AreOthers (branch_lines d b)
  branch-others d (split c first second) = others-append (branch_lines (d + 1) first) (branch_lines (d + 1) second) (branch-others (d + 1) first) (branch-others (d + 1) second)
  branch-others d (void h) = refl
  branch-others d (leaf k children) = trees-others (d + 1) children
  branch-others d (head children) = trees-others (d + 1) children

  branches-others : (d : ℕ) (bs : Branches) → AreOthers (branches_lines d bs)
  branches-others d no_branch = refl
  branches-others d (branch k b bs) = others-append (branch_lines (d + 1) b) (branches_lines d bs) (branch-others (d + 1) b) (branches-others d bs)

checks-others : (cs : List (ℕ × Branch)) → AreOthers (flat_map check_lines cs)
checks-others [] = refl
checks-others (c ∷ cs) = others-append (check_lines c) (flat_map check_lines cs) (branch-others 1 c.1) (checks-others cs)

given-others : (gs : List Con) → AreOthers (map (λ g. at 0 (given_line g)) gs)
given-others [] = refl
given-others (g ∷ gs) = given-others gs

clashes-others : (ks : List Clash) → AreOthers (map (λ k. at 0 (clash_line k)) ks)
clashes-others [] = refl
clashes-others (k ∷ ks) = clashes-others ks

map-others : (ms : List PredMap) → AreOthers (map (λ m. at 0 (map_line m)) ms)
map-others [] = refl
map-others (m ∷ ms) = map-others ms

-- behind the first `tree` stand other lines alone
abbrev placed_once : List Placed → Bool
placed_once [] = true
placed_once (p ∷ ps) = if is_tree_line p.line then list_all is_other ps else placed_once ps

once-behind : (xs ys : List Placed) → AreOthers xs → placed_once ys ≡ true → placed_once (xs ++ ys) ≡ true
once-behind [] ys a e = e
once-behind (x ∷ xs) ys a e =
    let k = and_parts (is_other x) (list_all is_other xs) a in
    ap (λ (b : Bool). if b then list_all is_other (xs ++ ys) else placed_once (xs ++ ys)) (not-true (is_tree_line x.line) k.0) ∙ once-behind xs ys k.1 e

once-others : (ys : List Placed) → AreOthers ys → placed_once ys ≡ true
once-others [] b = refl
once-others (y ∷ ys) b =
    let k = and_parts (is_other y) (list_all is_other ys) b in
    ap (λ (t : Bool). if t then list_all is_other ys else placed_once ys) (not-true (is_tree_line y.line) k.0) ∙ once-others ys k.1

once-before : (xs ys : List Placed) → placed_once xs ≡ true → AreOthers ys → placed_once (xs ++ ys) ≡ true
once-before [] ys e b = once-others ys b
once-before (x ∷ xs) ys e b = by (is_tree_line x.line) e (λ g. once-before xs ys g b)
  where
    by : (t : Bool) → (if t then list_all is_other xs else placed_once xs) ≡ true → (placed_once xs ≡ true → placed_once (xs ++ ys) ≡ true)
        → (if t then list_all is_other (xs ++ ys) else placed_once (xs ++ ys)) ≡ true
    by true g onward = others-append xs ys g b
    by false g onward = onward g

block-once : (c : Certificate) (n : ℕ) → placed_once (block_lines c n) ≡ true
block-once c n =
    let a : List Placed = at 0 (answer_line c.query n c.terms) ∷ map (λ g. at 0 (given_line g)) c.given in
    let t : List Placed = at 0 (sample_line c.sample) ∷ at 0 tree_line ∷ trees_lines 1 (listed c.trees) in
    let k : List Placed = flat_map check_lines c.checks in
    let l : List Placed = map (λ x. at 0 (clash_line x)) c.clashes in
    let m : List Placed = map (λ x. at 0 (map_line x)) c.map in
    once-before (a ++ t ++ k ++ l ++ m) (at 0 end_line ∷ [])
    (once-before (a ++ t ++ k ++ l) m
    (once-before (a ++ t ++ k) l
    (once-before (a ++ t) k
    (once-behind a t (given-others c.given) (trees-others 1 (listed c.trees)))
    (checks-others c.checks))
    (clashes-others c.clashes))
    (map-others c.map))
    refl

-- ---- lines as words

words-other : (names : List (List ℕ)) (l : Line) → is_tree_line l ≡ false → bytes_eq (words_of names l) (codes "tree") ≡ false
unfolding words_of
words-other names (header_line v) e = refl
words-other names (ending_line ended q) e = refl
words-other names (ending_line stopped q) e = refl
words-other names (ending_line spent q) e = refl
words-other names (ending_line overflow q) e = refl
words-other names (rejected_line q n at reason) e = refl
words-other names (answer_line q n ts) e = refl
words-other names (given_line c) e = refl
words-other names (sample_line ts) e = refl
words-other names tree_line e = cc
words-other names (check_line k) e = refl
words-other names (clash_line c) e = refl
words-other names (map_line m) e = refl
words-other names end_line e = refl
words-other names (pos_line a rule ts) e = refl
words-other names (neg_line a) e = refl
words-other names (loop_line l n) e = refl
words-other names (seen_line l n) e = refl
words-other names (test_line c h) e = refl
words-other names (rule_line k) e = refl
words-other names (split_line c) e = refl
words-other names (void_line h) e = refl
words-other names (leaf_line k) e = refl
words-other names head_line e = refl

module _ (names : List (List ℕ)) where
  abbrev words_at : Placed → Piece
  words_at p = record { depth = p.depth; words = words_of names p.line }

  no-trees : (ps : List Placed) → AreOthers ps → HasNoTree (map words_at ps)
  no-trees [] e = refl
  no-trees (p ∷ ps) e =
      let k = and_parts (is_other p) (list_all is_other ps) e in
      and_from (is_no_tree (words_at p)) (list_all is_no_tree (map words_at ps)) (ap not (words-other names p.line (not-true (is_tree_line p.line) k.0))) (no-trees ps k.1)

  once-none : (ps : List Piece) → HasNoTree ps → once ps ≡ true
  once-none [] e = refl
  once-none (p ∷ ps) e = by (is_tree p) (once-none ps k.1)
    where
      k : (is_no_tree p ≡ true) × HasNoTree ps
      k = and_parts (is_no_tree p) (list_all is_no_tree ps) e

      by : (t : Bool) → once ps ≡ true → (if t then list_all is_no_tree ps else once ps) ≡ true
      by true more = k.1
      by false more = more

  once-words : (ps : List Placed) → placed_once ps ≡ true → once (map words_at ps) ≡ true
  once-words [] e = refl
  once-words (p ∷ ps) e = by (is_tree_line p.line) refl e (λ g. once-words ps g)
    where
      ws : List Piece
      ws = map words_at ps

      either : (t : Bool) → HasNoTree ws → (if t then list_all is_no_tree ws else once ws) ≡ true
      either true h = h
      either false h = once-none ws h

      by : (t : Bool) → is_tree_line p.line ≡ t → (if t then list_all is_other ps else placed_once ps) ≡ true → (placed_once ps ≡ true → once ws ≡ true) → once (words_at p ∷ ws) ≡ true
      by true q g onward = either (is_tree (words_at p)) (no-trees ps g)
      by false q g onward =
          let other : is_tree (words_at p) ≡ false = ap (λ b. (p.depth == 0) && b) (words-other names p.line q) ∙ and-false (p.depth == 0) in
          ap (λ (b : Bool). if b then list_all is_no_tree ws else once ws) other ∙ onward g

  pub block-words-once : (c : Certificate) (n : ℕ) → once (map words_at (block_lines c n)) ≡ true
  block-words-once c n = once-words (block_lines c n) (block-once c n)
