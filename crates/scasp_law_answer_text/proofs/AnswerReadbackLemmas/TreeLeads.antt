-- The lines of a tree are read as this tree.
use Rattle.std.proofs.Common.{◌≡◌, ◌∙◌, ℕ, ◌+◌, true, nat_lt, List, [], ◌∷◌, ◌++◌, length, refl, sym, ap, subst, arith, append_assoc, append-nil}
use Rattle.scasp_cert.specs.Trees.{Tree, Trees, Branch, Branches, pos_tree, neg_tree, loop_tree, seen_tree, test_tree, no_tree, tree, split, void, leaf, head, no_branch, branch, listed, covering}
use Rattle.scasp_cert.specs.Certificate.{Certificate}
use Rattle.scasp_answers_terms.specs.Tokens.Lines.{Line, pos_line, neg_line, loop_line, seen_line, test_line, rule_line, split_line, void_line, leaf_line, head_line}
use Rattle.scasp_answers.specs.Blocks.Blocks.{Placed, at, tree_lines, trees_lines, branch_lines, branches_lines}
use Rattle.scasp_answers.specs.Blocks.Open.{Part, node_part, cover_part, case_part, Room, nodes, covers, cases, Open, room_below, may_stand, is_node, is_cover, is_case, with_parts, trees_among, covers_among, closed_to}
use Rattle.scasp_answers.specs.Blocks.States.{State, opened}
use Rattle.scasp_law_answer_text.proofs.AnswerReadbackLemmas.Leads.{Like, Leads, goes-on, line-leads, last-leads}

-- ---- parts

abbrev pub trees_parts : Trees → List Part
trees_parts no_tree = []
trees_parts (tree t ts) = node_part t ∷ trees_parts ts

abbrev pub covers_parts : Branches → List Part
covers_parts no_branch = []
covers_parts (branch k b bs) = cover_part k b ∷ covers_parts bs

pub trees-back : (ts : Trees) → listed (trees_among (trees_parts ts)) ≡ ts
trees-back no_tree = refl
trees-back (tree t ts) = ap (λ us. tree t us) (trees-back ts)

pub covers-back : (bs : Branches) → covering (covers_among (covers_parts bs)) ≡ bs
covers-back no_branch = refl
covers-back (branch k b bs) = ap (λ cs. branch k b cs) (covers-back bs)

more-parts : (o : Open) (p : Part) (ps : List Part) → with_parts (with_parts o (p ∷ [])) ps ≡ with_parts o (p ∷ ps)
more-parts o p ps = ap (λ qs. record o { parts = qs }) (append_assoc o.parts (p ∷ []) ps)

none-parts : (o : Open) → with_parts o [] ≡ o
none-parts o = ap (λ qs. record o { parts = qs }) (append-nil o.parts)

-- ---- where lines may stand

node-may : (r : Room) (n : ℕ) (l : Line) → r ≡ nodes → is_node l ≡ true → may_stand r n l ≡ true
node-may r n l e h = rw e h

cover-may : (r : Room) (n : ℕ) (l : Line) → r ≡ covers → is_cover l ≡ true → may_stand r n l ≡ true
cover-may r n l e h = rw e h

case-may : (r : Room) (k n : ℕ) (l : Line) → r ≡ cases k → nat_lt n k ≡ true → is_case l ≡ true → may_stand r n l ≡ true
case-may r k n l e f h = rw (e, f, h) refl

-- the part is told otherwise
told : (s : State) (ps : List Placed) (d : ℕ) (o : Open) (os : List Open) (c : Certificate) (p q : List Part) → p ≡ q → Leads s ps d (with_parts o p ∷ os) c → Leads s ps d (with_parts o q ∷ os) c
told s ps d o os c p q e h = subst (λ r. Leads s ps d (with_parts o r ∷ os) c) e h

abbrev Below : (os : List Open) → ℕ → Type 0
Below os d = length os + 1 ≡ d

mutual
  pub tree-leads : (t : Tree) (d : ℕ) (s : State) (o : Open) (os : List Open) (c : Certificate) → Below os d → room_below o.line ≡ nodes → Like d s (o ∷ os) c
      → Leads s (tree_lines d t) d (with_parts o (node_part t ∷ []) ∷ os) c
  tree-leads (pos_tree a rule ts children) d s o os c h r like =
      told s (tree_lines d (pos_tree a rule ts children)) d o os c _ _ (ap (λ us. node_part (pos_tree a rule ts us) ∷ []) (trees-back children))
      (line-leads d s o os c (pos_line a rule ts) (trees_lines (d + 1) children) (trees_parts children) h (node-may _ _ (pos_line a rule ts) r refl) refl like
      (λ t l. trees-leads children (d + 1) t (opened (pos_line a rule ts)) (o ∷ os) c (omega (arith, h)) refl l))
  tree-leads (neg_tree a rules) d s o os c h r like =
      told s (tree_lines d (neg_tree a rules)) d o os c _ _ (ap (λ bs. node_part (neg_tree a bs) ∷ []) (covers-back rules))
      (line-leads d s o os c (neg_line a) (branches_lines (d + 1) rules) (covers_parts rules) h (node-may _ _ (neg_line a) r refl) refl like
      (λ t l. branches-leads rules (d + 1) t (opened (neg_line a)) (o ∷ os) c (omega (arith, h)) refl l))
  tree-leads (loop_tree l n) d s o os c h r like =
      line-leads d s o os c (loop_line l n) [] [] h (node-may _ _ (loop_line l n) r refl) refl like (λ t k. last-leads d t (opened (loop_line l n)) (o ∷ os) c k)
  tree-leads (seen_tree l n) d s o os c h r like =
      line-leads d s o os c (seen_line l n) [] [] h (node-may _ _ (seen_line l n) r refl) refl like (λ t k. last-leads d t (opened (seen_line l n)) (o ∷ os) c k)
  tree-leads (test_tree x y) d s o os c h r like =
      line-leads d s o os c (test_line x y) [] [] h (node-may _ _ (test_line x y) r refl) refl like (λ t k. last-leads d t (opened (test_line x y)) (o ∷ os) c k)

  pub trees-leads : (ts : Trees) (d : ℕ) (s : State) (o : Open) (os : List Open) (c : Certificate) → Below os d → room_below o.line ≡ nodes → Like d s (o ∷ os) c
      → Leads s (trees_lines d ts) d (with_parts o (trees_parts ts) ∷ os) c
  trees-leads no_tree d s o os c h r like = (s, refl, (λ e k. like e k ∙ ap (λ p. closed_to e (p ∷ os) c) (sym (none-parts o))), refl)
  trees-leads (tree t ts) d s o os c h r like =
      subst (λ p. Leads s (tree_lines d t ++ trees_lines d ts) d (p ∷ os) c) (more-parts o (node_part t) (trees_parts ts))
      (goes-on s (tree_lines d t) (trees_lines d ts) d d (with_parts o (node_part t ∷ []) ∷ os) (with_parts (with_parts o (node_part t ∷ [])) (trees_parts ts) ∷ os) c c (tree-leads t d s o os c h r like)
      (λ u l. trees-leads ts d u (with_parts o (node_part t ∷ [])) os c h r l))

  pub branch-leads : (b : Branch) (k d : ℕ) (s : State) (o : Open) (os : List Open) (c : Certificate) → Below os d → room_below o.line ≡ cases k → nat_lt (length o.parts) k ≡ true → Like d s (o ∷ os) c
      → Leads s (branch_lines d b) d (with_parts o (case_part b ∷ []) ∷ os) c
  branch-leads (split x f g) k d s o os c h r m like =
      line-leads d s o os c (split_line x) (branch_lines (d + 1) f ++ branch_lines (d + 1) g) (case_part f ∷ case_part g ∷ []) h (case-may _ k _ (split_line x) r m refl) refl like
      (λ t l. goes-on t (branch_lines (d + 1) f) (branch_lines (d + 1) g) (d + 1) (d + 1) (with_parts (opened (split_line x)) (case_part f ∷ []) ∷ o ∷ os)
      (with_parts (with_parts (opened (split_line x)) (case_part f ∷ [])) (case_part g ∷ []) ∷ o ∷ os) c c
      (branch-leads f 2 (d + 1) t (opened (split_line x)) (o ∷ os) c (omega (arith, h)) refl refl l)
      (λ u i. branch-leads g 2 (d + 1) u (with_parts (opened (split_line x)) (case_part f ∷ [])) (o ∷ os) c (omega (arith, h)) refl refl i))
  branch-leads (void y) k d s o os c h r m like =
      line-leads d s o os c (void_line y) [] [] h (case-may _ k _ (void_line y) r m refl) refl like (λ t l. last-leads d t (opened (void_line y)) (o ∷ os) c l)
  branch-leads (leaf i children) k d s o os c h r m like =
      told s (branch_lines d (leaf i children)) d o os c _ _ (ap (λ us. case_part (leaf i us) ∷ []) (trees-back children))
      (line-leads d s o os c (leaf_line i) (trees_lines (d + 1) children) (trees_parts children) h (case-may _ k _ (leaf_line i) r m refl) refl like
      (λ t l. trees-leads children (d + 1) t (opened (leaf_line i)) (o ∷ os) c (omega (arith, h)) refl l))
  branch-leads (head children) k d s o os c h r m like =
      told s (branch_lines d (head children)) d o os c _ _ (ap (λ us. case_part (head us) ∷ []) (trees-back children))
      (line-leads d s o os c head_line (trees_lines (d + 1) children) (trees_parts children) h (case-may _ k _ head_line r m refl) refl like
      (λ t l. trees-leads children (d + 1) t (opened head_line) (o ∷ os) c (omega (arith, h)) refl l))

  pub branches-leads : (bs : Branches) (d : ℕ) (s : State) (o : Open) (os : List Open) (c : Certificate) → Below os d → room_below o.line ≡ covers → Like d s (o ∷ os) c
      → Leads s (branches_lines d bs) d (with_parts o (covers_parts bs) ∷ os) c
  branches-leads no_branch d s o os c h r like = (s, refl, (λ e k. like e k ∙ ap (λ p. closed_to e (p ∷ os) c) (sym (none-parts o))), refl)
  branches-leads (branch k b bs) d s o os c h r like =
      subst (λ p. Leads s ((at d (rule_line k) ∷ branch_lines (d + 1) b) ++ branches_lines d bs) d (p ∷ os) c) (more-parts o (cover_part k b) (covers_parts bs))
      (goes-on s (at d (rule_line k) ∷ branch_lines (d + 1) b) (branches_lines d bs) d d (with_parts o (cover_part k b ∷ []) ∷ os) (with_parts (with_parts o (cover_part k b ∷ [])) (covers_parts bs) ∷ os) c c
      (line-leads d s o os c (rule_line k) (branch_lines (d + 1) b) (case_part b ∷ []) h (cover-may _ _ (rule_line k) r refl) refl like
      (λ t l. branch-leads b 1 (d + 1) t (opened (rule_line k)) (o ∷ os) c (omega (arith, h)) refl refl l))
      (λ u l. branches-leads bs d u (with_parts o (cover_part k b ∷ [])) os c h r l))
