-- A certificate is its skeleton with its own hints and clash lines.
use Rattle.std.proofs.Common.{◌≡◌, ◌∙◌, ℕ, suc, ◌+◌, Option, None, Some, List, [], ◌∷◌, ◌++◌, map, refl, ap, sym}
use Rattle.std.specs.List.{Contains}
use Rattle.std.proofs.lemmas.List.Elements.{Contains-append_left, Contains-append_right}
use Rattle.scasp_list.proofs.MemberLemmas.{Contains-here, Contains-there}
use Rattle.scasp_syntax.specs.Programs.{numbered}
use Rattle.scasp_syntax.specs.declared.atom.Atom.{Atom}
use Rattle.scasp_syntax.specs.declared.hint.Hint.{Hint}
use Rattle.scasp_syntax.specs.declared.hint.Hint.TheVariants as hints
use Rattle.scasp_syntax.specs.declared.program.Program.{Program}
use Rattle.scasp_cert.specs.Certificate.{Certificate}
use Rattle.scasp_cert.specs.Lines.{lines_of, lines_at, lines_below, lines_in}
use Rattle.scasp_cert.specs.Skeleton.{bare, all_bare, bare_branch, bare_covers, bare_entry, skeleton}
use Rattle.scasp_cert.specs.Trees.{Tree, Trees, Branch, Branches, pos_tree, neg_tree, loop_tree, seen_tree, test_tree, no_tree, tree, split, void, leaf, head, no_branch, branch, listed}
use Rattle.scasp_cert.specs.declared.certificate.Clash.{Clash}
use Rattle.scasp_lines.specs.Bodies.{Body, split_body, inside_rule, inside_check}
use Rattle.scasp_lines.specs.Dues.{Due, first_due, other_dues, query_dues}
use Rattle.scasp_lines.specs.Lines.{lines, setting, query_walk}
use Rattle.scasp_lines.specs.Places.{Place, start}
use Rattle.scasp_lines.specs.Sides.{sides}
use Rattle.scasp_lines.specs.Walk.{Part, of_node, of_rule, of_check, of_case, Line, Setting, node_walk, nodes_walk, branch_walk, covers_walk, rule_walk, check_walk, checks_walk}
use Rattle.scasp_lines.proofs.WalkLemmas.{line-found}
use Rattle.scasp_fill.specs.Filling.Hinted.{hinted, all_hinted, case_hinted, covers_hinted, trees_hinted, checks_hinted, shown_by}
use Rattle.scasp_fill.proofs.FillingLemmas.HintedLemmas.{sums}

-- ---- the hint on a line

abbrev hint_in_tree : Tree → Hint
hint_in_tree (pos_tree a k ts children) = hints.Terms
hint_in_tree (neg_tree a covers) = hints.Terms
hint_in_tree (loop_tree lit to) = hints.Terms
hint_in_tree (seen_tree lit to) = hints.Terms
hint_in_tree (test_tree c shown) = shown

abbrev hint_in_case : Branch → Hint
hint_in_case (split c first second) = hints.Terms
hint_in_case (void shown) = shown
hint_in_case (leaf k children) = hints.Terms
hint_in_case (head children) = hints.Terms

abbrev hint_in : Part → Hint
hint_in (of_node due t) = hint_in_tree t
hint_in (of_rule k a b) = hints.Terms
hint_in (of_check k b) = hints.Terms
hint_in (of_case body b) = hint_in_case b

abbrev hint_on : Option Line → Hint
hint_on None = hints.Terms
hint_on (Some l) = hint_in l.part

-- the hint on each line of a certificate
abbrev pub own : Program → Certificate → ℕ → Hint
own p c n = hint_on (numbered (lines p c) n)

-- ---- with its own hints each tree is itself

module _ (f : ℕ → Hint) (s : Setting) where
  -- the hints are those of these lines
  abbrev AreOwn : List Line → Type 0
  AreOwn ls = (l : Line) → Contains ls l → f l.at ≡ hint_in l.part

  below : (l : Line) (ls : List Line) → AreOwn (l ∷ ls) → AreOwn ls
  below l ls g x h = g x (Contains-there l ls x h)

  left : (xs ys : List Line) → AreOwn (xs ++ ys) → AreOwn xs
  left xs ys g x h = g x (Contains-append_left xs ys x h)

  right : (xs ys : List Line) → AreOwn (xs ++ ys) → AreOwn ys
  right xs ys g x h = g x (Contains-append_right xs ys x h)

  mutual
    own-node : (here : Place) (at next : ℕ) (due : Due) (t : Tree) → AreOwn (node_walk s here at next due t).lines → hinted f at t ≡ t
    own-node here at next due (pos_tree a k ts children) g = ap (pos_tree a k ts) (own-nodes _ (suc at) next _ children (below _ _ g))
    own-node here at next due (neg_tree a covers) g = ap (neg_tree a) (own-covers _ (suc at) next a covers (below _ _ g))
    own-node here at next due (loop_tree lit to) g = refl
    own-node here at next due (seen_tree lit to) g = refl
    own-node here at next due (test_tree c shown) g = ap (test_tree c) (g _ (Contains-here _ []))

    own-nodes : (here : Place) (at next : ℕ) (dues : List Due) (ts : Trees) → AreOwn (nodes_walk s here at next dues ts).lines → all_hinted f at ts ≡ ts
    own-nodes here at next dues no_tree g = refl
    own-nodes here at next dues (tree t ts) g =
        let xs = (node_walk s here at next (first_due dues) t).lines in
        let next' = (node_walk s here at next (first_due dues) t).next in
        let ys = (nodes_walk s here (at + lines_of t) next' (other_dues dues) ts).lines in
        ap (λ (x : Tree). tree x (all_hinted f (at + lines_of t) ts)) (own-node here at next (first_due dues) t (left xs ys g))
        ∙ ap (tree t) (own-nodes here (at + lines_of t) next' (other_dues dues) ts (right xs ys g))

    own-case : (here : Place) (at next : ℕ) (body : Body) (b : Branch) → AreOwn (branch_walk s here at next body b).lines → case_hinted f at b ≡ b
    own-case here at next body (split c one two) g =
        let x = sides s.free s.top c here next in
        let xs = (branch_walk s x.first (suc at) x.next (split_body body) one).lines in
        let next' = (branch_walk s x.first (suc at) x.next (split_body body) one).next in
        let ys = (branch_walk s x.second (suc at + lines_at one) next' (split_body body) two).lines in
        ap (λ (b : Branch). split c b (case_hinted f (suc at + lines_at one) two)) (own-case x.first (suc at) x.next (split_body body) one (left xs ys (below _ _ g)))
        ∙ ap (split c one) (own-case x.second (suc at + lines_at one) next' (split_body body) two (right xs ys (below _ _ g)))
    own-case here at next body (void shown) g = ap void (g _ (Contains-here _ []))
    own-case here at next body (leaf k children) g = ap (leaf k) (own-nodes _ (suc at) next _ children (below _ _ g))
    own-case here at next body (head children) g = ap head (own-nodes _ (suc at) next _ children (below _ _ g))

    own-covers : (here : Place) (at next : ℕ) (a : Atom) (bs : Branches) → AreOwn (covers_walk s here at next a bs).lines → covers_hinted f at bs ≡ bs
    own-covers here at next a no_branch g = refl
    own-covers here at next a (branch k b bs) g =
        let i = inside_rule (numbered s.clauses k) a next here in
        let xs = (rule_walk s here at next k a b).lines in
        let next' = (rule_walk s here at next k a b).next in
        let ys = (covers_walk s here (at + (1 + lines_at b)) next' a bs).lines in
        ap (λ (x : Branch). branch k x (covers_hinted f (at + (1 + lines_at b)) bs)) (own-case i.here (suc at) i.next i.body b (below _ _ (left xs ys g)))
        ∙ ap (branch k b) (own-covers here (at + (1 + lines_at b)) next' a bs (right xs ys g))

  own-trees : (here : Place) (at next : ℕ) (dues : List Due) (ts : List Tree) → AreOwn (nodes_walk s here at next dues (listed ts)).lines → trees_hinted f at ts ≡ ts
  own-trees here at next dues [] g = refl
  own-trees here at next dues (t ∷ ts) g =
      let xs = (node_walk s here at next (first_due dues) t).lines in
      let next' = (node_walk s here at next (first_due dues) t).next in
      let ys = (nodes_walk s here (at + lines_of t) next' (other_dues dues) (listed ts)).lines in
      ap (λ (x : Tree). x ∷ trees_hinted f (at + lines_of t) ts) (own-node here at next (first_due dues) t (left xs ys g))
      ∙ ap (λ (xs : List Tree). t ∷ xs) (own-trees here (at + lines_of t) next' (other_dues dues) ts (right xs ys g))

  own-checks : (here : Place) (at next : ℕ) (cs : List (ℕ × Branch)) → AreOwn (checks_walk s here at next cs).lines → checks_hinted f at cs ≡ cs
  own-checks here at next [] g = refl
  own-checks here at next (c ∷ cs) g =
      let i = inside_check (numbered s.clauses c.0) next here in
      let xs = (check_walk s here at next c.0 c.1).lines in
      let next' = (check_walk s here at next c.0 c.1).next in
      let ys = (checks_walk s here (at + (1 + lines_at c.1)) next' cs).lines in
      ap (λ (b : Branch). (c.0, b) ∷ checks_hinted f (at + (1 + lines_at c.1)) cs) (own-case i.here (suc at) i.next i.body c.1 (below _ _ (left xs ys g)))
      ∙ ap (λ (ks : List (ℕ × Branch)). c ∷ ks) (own-checks here (at + (1 + lines_at c.1)) next' cs (right xs ys g))

-- ---- hints that stood there do not count

module _ (f : ℕ → Hint) where
  mutual
    bare-lines : (t : Tree) → lines_of (bare t) ≡ lines_of t
    bare-lines (pos_tree a k ts children) = ap (λ n. 1 + n) (bare-below children)
    bare-lines (neg_tree a covers) = ap (λ n. 1 + n) (bare-in covers)
    bare-lines (loop_tree lit to) = refl
    bare-lines (seen_tree lit to) = refl
    bare-lines (test_tree c shown) = refl

    bare-below : (ts : Trees) → lines_below (all_bare ts) ≡ lines_below ts
    bare-below no_tree = refl
    bare-below (tree t ts) = sums (bare-lines t) (bare-below ts)

    bare-at : (b : Branch) → lines_at (bare_branch b) ≡ lines_at b
    bare-at (split c one two) = ap (λ n. 1 + n) (sums (bare-at one) (bare-at two))
    bare-at (void shown) = refl
    bare-at (leaf k children) = ap (λ n. 1 + n) (bare-below children)
    bare-at (head children) = ap (λ n. 1 + n) (bare-below children)

    bare-in : (bs : Branches) → lines_in (bare_covers bs) ≡ lines_in bs
    bare-in no_branch = refl
    bare-in (branch k b bs) = sums (ap (λ n. 1 + n) (bare-at b)) (bare-in bs)

  mutual
    bare-hinted : (at : ℕ) (t : Tree) → hinted f at (bare t) ≡ hinted f at t
    bare-hinted at (pos_tree a k ts children) = ap (pos_tree a k ts) (bare-all_hinted (suc at) children)
    bare-hinted at (neg_tree a covers) = ap (neg_tree a) (bare-covers_hinted (suc at) covers)
    bare-hinted at (loop_tree lit to) = refl
    bare-hinted at (seen_tree lit to) = refl
    bare-hinted at (test_tree c shown) = refl

    bare-all_hinted : (at : ℕ) (ts : Trees) → all_hinted f at (all_bare ts) ≡ all_hinted f at ts
    bare-all_hinted at no_tree = refl
    bare-all_hinted at (tree t ts) =
        ap (λ (x : Tree). tree x (all_hinted f (at + lines_of (bare t)) (all_bare ts))) (bare-hinted at t)
        ∙ ap (λ n. tree (hinted f at t) (all_hinted f (at + n) (all_bare ts))) (bare-lines t)
        ∙ ap (tree (hinted f at t)) (bare-all_hinted (at + lines_of t) ts)

    bare-case_hinted : (at : ℕ) (b : Branch) → case_hinted f at (bare_branch b) ≡ case_hinted f at b
    bare-case_hinted at (split c one two) =
        ap (λ (x : Branch). split c x (case_hinted f (suc at + lines_at (bare_branch one)) (bare_branch two))) (bare-case_hinted (suc at) one)
        ∙ ap (λ n. split c (case_hinted f (suc at) one) (case_hinted f (suc at + n) (bare_branch two))) (bare-at one)
        ∙ ap (split c (case_hinted f (suc at) one)) (bare-case_hinted (suc at + lines_at one) two)
    bare-case_hinted at (void shown) = refl
    bare-case_hinted at (leaf k children) = ap (leaf k) (bare-all_hinted (suc at) children)
    bare-case_hinted at (head children) = ap head (bare-all_hinted (suc at) children)

    bare-covers_hinted : (at : ℕ) (bs : Branches) → covers_hinted f at (bare_covers bs) ≡ covers_hinted f at bs
    bare-covers_hinted at no_branch = refl
    bare-covers_hinted at (branch k b bs) =
        ap (λ (x : Branch). branch k x (covers_hinted f (at + (1 + lines_at (bare_branch b))) (bare_covers bs))) (bare-case_hinted (suc at) b)
        ∙ ap (λ n. branch k (case_hinted f (suc at) b) (covers_hinted f (at + (1 + n)) (bare_covers bs))) (bare-at b)
        ∙ ap (branch k (case_hinted f (suc at) b)) (bare-covers_hinted (at + (1 + lines_at b)) bs)

  bare-trees : (at : ℕ) (ts : List Tree) → trees_hinted f at (map bare ts) ≡ trees_hinted f at ts
  bare-trees at [] = refl
  bare-trees at (t ∷ ts) =
      ap (λ (x : Tree). x ∷ trees_hinted f (at + lines_of (bare t)) (map bare ts)) (bare-hinted at t)
      ∙ ap (λ n. hinted f at t ∷ trees_hinted f (at + n) (map bare ts)) (bare-lines t)
      ∙ ap (λ (xs : List Tree). hinted f at t ∷ xs) (bare-trees (at + lines_of t) ts)

  bare-checks : (at : ℕ) (ks : List (ℕ × Branch)) → checks_hinted f at (map bare_entry ks) ≡ checks_hinted f at ks
  bare-checks at [] = refl
  bare-checks at (k ∷ ks) =
      ap (λ (b : Branch). (k.0, b) ∷ checks_hinted f (at + (1 + lines_at (bare_branch k.1))) (map bare_entry ks)) (bare-case_hinted (suc at) k.1)
      ∙ ap (λ n. (k.0, case_hinted f (suc at) k.1) ∷ checks_hinted f (at + (1 + n)) (map bare_entry ks)) (bare-at k.1)
      ∙ ap (λ (xs : List (ℕ × Branch)). (k.0, case_hinted f (suc at) k.1) ∷ xs) (bare-checks (at + (1 + lines_at k.1)) ks)

  bare-listed : (ts : List Tree) → lines_below (listed (map bare ts)) ≡ lines_below (listed ts)
  bare-listed [] = refl
  bare-listed (t ∷ ts) = sums (bare-lines t) (bare-listed ts)

  abbrev with_parts : Certificate → List Clash → List Tree → List (ℕ × Branch) → Certificate
  with_parts c clashes trees checks =
      record { query = c.query; terms = c.terms; given = c.given; sample = c.sample; trees = trees; checks = checks; clashes = clashes; map = c.map }

  by-skeleton : (clashes : List Clash) (c : Certificate) → shown_by f clashes (skeleton c) ≡ shown_by f clashes c
  by-skeleton clashes c =
      ap (λ (ts : List Tree). with_parts c clashes ts (checks_hinted f (1 + lines_below (listed (map bare c.trees))) (map bare_entry c.checks))) (bare-trees 1 c.trees)
      ∙ ap (λ n. with_parts c clashes (trees_hinted f 1 c.trees) (checks_hinted f (1 + n) (map bare_entry c.checks))) (bare-listed c.trees)
      ∙ ap (with_parts c clashes (trees_hinted f 1 c.trees)) (bare-checks (1 + lines_below (listed c.trees)) c.checks)

  -- certificates of one skeleton are the same with the same hints
  pub of-skeleton : (clashes : List Clash) (a b : Certificate) → skeleton a ≡ skeleton b → shown_by f clashes a ≡ shown_by f clashes b
  of-skeleton clashes a b e = sym (by-skeleton clashes a) ∙ ap (shown_by f clashes) e ∙ by-skeleton clashes b

-- ---- the skeleton is the same with other hints

module _ (f : ℕ → Hint) where
  mutual
    bare-same : (at : ℕ) (t : Tree) → bare (hinted f at t) ≡ bare t
    bare-same at (pos_tree a k ts children) = ap (pos_tree a k ts) (bare-all_same (suc at) children)
    bare-same at (neg_tree a covers) = ap (neg_tree a) (bare-covers_same (suc at) covers)
    bare-same at (loop_tree lit to) = refl
    bare-same at (seen_tree lit to) = refl
    bare-same at (test_tree c shown) = refl

    bare-all_same : (at : ℕ) (ts : Trees) → all_bare (all_hinted f at ts) ≡ all_bare ts
    bare-all_same at no_tree = refl
    bare-all_same at (tree t ts) =
        ap (λ (x : Tree). tree x (all_bare (all_hinted f (at + lines_of t) ts))) (bare-same at t) ∙ ap (tree (bare t)) (bare-all_same (at + lines_of t) ts)

    bare-case_same : (at : ℕ) (b : Branch) → bare_branch (case_hinted f at b) ≡ bare_branch b
    bare-case_same at (split c one two) =
        ap (λ (x : Branch). split c x (bare_branch (case_hinted f (suc at + lines_at one) two))) (bare-case_same (suc at) one)
        ∙ ap (split c (bare_branch one)) (bare-case_same (suc at + lines_at one) two)
    bare-case_same at (void shown) = refl
    bare-case_same at (leaf k children) = ap (leaf k) (bare-all_same (suc at) children)
    bare-case_same at (head children) = ap head (bare-all_same (suc at) children)

    bare-covers_same : (at : ℕ) (bs : Branches) → bare_covers (covers_hinted f at bs) ≡ bare_covers bs
    bare-covers_same at no_branch = refl
    bare-covers_same at (branch k b bs) =
        ap (λ (x : Branch). branch k x (bare_covers (covers_hinted f (at + (1 + lines_at b)) bs))) (bare-case_same (suc at) b)
        ∙ ap (branch k (bare_branch b)) (bare-covers_same (at + (1 + lines_at b)) bs)

  bare-trees_same : (at : ℕ) (ts : List Tree) → map bare (trees_hinted f at ts) ≡ map bare ts
  bare-trees_same at [] = refl
  bare-trees_same at (t ∷ ts) =
      ap (λ (x : Tree). x ∷ map bare (trees_hinted f (at + lines_of t) ts)) (bare-same at t) ∙ ap (λ (xs : List Tree). bare t ∷ xs) (bare-trees_same (at + lines_of t) ts)

  bare-checks_same : (at : ℕ) (ks : List (ℕ × Branch)) → map bare_entry (checks_hinted f at ks) ≡ map bare_entry ks
  bare-checks_same at [] = refl
  bare-checks_same at (k ∷ ks) =
      ap (λ (b : Branch). (k.0, b) ∷ map bare_entry (checks_hinted f (at + (1 + lines_at k.1)) ks)) (bare-case_same (suc at) k.1)
      ∙ ap (λ (xs : List (ℕ × Branch)). bare_entry k ∷ xs) (bare-checks_same (at + (1 + lines_at k.1)) ks)

  pub skeleton-shown : (clashes : List Clash) (c : Certificate) → skeleton (shown_by f clashes c) ≡ skeleton c
  skeleton-shown clashes c =
      ap (λ (ts : List Tree). with_parts f c [] ts (map bare_entry (checks_hinted f (1 + lines_below (listed c.trees)) c.checks))) (bare-trees_same 1 c.trees)
      ∙ ap (with_parts f c [] (map bare c.trees)) (bare-checks_same (1 + lines_below (listed c.trees)) c.checks)

-- ---- with its own hints and clash lines each certificate is itself

module _ (p : Program) (c : Certificate) where
  own-hints : (l : Line) → Contains (lines p c) l → own p c l.at ≡ hint_in l.part
  own-hints l h = ap hint_on (line-found p.clauses p.queries c l h)

  own-certificate : shown_by (own p c) c.clashes c ≡ c
  own-certificate =
      let f = own p c in
      let s = setting p.clauses c in
      let w = query_walk p.clauses p.queries c in
      let at = 1 + lines_below (listed c.trees) in
      let xs = w.lines in
      let ys = (checks_walk s (start s.top) at w.next c.checks).lines in
      ap (λ (ts : List Tree). with_parts f c c.clashes ts (checks_hinted f at c.checks))
      (own-trees f s (start s.top) 1 s.free (query_dues (numbered p.queries c.query) c.terms) c.trees (left f s xs ys own-hints))
      ∙ ap (with_parts f c c.clashes c.trees) (own-checks f s (start s.top) at w.next c.checks (right f s xs ys own-hints))

-- a certificate is any other one of its skeleton, with its own hints and clash lines
pub as-own : (p : Program) (a b : Certificate) → skeleton a ≡ skeleton b → shown_by (own p a) a.clashes b ≡ a
as-own p a b e = sym (of-skeleton (own p a) a.clashes a b e) ∙ own-certificate p a
