-- The walk over a certificate comes to the same lines where the clauses that are named are the same.
use Rattle.std.proofs.Common.{◌≡◌, ◌∙◌, ℕ, suc, ◌+◌, true, false, Bool, ◌||◌, List, [], ◌∷◌, ◌++◌, Option, refl, ap}
use Rattle.std.specs.List.{flat_map, list_any}
use Rattle.std.proofs.lemmas.Bool.{or_parts}
use Rattle.scasp_syntax.specs.Programs.{numbered}
use Rattle.scasp_syntax.specs.declared.atom.Atom.{Atom}
use Rattle.scasp_syntax.specs.declared.clause.Clause.{Clause}
use Rattle.scasp_cert.specs.Lines.{lines_at, lines_of}
use Rattle.scasp_cert.specs.Trees.{Tree, Trees, Branch, Branches, pos_tree, neg_tree, loop_tree, seen_tree, test_tree, no_tree, tree, split, void, leaf, head, no_branch, branch}
use Rattle.scasp_lines.specs.Bodies.{Body, Inside, inside_check, inside_rule, split_body}
use Rattle.scasp_lines.specs.Dues.{Due, first_due, head_dues, leaf_dues, other_dues, rule_dues}
use Rattle.scasp_lines.specs.Places.{Place, below_literal, within_case}
use Rattle.scasp_lines.specs.Sides.{sides}
use Rattle.scasp_lines.specs.Walk.{Line, Setting, Walked, branch_walk, check_walk, checks_walk, covers_walk, followed, line, node_walk, nodes_walk, of_case, of_check, of_node, of_rule, started}
use Rattle.scasp_touched.specs.Named.{clauses_at, clauses_below, clauses_in, clauses_of, clauses_under}
use Rattle.scasp_law_untouched.proofs.SameLemmas.{none-both}

abbrev pub setting_of : ℕ → ℕ → List Clause → Setting
setting_of free top cs = record { clauses = cs; free = free; top = top }

module _ (cs ds : List Clause) (differs : ℕ → Bool) (same : (k : ℕ) → differs k ≡ false → numbered cs k ≡ numbered ds k) (free top : ℕ) where
  mutual
    same-tree : (here : Place) (at next : ℕ) (due : Due) (t : Tree) → list_any differs (clauses_of t) ≡ false
        → node_walk (setting_of free top cs) here at next due t ≡ node_walk (setting_of free top ds) here at next due t
    same-tree here at next due (pos_tree a k ts children) e =
        let h = or_parts (differs k) (list_any differs (clauses_below children)) e in
        let l : Line = line at next here (of_node due (pos_tree a k ts children)) in
        let below : Place = below_literal at true a here in
        ap (λ o. started l (nodes_walk (setting_of free top cs) below (suc at) next (rule_dues o here ts) children)) (same k h.0)
        ∙ ap (started l) (same-trees below (suc at) next (rule_dues (numbered ds k) here ts) children h.1)
    same-tree here at next due (neg_tree a covers) e =
        ap (started (line at next here (of_node due (neg_tree a covers)))) (same-covers (below_literal at false a here) (suc at) next a covers e)
    same-tree here at next due (loop_tree lit to) e = refl
    same-tree here at next due (seen_tree lit to) e = refl
    same-tree here at next due (test_tree c hint) e = refl

    pub same-trees : (here : Place) (at next : ℕ) (dues : List Due) (ts : Trees) → list_any differs (clauses_below ts) ≡ false
        → nodes_walk (setting_of free top cs) here at next dues ts ≡ nodes_walk (setting_of free top ds) here at next dues ts
    same-trees here at next dues no_tree e = refl
    same-trees here at next dues (tree t ts) e =
        let h = none-both differs (clauses_of t) (clauses_below ts) e in
        let first : Walked = node_walk (setting_of free top ds) here at next (first_due dues) t in
        ap (λ w. followed w (nodes_walk (setting_of free top cs) here (at + lines_of t) w.next (other_dues dues) ts))
        (same-tree here at next (first_due dues) t h.0)
        ∙ ap (followed first) (same-trees here (at + lines_of t) first.next (other_dues dues) ts h.1)

    same-branch : (here : Place) (at next : ℕ) (body : Body) (b : Branch) → list_any differs (clauses_at b) ≡ false
        → branch_walk (setting_of free top cs) here at next body b ≡ branch_walk (setting_of free top ds) here at next body b
    same-branch here at next body (split c first second) e =
        let h = none-both differs (clauses_at first) (clauses_at second) e in
        let both = sides free top c here next in
        let l : Line = line at next here (of_case body (split c first second)) in
        let one : Walked = branch_walk (setting_of free top ds) both.first (suc at) both.next (split_body body) first in
        ap (λ w. started l (followed w (branch_walk (setting_of free top cs) both.second (suc at + lines_at first) w.next (split_body body) second)))
        (same-branch both.first (suc at) both.next (split_body body) first h.0)
        ∙ ap (λ w. started l (followed one w)) (same-branch both.second (suc at + lines_at first) one.next (split_body body) second h.1)
    same-branch here at next body (void hint) e = refl
    same-branch here at next body (leaf k children) e =
        ap (started (line at next here (of_case body (leaf k children))))
        (same-trees (within_case at body.bare here) (suc at) next (leaf_dues here body k) children e)
    same-branch here at next body (head children) e =
        ap (started (line at next here (of_case body (head children))))
        (same-trees (within_case at body.bare here) (suc at) next (head_dues here body) children e)

    same-covers : (here : Place) (at next : ℕ) (a : Atom) (bs : Branches) → list_any differs (clauses_in bs) ≡ false
        → covers_walk (setting_of free top cs) here at next a bs ≡ covers_walk (setting_of free top ds) here at next a bs
    same-covers here at next a no_branch e = refl
    same-covers here at next a (branch k b bs) e =
        let h = or_parts (differs k) (list_any differs (clauses_at b ++ clauses_in bs)) e in
        let g = none-both differs (clauses_at b) (clauses_in bs) h.1 in
        let l : Line = line at next here (of_rule k a b) in
        let i : Inside = inside_rule (numbered ds k) a next here in
        let first : Walked = started l (branch_walk (setting_of free top ds) i.here (suc at) i.next i.body b) in
        ap (λ o. let j = inside_rule o a next here in
        let w = started l (branch_walk (setting_of free top cs) j.here (suc at) j.next j.body b) in
        followed w (covers_walk (setting_of free top cs) here (at + (1 + lines_at b)) w.next a bs)) (same k h.0)
        ∙ ap (λ z. let w = started l z in followed w (covers_walk (setting_of free top cs) here (at + (1 + lines_at b)) w.next a bs))
        (same-branch i.here (suc at) i.next i.body b g.0)
        ∙ ap (followed first) (same-covers here (at + (1 + lines_at b)) first.next a bs g.1)

  same-check : (here : Place) (at next k : ℕ) (b : Branch) → list_any differs (clauses_under (k, b)) ≡ false
      → check_walk (setting_of free top cs) here at next k b ≡ check_walk (setting_of free top ds) here at next k b
  same-check here at next k b e =
      let h = or_parts (differs k) (list_any differs (clauses_at b)) e in
      let l : Line = line at next here (of_check k b) in
      let i : Inside = inside_check (numbered ds k) next here in
      ap (λ o. let j = inside_check o next here in started l (branch_walk (setting_of free top cs) j.here (suc at) j.next j.body b)) (same k h.0)
      ∙ ap (started l) (same-branch i.here (suc at) i.next i.body b h.1)

  pub same-checks : (here : Place) (at next : ℕ) (ks : List (ℕ × Branch)) → list_any differs (flat_map clauses_under ks) ≡ false
      → checks_walk (setting_of free top cs) here at next ks ≡ checks_walk (setting_of free top ds) here at next ks
  same-checks here at next [] e = refl
  same-checks here at next (k ∷ ks) e =
      let h = none-both differs (clauses_under k) (flat_map clauses_under ks) e in
      let first : Walked = check_walk (setting_of free top ds) here at next k.0 k.1 in
      ap (λ w. followed w (checks_walk (setting_of free top cs) here (at + (1 + lines_at k.1)) w.next ks)) (same-check here at next k.0 k.1 h.0)
      ∙ ap (followed first) (same-checks here (at + (1 + lines_at k.1)) first.next ks h.1)
