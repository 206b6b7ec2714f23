-- As many universal variables can begin where the clauses that are named are the same.
use Rattle.std.proofs.Common.{◌≡◌, ℕ, ◌+◌, Bool, false, ◌||◌, List, [], ◌∷◌, ◌++◌, Option, refl}
use Rattle.std.specs.List.{flat_map, list_any}
use Rattle.std.proofs.lemmas.Bool.{or_parts}
use Rattle.scasp_syntax.specs.Programs.{numbered}
use Rattle.scasp_syntax.specs.declared.clause.Clause.{Clause}
use Rattle.scasp_cert.specs.Trees.{Tree, Trees, Branch, Branches, pos_tree, neg_tree, loop_tree, seen_tree, test_tree, no_tree, tree, split, void, leaf, head, no_branch, branch}
use Rattle.scasp_lines.specs.Rooms.{room_at, room_below, room_in, room_of, room_of_clause, room_of_con, room_under}
use Rattle.scasp_touched.specs.Named.{clauses_at, clauses_below, clauses_in, clauses_of, clauses_under}
use Rattle.scasp_law_untouched.proofs.SameLemmas.{none-both}

module _ (cs ds : List Clause) (differs : ℕ → Bool) (same : (k : ℕ) → differs k ≡ false → numbered cs k ≡ numbered ds k) where
  mutual
    room-tree : (t : Tree) → list_any differs (clauses_of t) ≡ false → room_of cs t ≡ room_of ds t
    room-tree (pos_tree a k ts children) e = room-trees children (or_parts (differs k) (list_any differs (clauses_below children)) e).1
    room-tree (neg_tree a covers) e = room-covers covers e
    room-tree (loop_tree lit to) e = refl
    room-tree (seen_tree lit to) e = refl
    room-tree (test_tree c hint) e = refl

    pub room-trees : (ts : Trees) → list_any differs (clauses_below ts) ≡ false → room_below cs ts ≡ room_below ds ts
    room-trees no_tree e = refl
    room-trees (tree t ts) e =
        let h = none-both differs (clauses_of t) (clauses_below ts) e in
        λ i. room-tree t h.0 i + room-trees ts h.1 i

    room-branch : (b : Branch) → list_any differs (clauses_at b) ≡ false → room_at cs b ≡ room_at ds b
    room-branch (split c first second) e =
        let h = none-both differs (clauses_at first) (clauses_at second) e in
        λ i. room_of_con c + (room-branch first h.0 i + room-branch second h.1 i)
    room-branch (void hint) e = refl
    room-branch (leaf k children) e = room-trees children e
    room-branch (head children) e = room-trees children e

    room-covers : (bs : Branches) → list_any differs (clauses_in bs) ≡ false → room_in cs bs ≡ room_in ds bs
    room-covers no_branch e = refl
    room-covers (branch k b bs) e =
        let h = or_parts (differs k) (list_any differs (clauses_at b ++ clauses_in bs)) e in
        let g = none-both differs (clauses_at b) (clauses_in bs) h.1 in
        λ i. room_of_clause (same k h.0 i) + (room-branch b g.0 i + room-covers bs g.1 i)

  pub room-checks : (ks : List (ℕ × Branch)) → list_any differs (flat_map clauses_under ks) ≡ false → room_under cs ks ≡ room_under ds ks
  room-checks [] e = refl
  room-checks (k ∷ ks) e =
      let h = none-both differs (clauses_under k) (flat_map clauses_under ks) e in
      let g = or_parts (differs k.0) (list_any differs (clauses_at k.1)) h.0 in
      λ i. room_of_clause (same k.0 g.0 i) + (room-branch k.1 g.1 i + room-checks ks h.1 i)
