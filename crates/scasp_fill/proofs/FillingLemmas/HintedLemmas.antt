-- Other hints change no number of lines, no room, and nothing else that is counted.
use Rattle.std.proofs.Common.{◌≡◌, ◌∙◌, ℕ, suc, ◌+◌, Bool, ◌&&◌, List, [], ◌∷◌, refl, ap}
use Rattle.scasp_syntax.specs.Programs.{numbered}
use Rattle.scasp_syntax.specs.declared.clause.Clause.{Clause}
use Rattle.scasp_syntax.specs.declared.hint.Hint.{Hint}
use Rattle.scasp_cert.specs.Lines.{lines_of, lines_at, lines_below, lines_in}
use Rattle.scasp_cert.specs.Trees.{Tree, Trees, Branch, Branches, pos_tree, neg_tree, loop_tree, seen_tree, test_tree, no_tree, tree, split, void, leaf, head, no_branch, branch, listed}
use Rattle.scasp_lines.specs.Below.{count, rule_numbers}
use Rattle.scasp_lines.specs.Dues.{Due, goal, fact, nothing}
use Rattle.scasp_lines.specs.Rooms.{room_of, room_below, room_at, room_in, room_under, room_of_con, room_of_clause}
use Rattle.scasp_checker_rules.specs.Firm.{is_firm, are_firm}
use Rattle.scasp_checker_rules.specs.LineFaults.{is_kind}
use Rattle.scasp_fill.specs.Filling.Hinted.{hinted, all_hinted, case_hinted, covers_hinted, trees_hinted, checks_hinted}

-- equal parts make equal sums
pub sums : {a b x y : ℕ} → a ≡ b → x ≡ y → a + x ≡ b + y
sums {a} {b} {x} {y} p q = ap (λ n. n + x) p ∙ ap (λ n. b + n) q

module _ (f : ℕ → Hint) where
  mutual
    pub same-lines : (at : ℕ) (t : Tree) → lines_of (hinted f at t) ≡ lines_of t
    same-lines at (pos_tree a k ts children) = ap (λ n. 1 + n) (same-below (suc at) children)
    same-lines at (neg_tree a covers) = ap (λ n. 1 + n) (same-in (suc at) covers)
    same-lines at (loop_tree lit to) = refl
    same-lines at (seen_tree lit to) = refl
    same-lines at (test_tree c shown) = refl

    pub same-below : (at : ℕ) (ts : Trees) → lines_below (all_hinted f at ts) ≡ lines_below ts
    same-below at no_tree = refl
    same-below at (tree t ts) = sums (same-lines at t) (same-below (at + lines_of t) ts)

    pub same-at : (at : ℕ) (b : Branch) → lines_at (case_hinted f at b) ≡ lines_at b
    same-at at (split c first second) = ap (λ n. 1 + n) (sums (same-at (suc at) first) (same-at (suc at + lines_at first) second))
    same-at at (void shown) = refl
    same-at at (leaf k children) = ap (λ n. 1 + n) (same-below (suc at) children)
    same-at at (head children) = ap (λ n. 1 + n) (same-below (suc at) children)

    pub same-in : (at : ℕ) (bs : Branches) → lines_in (covers_hinted f at bs) ≡ lines_in bs
    same-in at no_branch = refl
    same-in at (branch k b bs) = sums (ap (λ n. 1 + n) (same-at (suc at) b)) (same-in (at + (1 + lines_at b)) bs)

  module _ (cs : List Clause) where
    mutual
      pub same-room : (at : ℕ) (t : Tree) → room_of cs (hinted f at t) ≡ room_of cs t
      same-room at (pos_tree a k ts children) = same-room_below (suc at) children
      same-room at (neg_tree a covers) = same-room_in (suc at) covers
      same-room at (loop_tree lit to) = refl
      same-room at (seen_tree lit to) = refl
      same-room at (test_tree c shown) = refl

      pub same-room_below : (at : ℕ) (ts : Trees) → room_below cs (all_hinted f at ts) ≡ room_below cs ts
      same-room_below at no_tree = refl
      same-room_below at (tree t ts) = sums (same-room at t) (same-room_below (at + lines_of t) ts)

      pub same-room_at : (at : ℕ) (b : Branch) → room_at cs (case_hinted f at b) ≡ room_at cs b
      same-room_at at (split c first second) =
          ap (λ n. room_of_con c + n) (sums (same-room_at (suc at) first) (same-room_at (suc at + lines_at first) second))
      same-room_at at (void shown) = refl
      same-room_at at (leaf k children) = same-room_below (suc at) children
      same-room_at at (head children) = same-room_below (suc at) children

      pub same-room_in : (at : ℕ) (bs : Branches) → room_in cs (covers_hinted f at bs) ≡ room_in cs bs
      same-room_in at no_branch = refl
      same-room_in at (branch k b bs) =
          ap (λ n. room_of_clause (numbered cs k) + n) (sums (same-room_at (suc at) b) (same-room_in (at + (1 + lines_at b)) bs))

    pub same-room_under : (at : ℕ) (ks : List (ℕ × Branch)) → room_under cs (checks_hinted f at ks) ≡ room_under cs ks
    same-room_under at [] = refl
    same-room_under at (k ∷ ks) =
        ap (λ n. room_of_clause (numbered cs k.0) + n) (sums (same-room_at (suc at) k.1) (same-room_under (at + (1 + lines_at k.1)) ks))

  pub listed-hinted : (at : ℕ) (ts : List Tree) → listed (trees_hinted f at ts) ≡ all_hinted f at (listed ts)
  listed-hinted at [] = refl
  listed-hinted at (t ∷ ts) = ap (tree (hinted f at t)) (listed-hinted (at + lines_of t) ts)

  pub same-count : (at : ℕ) (ts : Trees) → count (all_hinted f at ts) ≡ count ts
  same-count at no_tree = refl
  same-count at (tree t ts) = ap suc (same-count (at + lines_of t) ts)

  pub same-rules : (at : ℕ) (bs : Branches) → rule_numbers (covers_hinted f at bs) ≡ rule_numbers bs
  same-rules at no_branch = refl
  same-rules at (branch k b bs) = ap (λ (ks : List ℕ). k ∷ ks) (same-rules (at + (1 + lines_at b)) bs)

  mutual
    pub same-firm : (at : ℕ) (t : Tree) → is_firm (hinted f at t) ≡ is_firm t
    same-firm at (pos_tree a k ts children) = same-all_firm (suc at) children
    same-firm at (neg_tree a covers) = refl
    same-firm at (loop_tree lit to) = refl
    same-firm at (seen_tree lit to) = refl
    same-firm at (test_tree c shown) = refl

    pub same-all_firm : (at : ℕ) (ts : Trees) → are_firm (all_hinted f at ts) ≡ are_firm ts
    same-all_firm at no_tree = refl
    same-all_firm at (tree t ts) =
        ap (λ (b : Bool). b && are_firm (all_hinted f (at + lines_of t) ts)) (same-firm at t)
        ∙ ap (λ (b : Bool). is_firm t && b) (same-all_firm (at + lines_of t) ts)

  pub same-kind : (positives : Bool) (due : Due) (at : ℕ) (t : Tree) → is_kind positives due (hinted f at t) ≡ is_kind positives due t
  same-kind positives (goal l) at (pos_tree a k ts children) = refl
  same-kind positives (goal l) at (neg_tree a covers) = refl
  same-kind positives (goal l) at (loop_tree lit to) = refl
  same-kind positives (goal l) at (seen_tree lit to) = refl
  same-kind positives (goal l) at (test_tree c shown) = refl
  same-kind positives (fact o) at (pos_tree a k ts children) = refl
  same-kind positives (fact o) at (neg_tree a covers) = refl
  same-kind positives (fact o) at (loop_tree lit to) = refl
  same-kind positives (fact o) at (seen_tree lit to) = refl
  same-kind positives (fact o) at (test_tree c shown) = refl
  same-kind positives nothing at t = refl
