-- The rows of a list are in normal form where those of its parts are, and a walk meets the constraints of a certificate.
use Rattle.std.proofs.Common.{◌≡◌, ◌∙◌, ◌&&◌, ◌++◌, ℕ, IsTrue, true, List, [], ◌∷◌, refl, ap, sym}
use Rattle.std.proofs.lemmas.Grind.{flat_map-append}
use Rattle.std.proofs.lemmas.List.Folds.{list_all-append}
use Rattle.std.specs.List.{flat_map}
use Rattle.scasp_syntax.specs.declared.con.Con.{Con}
use Rattle.scasp_cert.specs.Certificate.{Certificate}
use Rattle.scasp_cert.specs.Trees.{Tree, Trees, Branch, Branches, pos_tree, neg_tree, loop_tree, seen_tree, test_tree, no_tree, tree, split, void, leaf, head, no_branch, branch, listed}
use Rattle.scasp_cert.specs.Walk.{Line, walk, walk_at, walk_below, walk_in, walk_of, walk_under}
use Rattle.scasp_law_promise.specs.OwnRows.{are_normal, constraints_at, constraints_below, constraints_by, constraints_in, constraints_on, has_normal_rows, is_con_normal}

pub normal_append : (xs ys : List Con) → are_normal (xs ++ ys) ≡ (are_normal xs && are_normal ys)
normal_append xs ys = list_all-append is_con_normal xs ys

mutual
  by_met : (t : Tree) → flat_map constraints_on (walk_of t) ≡ constraints_by t
  by_met (pos_tree a rule ts children) = below_met children
  by_met (neg_tree a covers) = in_met covers
  by_met (loop_tree lit at) = refl
  by_met (seen_tree lit at) = refl
  by_met (test_tree c hint) = refl

  below_met : (ts : Trees) → flat_map constraints_on (walk_below ts) ≡ constraints_below ts
  below_met no_tree = refl
  below_met (tree t ts) = flat_map-append constraints_on (walk_of t) (walk_below ts) ∙ (λ i. by_met t i ++ below_met ts i)

  at_met : (b : Branch) → flat_map constraints_on (walk_at b) ≡ constraints_at b
  at_met (split c first second) =
      ap (λ cs. c ∷ cs) (flat_map-append constraints_on (walk_at first) (walk_at second) ∙ (λ i. at_met first i ++ at_met second i))
  at_met (void hint) = refl
  at_met (leaf item children) = below_met children
  at_met (head children) = below_met children

  in_met : (bs : Branches) → flat_map constraints_on (walk_in bs) ≡ constraints_in bs
  in_met no_branch = refl
  in_met (branch rule b bs) = flat_map-append constraints_on (walk_at b) (walk_in bs) ∙ (λ i. at_met b i ++ in_met bs i)

under_met : (cs : List (ℕ × Branch)) → flat_map constraints_on (walk_under cs) ≡ flat_map (λ k. constraints_at k.1) cs
under_met [] = refl
under_met (c ∷ cs) = flat_map-append constraints_on (walk_at c.1) (walk_under cs) ∙ (λ i. at_met c.1 i ++ under_met cs i)

all_met : (c : Certificate) → flat_map constraints_on (walk c) ≡ constraints_below (listed c.trees) ++ flat_map (λ k. constraints_at k.1) c.checks
all_met c = flat_map-append constraints_on (walk_below (listed c.trees)) (walk_under c.checks) ∙ (λ i. below_met (listed c.trees) i ++ under_met c.checks i)

-- what a whole walk says
pub wholly_normal : (c : Certificate) (left : List Line) → IsTrue (are_normal c.given) → are_normal (flat_map constraints_on (walk c)) ≡ are_normal (flat_map constraints_on left)
    → left ≡ [] → IsTrue (has_normal_rows c)
wholly_normal c left given kept none =
    let rest : are_normal (constraints_below (listed c.trees) ++ flat_map (λ k. constraints_at k.1) c.checks) ≡ true =
    ap are_normal (sym (all_met c)) ∙ kept ∙ ap (λ ls. are_normal (flat_map constraints_on ls)) none in
    normal_append c.given (constraints_below (listed c.trees) ++ flat_map (λ k. constraints_at k.1) c.checks) ∙ (λ i. given i && rest i)
