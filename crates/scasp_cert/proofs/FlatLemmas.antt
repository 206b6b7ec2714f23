-- A list of terms is flat where its parts are, and what a walk meets is what a certificate lists.
use Rattle.std.proofs.Common.{◌≡◌, ◌∙◌, ◌&&◌, ◌++◌, ℕ, true, false, List, [], ◌∷◌, length, refl, ap, sym}
use Rattle.std.proofs.lemmas.Grind.{flat_map-append}
use Rattle.std.proofs.lemmas.List.Folds.{list_all-append}
use Rattle.std.specs.List.{flat_map}
use Rattle.scasp_syntax.specs.Tm.{Tm, items}
use Rattle.scasp_cert.specs.Certificate.{Certificate}
use Rattle.scasp_cert.specs.Flat.{are_flat, is_flat, is_flat_term, listed_at, listed_below, listed_by, listed_in, listed_on}
use Rattle.scasp_cert.specs.Trees.{Tree, Trees, Branch, Branches, pos_tree, neg_tree, loop_tree, seen_tree, test_tree, no_tree, tree, split, void, leaf, head, no_branch, branch, listed}
use Rattle.scasp_cert.specs.Walk.{Line, walk, walk_at, walk_below, walk_in, walk_of, walk_under}

pub flat_append : (n : ℕ) (xs ys : List Tm) → are_flat n (xs ++ ys) ≡ (are_flat n xs && are_flat n ys)
flat_append n xs ys = list_all-append (is_flat_term n) xs ys

mutual
  by_met : (t : Tree) → flat_map listed_on (walk_of t) ≡ listed_by t
  by_met (pos_tree a rule ts children) = ap (λ us. items ts ++ us) (below_met children)
  by_met (neg_tree a covers) = in_met covers
  by_met (loop_tree lit at) = refl
  by_met (seen_tree lit at) = refl
  by_met (test_tree con hint) = refl

  below_met : (ts : Trees) → flat_map listed_on (walk_below ts) ≡ listed_below ts
  below_met no_tree = refl
  below_met (tree t ts) = flat_map-append listed_on (walk_of t) (walk_below ts) ∙ (λ i. by_met t i ++ below_met ts i)

  at_met : (b : Branch) → flat_map listed_on (walk_at b) ≡ listed_at b
  at_met (split con first second) = flat_map-append listed_on (walk_at first) (walk_at second) ∙ (λ i. at_met first i ++ at_met second i)
  at_met (void hint) = refl
  at_met (leaf item children) = below_met children
  at_met (head children) = below_met children

  in_met : (bs : Branches) → flat_map listed_on (walk_in bs) ≡ listed_in bs
  in_met no_branch = refl
  in_met (branch rule b bs) = flat_map-append listed_on (walk_at b) (walk_in bs) ∙ (λ i. at_met b i ++ in_met bs i)

under_met : (cs : List (ℕ × Branch)) → flat_map listed_on (walk_under cs) ≡ flat_map (λ k. listed_at k.1) cs
under_met [] = refl
under_met (c ∷ cs) = flat_map-append listed_on (walk_at c.1) (walk_under cs) ∙ (λ i. at_met c.1 i ++ under_met cs i)

pub all_met : (c : Certificate) → flat_map listed_on (walk c) ≡ listed_below (listed c.trees) ++ flat_map (λ k. listed_at k.1) c.checks
all_met c = flat_map-append listed_on (walk_below (listed c.trees)) (walk_under c.checks) ∙ (λ i. below_met (listed c.trees) i ++ under_met c.checks i)

-- what a whole walk says
flat_by_walk : (n : ℕ) (c : Certificate) → n ≡ length (items c.sample) → is_flat c ≡ are_flat n (flat_map listed_on (walk c))
flat_by_walk n c e = sym ((λ i. are_flat (e i) (all_met c i)))

pub not_flat : (n : ℕ) (c : Certificate) (l : Line) (left after : List Line) → n ≡ length (items c.sample)
    → are_flat n (flat_map listed_on (walk c)) ≡ are_flat n (flat_map listed_on left) → left ≡ l ∷ after → are_flat n (listed_on l) ≡ false → false ≡ is_flat c
not_flat n c l left after e h k f =
    sym
    (flat_by_walk n c e ∙ h ∙ ap (λ ls. are_flat n (flat_map listed_on ls)) k ∙ flat_append n (listed_on l) (flat_map listed_on after)
    ∙ ap (λ b. b && are_flat n (flat_map listed_on after)) f)

pub wholly_flat : (n : ℕ) (c : Certificate) (left : List Line) → n ≡ length (items c.sample)
    → are_flat n (flat_map listed_on (walk c)) ≡ are_flat n (flat_map listed_on left) → left ≡ [] → true ≡ is_flat c
wholly_flat n c left e h k = sym (flat_by_walk n c e ∙ h ∙ ap (λ ls. are_flat n (flat_map listed_on ls)) k)
