-- The remarks of an answer are those of its skeleton.
use Rattle.std.proofs.Common.{◌≡◌, ◌∙◌, ℕ, Bool, List, [], ◌∷◌, ◌++◌, length, map, Option, refl, ap, sym, if◌then◌else◌}
use Rattle.std.specs.List.{flat_map}
use Rattle.scasp_syntax.specs.Tm.{Tm, items}
use Rattle.scasp_cert.specs.Certificate.{Certificate}
use Rattle.scasp_cert.specs.Flat.{are_flat, is_flat, listed_at, listed_below, listed_by, listed_in}
use Rattle.scasp_cert.specs.Skeleton.{all_bare, bare, bare_branch, bare_covers, bare_entry, skeleton}
use Rattle.scasp_cert.specs.Trees.{Tree, Trees, Branch, Branches, pos_tree, neg_tree, loop_tree, seen_tree, test_tree, no_tree, tree, split, void, leaf, head, no_branch, branch, listed}
use Rattle.std.specs.Prelude.{codes}
use Rattle.scasp_print_remarks.specs.Remarks.{remarks_text, values_of, values_text}
use Rattle.scasp_print_remarks.specs.Sameness.{SameRemarks}

-- the listed terms do not depend on hints
both : {a b c d : List Tm} → a ≡ b → c ≡ d → a ++ c ≡ b ++ d
both {a} {b} {c} {d} e f = ap (λ (x : List Tm). x ++ c) e ∙ ap (λ (x : List Tm). b ++ x) f

mutual
  by-bare : (t : Tree) → listed_by (bare t) ≡ listed_by t
  by-bare (pos_tree a rule ts children) = ap (λ (x : List Tm). items ts ++ x) (below-bare children)
  by-bare (neg_tree a covers) = in-bare covers
  by-bare (loop_tree lit at) = refl
  by-bare (seen_tree lit at) = refl
  by-bare (test_tree con hint) = refl

  below-bare : (ts : Trees) → listed_below (all_bare ts) ≡ listed_below ts
  below-bare no_tree = refl
  below-bare (tree t ts) = both (by-bare t) (below-bare ts)

  at-bare : (b : Branch) → listed_at (bare_branch b) ≡ listed_at b
  at-bare (split con first second) = both (at-bare first) (at-bare second)
  at-bare (void hint) = refl
  at-bare (leaf item children) = below-bare children
  at-bare (head children) = below-bare children

  in-bare : (bs : Branches) → listed_in (bare_covers bs) ≡ listed_in bs
  in-bare no_branch = refl
  in-bare (branch rule b bs) = both (at-bare b) (in-bare bs)

trees-bare : (ts : List Tree) → listed_below (listed (map bare ts)) ≡ listed_below (listed ts)
trees-bare [] = refl
trees-bare (t ∷ ts) = both (by-bare t) (trees-bare ts)

checks-bare : (cs : List (ℕ × Branch)) → flat_map (λ k. listed_at k.1) (map bare_entry cs) ≡ flat_map (λ k. listed_at k.1) cs
checks-bare [] = refl
checks-bare (c ∷ cs) = both (at-bare c.1) (checks-bare cs)

flat-bare : (c : Certificate) → is_flat (skeleton c) ≡ is_flat c
flat-bare c = ap (are_flat (length (items c.sample))) (both (trees-bare c.trees) (checks-bare c.checks))

-- the remarks where the answer is flat or is not
remarks-bare : (names : List (List ℕ)) (variables : List (Option ℕ)) (c : Certificate) → remarks_text names variables (skeleton c) ≡ remarks_text names variables c
remarks-bare names variables c =
    ap (λ (b : Bool). values_text names c.given (items c.sample) (values_of variables c.terms) ++ (if b then codes "% domain any\n" else codes "% domain closed\n")) (flat-bare c)

pub remarks-same : SameRemarks
remarks-same names variables one other e =
    sym (remarks-bare names variables one) ∙ ap (remarks_text names variables) e ∙ remarks-bare names variables other
