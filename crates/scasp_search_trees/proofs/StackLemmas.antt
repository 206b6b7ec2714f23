-- The last item of a stack is the first.
use Rattle.std.specs.Prelude.{◌≡◌, ℕ, List, [], ◌∷◌, ◌++◌, map, reverse, drop, refl}
use Rattle.std.proofs.Common.{ap, ◌∙◌}
use Rattle.std.proofs.lemmas.List.{reverse-append, map-append}
use Rattle.scasp_cert.specs.Certificate.{check_of}
use Rattle.scasp_cert.specs.Trees.{Branch, split}
use Rattle.scasp_cert.specs.View.{branch_of, cover_of, tree_of}
use Rattle.scasp_cert.specs.declared.certificate.Check.{Check}
use Rattle.scasp_cert.specs.declared.tree.Case.{Case}
use Rattle.scasp_cert.specs.declared.tree.Cover.{Cover}
use Rattle.scasp_cert.specs.declared.tree.Node.{Node}
use Rattle.scasp_search_trees.specs.Stacked.{cases_in, checks_in, covers_in, nodes_in}
use Rattle.scasp_search_rules.specs.Successors.Trees.{first_case}
use Rattle.scasp_syntax.specs.declared.con.Con.{Con}

reverse_push : {A B : Type 0} (f : A → B) (xs : List A) (x : A) → reverse (map f (xs ++ x ∷ [])) ≡ f x ∷ reverse (map f xs)
reverse_push f xs x = ap reverse (map-append f xs (x ∷ [])) ∙ reverse-append (map f xs) (f x ∷ [])

pub node_last : (ns : List Node) (n : Node) → nodes_in (ns ++ n ∷ []) ≡ tree_of n ∷ nodes_in ns
node_last ns n = reverse_push tree_of ns n

pub case_last : (cs : List Case) (c : Case) → cases_in (cs ++ c ∷ []) ≡ branch_of c ∷ cases_in cs
case_last cs c = reverse_push branch_of cs c

pub cover_last : (cs : List Cover) (c : Cover) → covers_in (cs ++ c ∷ []) ≡ cover_of c ∷ covers_in cs
cover_last cs c = reverse_push cover_of cs c

pub check_last : (cs : List Check) (c : Check) → checks_in (cs ++ c ∷ []) ≡ check_of c ∷ checks_in cs
check_last cs c = reverse_push check_of cs c

two_dropped : (bs : List Branch) → drop 1 (drop 1 bs) ≡ drop 2 bs
two_dropped [] = refl
two_dropped (b ∷ []) = refl
two_dropped (b ∷ c ∷ bs) = refl

-- a split of the first two cases
pub split_put : (old : List Branch) (c : Con) (first second : Branch) (new behind last : List Branch) → first ≡ first_case old → behind ≡ drop 1 old
    → second ≡ first_case behind → last ≡ drop 1 behind → new ≡ split c first second ∷ last → new ≡ split c (first_case old) (first_case (drop 1 old)) ∷ drop 2 old
split_put old c first second new behind last e f g h k =
    k ∙ (λ i. split c (e i) ((g ∙ ap first_case f) i) ∷ (h ∙ ap (drop 1) f ∙ two_dropped old) i)
