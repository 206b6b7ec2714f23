-- The lines and the depth of what is freed from the last to the first.
use denote.Param.Weighed.{most-append}
use Rattle.std.proofs.Common.{◌≡◌, ◌≤◌, ℕ, ◌+◌, max, map, List, [], ◌∷◌, ◌++◌, ap, arith}
use Rattle.scasp_cert.specs.Freeing.{depth_covered, depth_within, lines_of_cases, lines_within}
use Rattle.scasp_cert.specs.Lines.{lines_at, lines_in, lines_of}
use Rattle.scasp_cert.specs.Trees.{Branch, Tree, covering}
use Rattle.scasp_cert.specs.View.{case_step, cover_of, cover_step, covers_of, covers_step, node_step, nodes_step, tree_of}
use Rattle.scasp_cert.specs.declared.tree.Cover.{Cover, size-Cover}
use Rattle.scasp_cert.specs.declared.tree.Case.TheFolds.{fold_out-Covers}
use Rattle.scasp_cert.specs.declared.tree.Case.TheViews.{out-Covers}
use Rattle.scasp_cert.specs.declared.tree.Covers.{Covers}
use Rattle.scasp_cert.specs.declared.tree.Node.{Node, size-Node}

pub node_last : (ns : List Node) (n : Node) → lines_within (ns ++ n ∷ []) ≡ lines_within ns + lines_of (tree_of n)
node_last [] n = omega arith
node_last (m ∷ ns) n = omega (arith, node_last ns n)

pub cover_last : (cs : List Cover) (c : Cover) → lines_of_cases (cs ++ c ∷ []) ≡ lines_of_cases cs + lines_at (cover_of c).1
cover_last [] c = omega arith
cover_last (d ∷ cs) c = omega (arith, cover_last cs c)

pub node_deepest : (ns : List Node) (n : Node) → depth_within (ns ++ n ∷ []) ≡ max (depth_within ns) (size-Node n)
node_deepest ns n = omega (arith, most-append size-Node ns (n ∷ []))

pub cover_deepest : (cs : List Cover) (c : Cover) → depth_covered (cs ++ c ∷ []) ≡ max (depth_covered cs) (size-Cover c)
cover_deepest cs c = omega (arith, most-append size-Cover cs (c ∷ []))

-- rules have more lines than their cases
cases_fewer : (cs : List Cover) → lines_of_cases cs ≤ lines_in (covering (map cover_of cs))
cases_fewer [] = omega arith
cases_fewer (c ∷ cs) = omega (arith, cases_fewer cs)

pub cases_within : (c : Covers) → lines_of_cases (out-Covers c).list.items ≤ lines_in (covering (covers_of c))
cases_within c =
    let e = fold_out-Covers Branch Tree (ℕ × Branch) (List (ℕ × Branch)) (List Tree) case_step node_step cover_step covers_step nodes_step c in
    omega (arith, ap (λ ks. lines_in (covering ks)) e, cases_fewer (out-Covers c).list.items)
