-- How much is left of trees while they are freed: how many lines, and how deep.
use denote.Param.Weighed.{most}
use Rattle.std.specs.Prelude.{ℕ, ◌+◌, max, List, [], ◌∷◌, map}
use Rattle.scasp_cert.specs.Lines.{lines_at, lines_below, lines_in}
use Rattle.scasp_cert.specs.Trees.{covering, listed}
use Rattle.scasp_cert.specs.View.{branch_of, cover_of, covers_of, tree_of, trees_of}
use Rattle.scasp_cert.specs.declared.tree.Below.{Below}
use Rattle.scasp_cert.specs.declared.tree.Below.TheVariants as below
use Rattle.scasp_cert.specs.declared.tree.Case.{size-Case}
use Rattle.scasp_cert.specs.declared.tree.Cover.{Cover, size-Cover}
use Rattle.scasp_cert.specs.declared.tree.Covers.{size-Covers}
use Rattle.scasp_cert.specs.declared.tree.Node.{Node, size-Node}
use Rattle.scasp_cert.specs.declared.tree.Nodes.{size-Nodes}

-- the lines of some nodes, and those of the cases of some rules
abbrev pub lines_within : List Node → ℕ
lines_within ns = lines_below (listed (map tree_of ns))

abbrev pub lines_of_cases : List Cover → ℕ
lines_of_cases [] = 0
lines_of_cases (c ∷ cs) = lines_at (cover_of c).1 + lines_of_cases cs

-- how deep the deepest of them is
abbrev pub depth_within : List Node → ℕ
depth_within ns = most size-Node ns

abbrev pub depth_covered : List Cover → ℕ
depth_covered cs = most size-Cover cs

-- what stands below a node or a case
abbrev pub lines_of_below : Below → ℕ
lines_of_below (below.Cases first second) = lines_at (branch_of first.value) + lines_at (branch_of second.value)
lines_of_below (below.Nodes n) = lines_below (listed (trees_of n))
lines_of_below (below.Covers c) = lines_in (covering (covers_of c))
lines_of_below below.Nothing = 0

abbrev pub depth_of_below : Below → ℕ
depth_of_below (below.Cases first second) = max (size-Case first.value) (size-Case second.value)
depth_of_below (below.Nodes n) = size-Nodes n
depth_of_below (below.Covers c) = size-Covers c
depth_of_below below.Nothing = 0
