use Rattle.std.proofs.Common.{◌≡◌, drop, map}
use Rattle.scasp_cert.specs.Trees.{listed}
use Rattle.scasp_cert.specs.View.{tree_of}
use Rattle.scasp_view_top.specs.Trees.Rows.{are_hidden}
use Rattle.scasp_view_top.proofs.trees.are_hidden.Given as goal

abbrev pub invariant-loop-node : goal.invariant-loop-node
invariant-loop-node l = are_hidden (listed (map tree_of l.nodes)) ≡ are_hidden (listed (map tree_of (drop l.node-index l.nodes)))
