use Rattle.std.proofs.Common.{◌≡◌, ℕ, true, ◌<◌, get_or}
use Rattle.scasp_graph.specs.Inside.Graphs.{is_marked}
use Rattle.scasp_graph.proofs.components.first_unmarked.Given as goal

abbrev pub invariant-loop-node : goal.invariant-loop-node
invariant-loop-node l = (k : ℕ) → k < l.node-index → is_marked l.marks (get_or l.nodes k 0) ≡ true
