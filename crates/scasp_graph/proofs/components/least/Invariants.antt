use Rattle.std.proofs.Common.{ℕ, ◌<◌, ◌≤◌, get_or}
use Rattle.scasp_graph.proofs.components.least.Given as goal
use Rattle.std.specs.List.{Contains}

abbrev pub invariant-loop-node : goal.invariant-loop-node
invariant-loop-node l =
    record {
      listed : Contains l.nodes l.least;
      below : (k : ℕ) → k < l.node-index → l.least ≤ get_or l.nodes k 0;
    }
