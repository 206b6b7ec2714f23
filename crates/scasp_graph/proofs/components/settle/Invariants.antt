use Rattle.std.proofs.Common.{◌≡◌, ℕ, false}
use Rattle.scasp_graph.specs.Inside.Graphs.{is_marked}
use Rattle.scasp_graph.specs.Inside.Partitions.{IsPartition}
use Rattle.scasp_graph.proofs.components.settle.Given as goal

abbrev pub invariant-loop-alloc : goal.invariant-loop-alloc
invariant-loop-alloc l =
    record {
      known : IsPartition l.ahead.size l.ahead.edges.items l.known;
      stays : (v : ℕ) → is_marked l.fn.known.free.items v ≡ false → is_marked l.known.free.items v ≡ false;
    }

abbrev pub decreases-loop-alloc : goal.decreases-loop-alloc
decreases-loop-alloc l = l.known.left
