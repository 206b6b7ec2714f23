use Rattle.std.proofs.Common.{◌≡◌, ℕ, ◌<◌, false}
use Rattle.scasp_graph.specs.Inside.Graphs.{is_marked}
use Rattle.scasp_graph.specs.Inside.Partitions.{IsPartition}
use Rattle.scasp_graph.proofs.components.find_components.Given as goal

abbrev pub invariant-loop-place : goal.invariant-loop-place
invariant-loop-place l = IsPartition l.ahead.size l.ahead.edges.items l.known

abbrev pub invariant-loop-start : goal.invariant-loop-start
invariant-loop-start l =
    record {
      known : IsPartition l.ahead.size l.ahead.edges.items l.known;
      found : (v : ℕ) → v < l.start → is_marked l.known.free.items v ≡ false;
    }
