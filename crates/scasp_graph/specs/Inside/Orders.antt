-- What a depth-first search keeps.
use Rattle.std.specs.Prelude.{◌≡◌, ℕ, ◌<◌, ◌≤◌, List, length, slice_index_or}
use Rattle.scasp_graph.specs.declared.graph.Edge.{Edge}

-- for each node the number of an edge, counted from 1, or 0
pub record AreNext (size : ℕ) (edges : List Edge) (next : List ℕ) : Type 0 where
  pub sized : length next ≡ size
  pub within : (u : ℕ) → u < size → slice_index_or next u 0 ≤ length edges
