-- Strong components: nodes with walks to one another.
use Rattle.std.specs.Prelude.{◌≡◌, ◌≢◌, ℕ, ◌<◌, ◌≤◌, false, List, length, slice_index_or}
use Rattle.scasp_graph.specs.Inside.Graphs.{EdgeIn, edge_at}
use Rattle.scasp_graph.specs.Walks.{Walk, Reaches}
use Rattle.scasp_graph.specs.declared.components.Member.{Member}
use Rattle.scasp_graph.specs.declared.graph.Edge.{Edge}

-- the edge the other way round
abbrev pub turned : Edge → Edge
turned e = record { from = e.to; to = e.from; negated = e.negated }

abbrev pub member_at : List Member → ℕ → Member
member_at members u = slice_index_or members u (record { root = 0; parity = false; rank = 0 })

abbrev pub root_of : List Member → ℕ → ℕ
root_of members u = (member_at members u).root

-- Each node has the first node of its component as root, with the parity of a walk from there. Edges between
-- components lead to lower ranks.
pub record AreComponents (size : ℕ) (edges : List Edge) (members : List Member) : Type 0 where
  pub sized : length members ≡ size
  pub below : (u : ℕ) → u < size → root_of members u ≤ u
  pub ahead : (u : ℕ) → u < size → Walk (EdgeIn edges) (root_of members u) u (member_at members u).parity
  pub back : (u : ℕ) → u < size → Reaches (EdgeIn edges) u (root_of members u)
  pub plain : (u : ℕ) → u < size → root_of members u ≡ u → (member_at members u).parity ≡ false
  pub together : (u v : ℕ) → u < size → v < size → Reaches (EdgeIn edges) u v → Reaches (EdgeIn edges) v u → root_of members v ≡ root_of members u
  pub bounded : (u : ℕ) → u < size → (member_at members u).rank ≤ size
  pub falls : (e : ℕ) → e < length edges → root_of members (edge_at edges e).to ≢ root_of members (edge_at edges e).from → (member_at members (root_of members (edge_at edges e).to)).rank < (member_at members (root_of members (edge_at edges e).from)).rank
