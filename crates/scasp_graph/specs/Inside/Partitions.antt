-- Components that are found one after another.
use Rattle.std.specs.Prelude.{◌≡◌, ◌⊎◌, ℕ, ◌<◌, ◌≤◌, Bool, true, false, not, ◌&&◌, nat_eq, List, length, map}
use Rattle.scasp_syntax.specs.Same.{same_bool}
use Rattle.scasp_graph.specs.Inside.Components.{turned, member_at, root_of}
use Rattle.scasp_graph.specs.Inside.Graphs.{EdgeIn, Marks, is_marked, mark_of, odd_of, marked_count, AreClear, IsReach}
use Rattle.scasp_graph.specs.Walks.{Walk, Reaches}
use Rattle.scasp_graph.specs.declared.components.Member.{Member}
use Rattle.scasp_graph.specs.declared.components.Partition.{Partition}
use Rattle.scasp_graph.specs.declared.graph.Edge.{Edge}
use Rattle.std.specs.List.{Contains}

abbrev pub rank_of : List Member → ℕ → ℕ
rank_of members u = (member_at members u).rank

-- the member of a node whose component is known
pub record IsMember (size : ℕ) (edges : List Edge) (left u : ℕ) (m : Member) : Type 0 where
  pub below : m.root ≤ u
  pub ahead : Walk (EdgeIn edges) m.root u m.parity
  pub back : Reaches (EdgeIn edges) u m.root
  pub plain : m.root ≡ u → m.parity ≡ false
  pub ranked : left < m.rank
  pub bounded : m.rank ≤ size

-- The nodes that are not free have their members. A component is known as a whole, and after those that lead to it.
pub record AreKnown (size : ℕ) (edges : List Edge) (members : List Member) (free : Marks) (left : ℕ) : Type 0 where
  pub sized : length members ≡ size
  pub freed : length free ≡ size
  pub each : (u : ℕ) → u < size → is_marked free u ≡ false → IsMember size edges left u (member_at members u)
  pub together : (u v : ℕ) → u < size → v < size → is_marked free u ≡ false → Reaches (EdgeIn edges) u v → Reaches (EdgeIn edges) v u → (is_marked free v ≡ false) × ((root_of members v ≡ root_of members u) × (rank_of members v ≡ rank_of members u))
  pub before : (u v : ℕ) (b : Bool) → u < size → v < size → EdgeIn edges u b v → is_marked free v ≡ false → (is_marked free u ≡ false) × ((root_of members v ≡ root_of members u) ⊎ (rank_of members v < rank_of members u))
  pub counted : marked_count free ≤ left
  pub fits : left ≤ size

pub record IsPartition (size : ℕ) (edges : List Edge) (p : Partition) : Type 0 where
  pub known : AreKnown size edges p.members.items p.free.items p.left
  pub from : AreClear size p.from.items
  pub to : AreClear size p.to.items

-- the marked nodes of `from` are those free nodes that lead to a start, and walks lead from there to each of them
pub record IsSource (size : ℕ) (edges : List Edge) (free from to : Marks) (nodes : List ℕ) : Type 0 where
  pub start : ℕ
  pub leading : List ℕ
  pub back : IsReach size (map turned edges) free start from leading
  pub ahead : IsReach size edges from start to nodes
  pub all : (v : ℕ) → is_marked from v ≡ true → is_marked to v ≡ true

-- the member of a node, by the walk that leads from the root to the start and from there to the node
abbrev pub placed : ℕ → ℕ → Marks → Marks → ℕ → Member
placed root rank from to u =
    record { root = root; parity = not (nat_eq u root) && not (same_bool (odd_of from root) (odd_of to u)); rank = rank }

-- the listed nodes are members of a component whose root is the least of them, and no longer free; all else is as before
pub record ArePlaced (members : List Member) (free : Marks) (rank : ℕ) (nodes : List ℕ) (from to : Marks) (after : List Member) (rest : Marks) : Type 0 where
  pub sized : length after ≡ length members
  pub freed : length rest ≡ length free
  pub root : ℕ
  pub listed : Contains nodes root
  pub least : (u : ℕ) → Contains nodes u → root ≤ u
  pub each : (u : ℕ) → Contains nodes u → (member_at after u ≡ placed root rank from to u) × (is_marked rest u ≡ false)
  pub others : (u : ℕ) → ¬ Contains nodes u → (member_at after u ≡ member_at members u) × (mark_of rest u ≡ mark_of free u)
