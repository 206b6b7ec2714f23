-- Graphs whose nodes are numbers, and what is known of them while they are searched.
use Rattle.std.specs.Prelude.{◌≡◌, ◌≢◌, ℕ, ◌-◌, ◌<◌, ◌≤◌, Bool, true, false, cond, List, length, Option, None, Some, is_some, slice_index_or, sum_by, unwrap_or}
use Rattle.std.specs.List.{Contains}
use Rattle.scasp_graph.specs.Walks.{Walk}
use Rattle.scasp_graph.specs.declared.graph.Edge.{Edge}
use Rattle.scasp_graph.specs.declared.graph.Graph.{Graph}

abbrev pub edge_at : List Edge → ℕ → Edge
edge_at edges e = slice_index_or edges e (record { from = 0; to = 0; negated = false })

-- an edge of the list from u to v
abbrev pub EdgeIn : List Edge → ℕ → Bool → ℕ → Type 0
EdgeIn edges u negated v = Contains edges (record { from = u; to = v; negated = negated })

-- each edge joins nodes below the size
pub record EndsBelow (size : ℕ) (edges : List Edge) : Type 0 where
  pub from : (e : ℕ) → e < length edges → (edge_at edges e).from < size
  pub to : (e : ℕ) → e < length edges → (edge_at edges e).to < size

-- the number k, 0 for none and e + 1 for edge e, is that of the last edge from u before edge n
pub record IsLastFrom (edges : List Edge) (u n k : ℕ) : Type 0 where
  pub before : k ≤ n
  pub leaves : 0 < k → (edge_at edges (k - 1)).from ≡ u
  pub last : (e : ℕ) → k ≤ e → e < n → (edge_at edges e).from ≢ u

-- the graph has, for each node, the number of the last edge from it, and for each edge that of the last one before it from the same node
pub record IsGraph (g : Graph) : Type 0 where
  pub ends : EndsBelow g.size g.edges.items
  pub firsts : length g.first.items ≡ g.size
  pub links : length g.link.items ≡ length g.edges.items
  pub first : (u : ℕ) → u < g.size → IsLastFrom g.edges.items u (length g.edges.items) (slice_index_or g.first.items u 0)
  pub link : (e : ℕ) → e < length g.edges.items → IsLastFrom g.edges.items (edge_at g.edges.items e).from e (slice_index_or g.link.items e 0)

-- for each node whether a walk to it was found, and its parity
abbrev pub Marks : Type 0
Marks = List (Option Bool)

abbrev pub mark_of : Marks → ℕ → Option Bool
mark_of marks v = slice_index_or marks v None

abbrev pub is_marked : Marks → ℕ → Bool
is_marked marks v = is_some (mark_of marks v)

-- whether the node has the mark of an odd walk
abbrev pub odd_of : Marks → ℕ → Bool
odd_of marks v = unwrap_or (mark_of marks v) false

-- the number of marked nodes
abbrev pub marked_count : Marks → ℕ
marked_count marks = sum_by (λ m. cond (is_some m) 1 0) marks

-- each node of the list is below the size
pub record AreBelow (size : ℕ) (nodes : List ℕ) : Type 0 where
  pub each : (k : ℕ) → k < length nodes → slice_index_or nodes k 0 < size

-- no node is marked
pub record AreClear (size : ℕ) (marks : Marks) : Type 0 where
  pub sized : length marks ≡ size
  pub none : (v : ℕ) → is_marked marks v ≡ false

-- an edge to a marked node of `inside`
abbrev pub EdgeTo : List Edge → Marks → ℕ → Bool → ℕ → Type 0
EdgeTo edges inside u negated v = EdgeIn edges u negated v × (is_marked inside v ≡ true)

-- the marked nodes, which are listed, are those to which a walk leads from the start within the marked nodes of `inside`
pub record IsReach (size : ℕ) (edges : List Edge) (inside : Marks) (start : ℕ) (marks : Marks) (found : List ℕ) : Type 0 where
  pub sized : length marks ≡ size
  pub started : mark_of marks start ≡ Some false
  pub within : (v : ℕ) → is_marked marks v ≡ true → is_marked inside v ≡ true
  pub sound : (v : ℕ) (b : Bool) → mark_of marks v ≡ Some b → Walk (EdgeTo edges inside) start v b
  pub closed : (e : ℕ) → e < length edges → is_marked marks (edge_at edges e).from ≡ true → is_marked inside (edge_at edges e).to ≡ true → is_marked marks (edge_at edges e).to ≡ true
  pub listed : (v : ℕ) → is_marked marks v ≡ true → Contains found v
  pub marked : (k : ℕ) → k < length found → is_marked marks (slice_index_or found k 0) ≡ true
  pub counted : length found ≡ marked_count marks
