-- Levels of components, and components with an odd closed walk.
use Rattle.std.specs.Prelude.{◌≡◌, ◌≢◌, ◌⊎◌, ℕ, ◌+◌, ◌<◌, ◌≤◌, Bool, true, false, not, List, length, slice_index_or, sum_by}
use Rattle.scasp_syntax.specs.Same.{same_bool}
use Rattle.scasp_graph.specs.Inside.Components.{member_at, root_of}
use Rattle.scasp_graph.specs.Inside.Graphs.{edge_at}
use Rattle.scasp_graph.specs.declared.components.Member.{Member}
use Rattle.scasp_graph.specs.declared.graph.Edge.{Edge}

abbrev pub root_from : List Edge → List Member → ℕ → ℕ
root_from edges members e = root_of members (edge_at edges e).from

abbrev pub root_to : List Edge → List Member → ℕ → ℕ
root_to edges members e = root_of members (edge_at edges e).to

-- the edge stays in its component or leads to a lower level
abbrev pub IsSettled : List Edge → List Member → List ℕ → ℕ → Type 0
IsSettled edges members levels e =
    (root_to edges members e ≡ root_from edges members e) ⊎ (slice_index_or levels (root_to edges members e) 0 < slice_index_or levels (root_from edges members e) 0)

-- an edge from the component of root u to another component
pub record Leaves (edges : List Edge) (members : List Member) (u e : ℕ) : Type 0 where
  pub within : e < length edges
  pub here : root_from edges members e ≡ u
  pub there : root_to edges members e ≢ u

-- levels that are not too high: each is 0 or at most one more than that of a component on which it depends
pub record AreRising (size : ℕ) (edges : List Edge) (members : List Member) (levels : List ℕ) : Type 0 where
  pub sized : length levels ≡ size
  pub bounded : (u : ℕ) → u < size → slice_index_or levels u 0 ≤ (member_at members u).rank
  pub caused : (u : ℕ) → u < size → (slice_index_or levels u 0 ≡ 0) ⊎ ((e : ℕ) × (Leaves edges members u e × (slice_index_or levels u 0 ≤ slice_index_or levels (root_to edges members e) 0 + 1)))

abbrev pub level_sum : List ℕ → ℕ
level_sum levels = sum_by (λ (x : ℕ). x) levels

-- each is 0 or one more than that of a component on which it depends, and above each of these
pub record AreLevels (size : ℕ) (edges : List Edge) (members : List Member) (levels : List ℕ) : Type 0 where
  pub sized : length levels ≡ size
  pub falls : (e : ℕ) → e < length edges → IsSettled edges members levels e
  pub least : (u : ℕ) → u < size → (slice_index_or levels u 0 ≡ 0) ⊎ ((e : ℕ) × (Leaves edges members u e × (slice_index_or levels u 0 ≡ slice_index_or levels (root_to edges members e) 0 + 1)))

-- whether the parities of the ends fit the edge
abbrev pub is_fitting : List Edge → List Member → ℕ → Bool
is_fitting edges members e =
    same_bool (member_at members (edge_at edges e).to).parity (not (same_bool (member_at members (edge_at edges e).from).parity (edge_at edges e).negated))

-- an edge within the component of root u whose ends' parities do not fit it
pub record Conflicts (edges : List Edge) (members : List Member) (u e : ℕ) : Type 0 where
  pub within : e < length edges
  pub here : root_from edges members e ≡ u
  pub there : root_to edges members e ≡ u
  pub unfit : is_fitting edges members e ≡ false

-- the components with an edge whose ends' parities do not fit it
pub record AreOdd (size : ℕ) (edges : List Edge) (members : List Member) (odd : List Bool) : Type 0 where
  pub sized : length odd ≡ size
  pub conflict : (u : ℕ) → slice_index_or odd u false ≡ true → (e : ℕ) × Conflicts edges members u e
  pub fitting : (e : ℕ) → e < length edges → root_to edges members e ≡ root_from edges members e → slice_index_or odd (root_from edges members e) false ≡ false → is_fitting edges members e ≡ true
