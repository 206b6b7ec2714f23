-- A search that marks what it reaches and keeps the marked nodes in a queue.
use Rattle.std.specs.Prelude.{ℕ, Bool, not, ◌&&◌, List, [], ◌∷◌, ◌++◌, Some, slice_set, if◌then◌else◌}
use Rattle.scasp_graph.specs.Inside.Graphs.{Marks, is_marked}

-- the search may go to the node, which is not marked yet
abbrev pub is_new : Marks → Marks → ℕ → Bool
is_new inside marks v = is_marked inside v && not (is_marked marks v)

-- the marks, with the node marked where it is new
abbrev pub with_mark : Marks → Marks → ℕ → Bool → Marks
with_mark inside marks v parity = if is_new inside marks v then slice_set marks v (Some parity) else marks

-- the queue, and behind it the node where it is new
abbrev pub with_node : Marks → Marks → List ℕ → ℕ → List ℕ
with_node inside marks queue v = if is_new inside marks v then queue ++ v ∷ [] else queue
