-- What is found of predicates by their places in a list.
use Rattle.std.specs.Prelude.{ℕ, ◌+◌, Bool, false, not, ◌||◌, ◌&&◌, nat_eq, List, [], ◌∷◌, Option, None, Some, slice_index_or, if◌then◌else◌}
use Rattle.std.specs.List.{list_any}
use Rattle.scasp_syntax.specs.Programs.{pred_of, body_preds}
use Rattle.scasp_syntax.specs.declared.atom.Atom.{Atom}
use Rattle.scasp_syntax.specs.declared.atom.Pred.{Pred}
use Rattle.scasp_syntax.specs.declared.clause.Clause.{Clause}
use Rattle.scasp_syntax.specs.declared.clause.Item.{Item}
use Rattle.scasp_syntax.specs.declared.predicate_map.PredMap.{PredMap}
use Rattle.scasp_graph.specs.Inside.Components.{member_at, root_of}
use Rattle.scasp_graph.specs.Numbering.{place_in}
use Rattle.scasp_graph.specs.Walks.{Dependency}
use Rattle.scasp_graph.specs.declared.components.Member.{Member}
use Rattle.scasp_graph.specs.declared.graph.Edge.{Edge}

abbrev pub numbered_edge : List Pred → Dependency → Edge
numbered_edge preds d = record { from = place_in preds d.from; to = place_in preds d.to; negated = d.negated }

-- the root of the predicate's component
abbrev pub root_in : List Pred → List Member → Pred → ℕ
root_in preds members p = root_of members (place_in preds p)

-- the entry of the predicate at this place: the level of its component; `+` where the component is odd, else by parity
abbrev pub entry_at : List Member → List ℕ → List Bool → ℕ → Pred → PredMap
entry_at members levels odd place p =
    record {
      pred = p;
      level = slice_index_or levels (root_of members place) 0;
      plus = slice_index_or odd (root_of members place) false || not (member_at members place).parity;
    }

-- the entries of the predicates, whose places begin here
abbrev pub entries_from : List Member → List ℕ → List Bool → ℕ → List Pred → List PredMap
entries_from members levels odd place [] = []
entries_from members levels odd place (p ∷ ps) =
    entry_at members levels odd place p ∷ entries_from members levels odd (place + 1) ps

-- a predicate of the body is in the component of the head's predicate, which is odd
abbrev pub is_odd_body : List Pred → List Member → List Bool → Option Atom → List Item → Bool
is_odd_body preds members odd None body = false
is_odd_body preds members odd (Some a) body =
    slice_index_or odd (root_in preds members (pred_of a)) false
    && list_any (λ q. nat_eq (root_in preds members q) (root_in preds members (pred_of a))) (body_preds body)

-- the numbers of the clauses with such a body, where the clauses are numbered from n
abbrev pub odd_from : List Pred → List Member → List Bool → ℕ → List Clause → List ℕ
odd_from preds members odd n [] = []
odd_from preds members odd n (c ∷ cs) =
    if is_odd_body preds members odd c.head c.body then n ∷ odd_from preds members odd (n + 1) cs else odd_from preds members odd (n + 1) cs
