-- A component is placed node by node.
use Rattle.std.proofs.Common.{◌≡◌, ◌∙◌, ◌⊎◌, ℕ, ◌+◌, ◌<◌, ◌≤◌, false, List, length, get_or, None, refl, ap, sym, subst, inl, inr, arith, get_or-set_same, get_or-set_other}
use Rattle.std.proofs.Math.ListN.{set}
use Rattle.std.specs.Prelude.{is_some}
use Rattle.std.proofs.lemmas.List.{length-set}
use Rattle.scasp_graph.specs.Inside.Components.{member_at}
use Rattle.scasp_graph.specs.Inside.Graphs.{Marks, mark_of, is_marked}
use Rattle.scasp_graph.specs.Inside.Partitions.{placed, ArePlaced}
use Rattle.scasp_graph.specs.declared.components.Member.{Member}
use Rattle.scasp_graph.proofs.GraphLemmas.{same_or_not, last_or_below}
use Rattle.scasp_graph.proofs.ReachLemmas.{member-at, place-of}
use Rattle.std.specs.List.{Contains}

abbrev IsNew : ℕ → ℕ → Marks → Marks → List Member → Marks → ℕ → Type 0
IsNew root rank from to after rest u = (member_at after u ≡ placed root rank from to u) × (is_marked rest u ≡ false)

abbrev IsOld : List Member → Marks → List Member → Marks → ℕ → Type 0
IsOld members free after rest u = (member_at after u ≡ member_at members u) × (mark_of rest u ≡ mark_of free u)

-- the first n nodes are placed, and all else is as before
pub record Placing (members : List Member) (free : Marks) (root rank : ℕ) (nodes : List ℕ) (from to : Marks) (after : List Member) (rest : Marks) (n : ℕ) : Type 0 where
  pub sized : length after ≡ length members
  pub freed : length rest ≡ length free
  pub done : (k : ℕ) → k < n → IsNew root rank from to after rest (get_or nodes k 0)
  pub others : (u : ℕ) → Contains nodes u ⊎ IsOld members free after rest u

pub placing-first : (members : List Member) (free : Marks) (root rank : ℕ) (nodes : List ℕ) (from to : Marks) → Placing members free root rank nodes from to members free 0
placing-first members free root rank nodes from to =
    record {
      sized = refl;
      freed = refl;
      done = λ k h. absurd (omega (arith, h));
      others = λ u. inr (refl, refl);
    }

pub placing-more : (members : List Member) (free : Marks) (root rank : ℕ) (nodes : List ℕ) (from to : Marks) (after : List Member) (rest : Marks) (n node : ℕ) (m : Member) → Placing members free root rank nodes from to after rest n → n < length nodes → node ≡ get_or nodes n 0 → node < length after → node < length rest → m ≡ placed root rank from to node → Placing members free root rank nodes from to (set after node m) (set rest node None) (n + 1)
placing-more members free root rank nodes from to after rest n node m p more is in-members in-free e =
    record {
      sized = length-set after node m ∙ p.sized;
      freed = length-set rest node None ∙ p.freed;
      done =
          λ k h.
          elim (same_or_not (get_or nodes k 0) node) [
            | inl s ↦ here (get_or nodes k 0) s
            | inr d ↦
                elim (last_or_below k n h) [
                  | inl s ↦ absurd (d (ap (λ z. get_or nodes z 0) s ∙ sym is))
                  | inr l ↦
                      (let q = p.done k l in
                      (get_or-set_other after node (get_or nodes k 0) m (record { root = 0; parity = false; rank = 0 }) d ∙ q.0, ap is_some (get_or-set_other rest node (get_or nodes k 0) None None d) ∙ q.1))
                ]
          ];
      others =
          λ u.
          elim (same_or_not u node) [
            | inl s ↦ inl (member-at nodes n u more (sym is ∙ sym s))
            | inr d ↦
                elim (p.others u) [
                  | inl l ↦ inl l
                  | inr q ↦
                      inr (get_or-set_other after node u m (record { root = 0; parity = false; rank = 0 }) d ∙ q.0, get_or-set_other rest node u None None d ∙ q.1)
                ]
          ];
    }
  where
    here : (u : ℕ) → u ≡ node → IsNew root rank from to (set after node m) (set rest node None) u
    here u s = (
      ap (member_at (set after node m)) s ∙ get_or-set_same after node m (record { root = 0; parity = false; rank = 0 }) in-members ∙ e ∙ ap (placed root rank from to) (sym s),
      ap (is_marked (set rest node None)) s ∙ ap is_some (get_or-set_same rest node None None in-free),
    )

pub placing-all : (members : List Member) (free : Marks) (root rank : ℕ) (nodes : List ℕ) (from to : Marks) (after : List Member) (rest : Marks) (n : ℕ) → Placing members free root rank nodes from to after rest n → length nodes ≤ n → Contains nodes root → ((k : ℕ) → k < length nodes → root ≤ get_or nodes k 0) → ArePlaced members free rank nodes from to after rest
placing-all members free root rank nodes from to after rest n p h listed least =
    record {
      sized = p.sized;
      freed = p.freed;
      root = root;
      listed = listed;
      least = λ u l. let b = least l.0 l.1 in let e = place-of nodes u l in omega (arith, b, e);
      each =
          λ u l.
          let k : l.0 < n = let b = l.1 in omega (arith, b, h) in
          subst (λ v. IsNew root rank from to after rest v) (place-of nodes u l) (p.done l.0 k);
      others = λ u no. elim (p.others u) [ inl l ↦ absurd (no l) | inr q ↦ q ];
    }
