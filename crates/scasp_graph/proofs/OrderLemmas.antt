-- A depth-first search keeps lists of nodes.
use Rattle.std.proofs.Common.{◌≡◌, ◌∙◌, ◌∷◌, ◌++◌, ◌⊎◌, ℕ, ◌+◌, ◌<◌, ◌≤◌, Bool, List, [], length, get_or, ap, sym, subst, inl, inr, arith, length-append, get_or-set_same, get_or-set_other}
use Rattle.std.proofs.Math.ListN.{set}
use Rattle.std.proofs.lemmas.List.{get_or_append_left, length-set}
use Rattle.std.proofs.lemmas.List.Sums.{sum_by-set}
use Rattle.std.proofs.Math.Seq.{get_or-append_seam}
use Rattle.scasp_graph.specs.Inside.Graphs.{AreBelow}
use Rattle.scasp_graph.specs.Inside.Levels.{level_sum}
use Rattle.scasp_graph.specs.Inside.Orders.{AreNext}
use Rattle.scasp_graph.specs.declared.graph.Edge.{Edge}
use Rattle.scasp_graph.proofs.GraphLemmas.{same_or_not, last_or_below}

pub below-none : (size : ℕ) (xs : List ℕ) → xs ≡ [] → AreBelow size xs
below-none size xs e = record { each = λ k h. let l = ap length e in absurd (omega (arith, h, l)) }

pub below-push : (size : ℕ) (xs : List ℕ) (x : ℕ) → AreBelow size xs → x < size → AreBelow size (xs ++ x ∷ [])
below-push size xs x b h =
    record {
      each =
          λ k l.
          let n = length-append xs (x ∷ []) in
          elim (last_or_below k (length xs) (omega (arith, l, n))) [
            | inl s ↦ (let g : get_or (xs ++ x ∷ []) k 0 ≡ x = ap (λ z. get_or (xs ++ x ∷ []) z 0) s ∙ get_or-append_seam xs x [] 0 in omega (arith, g, h))
            | inr m ↦ (let g : get_or (xs ++ x ∷ []) k 0 ≡ get_or xs k 0 = get_or_append_left xs (x ∷ []) 0 k m in let y = b.each k m in omega (arith, g, y))
          ];
    }

-- all but the last, and the last
pub below-pop : (size : ℕ) (xs ys : List ℕ) (x : ℕ) → AreBelow size xs → xs ≡ ys ++ x ∷ [] → AreBelow size ys × (x < size)
below-pop size xs ys x b e = (
  record {
    each =
        λ k h.
        let g : get_or xs k 0 ≡ get_or ys k 0 = ap (λ z. get_or z k 0) e ∙ get_or_append_left ys (x ∷ []) 0 k h in
        let y = b.each k (omega (arith, h, n)) in omega (arith, g, y);
  },
  (let g : get_or xs (length ys) 0 ≡ x = ap (λ z. get_or z (length ys) 0) e ∙ get_or-append_seam ys x [] 0 in
      let y = b.each (length ys) (omega (arith, n)) in
      omega (arith, g, y)),
)
  where
    n : length xs ≡ length ys + 1
    n = ap length e ∙ length-append ys (x ∷ [])

pub next-set : (size : ℕ) (edges : List Edge) (next : List ℕ) (u k : ℕ) → AreNext size edges next → u < size → k ≤ length edges → AreNext size edges (set next u k)
next-set size edges next u k n b h =
    record {
      sized = length-set next u k ∙ n.sized;
      within =
          λ v l.
          elim (same_or_not v u) [
            | inl s ↦
                (let lt : u < length next = let z = n.sized in omega (arith, b, z) in
                let g : get_or (set next u k) v 0 ≡ k = ap (λ z. get_or (set next u k) z 0) s ∙ get_or-set_same next u k 0 lt in omega (arith, g, h))
            | inr d ↦ (let g = get_or-set_other next u v k 0 d in let w = n.within v l in omega (arith, g, w))
          ];
    }

-- the path is as before, or has one node more
pub below-enter : (size : ℕ) (path after : List ℕ) (x : ℕ) → AreBelow size path → x < size → (after ≡ path) ⊎ (after ≡ path ++ x ∷ []) → AreBelow size after × (length after ≤ length path + 1)
below-enter size path after x b h e =
    elim e [
      | inl s ↦ (subst (AreBelow size) (sym s) b, let l = ap length s in omega (arith, l))
      | inr s ↦ (subst (AreBelow size) (sym s) (below-push size path x b h), let l = ap length s ∙ length-append path (x ∷ []) in omega (arith, l))
    ]

pub sum-falls : (next : List ℕ) (u k : ℕ) → u < length next → k < get_or next u 0 → level_sum (set next u k) < level_sum next
sum-falls next u k b h = let s = sum_by-set (λ (x : ℕ). x) next u k 0 b in omega (arith, s, h)

-- a depth-first search
pub record Leaving (size : ℕ) (edges : List Edge) (seen : List Bool) (next path order : List ℕ) : Type 0 where
  pub sized : length seen ≡ size
  pub nexts : AreNext size edges next
  pub path_below : AreBelow size path
  pub order_below : AreBelow size order
