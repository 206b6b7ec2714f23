-- Edges linked by their numbers.
use Rattle.std.proofs.Common.{◌≡◌, ◌≢◌, ◌∙◌, ◌∷◌, ◌++◌, ◌⊎◌, ℕ, zero, suc, ◌+◌, ◌-◌, ◌<◌, ◌≤◌, nat_eq, List, [], length, get_or, refl, ap, sym, subst, inl, inr, arith, length-append, get_or-set_same, get_or-set_other}
use Rattle.std.proofs.Math.ListN.{set}
use Rattle.std.proofs.lemmas.Bool.{cases_Bool}
use Rattle.std.proofs.lemmas.Bool.Decides.{Decides-eqb}
use Rattle.std.proofs.lemmas.List.{get_or_append_left, length-set}
use Rattle.std.proofs.Math.Seq.{get_or-append_seam}
use Rattle.scasp_graph.specs.Inside.Graphs.{edge_at, IsLastFrom, EndsBelow, IsGraph}
use Rattle.scasp_graph.specs.declared.graph.Edge.{Edge}
use Rattle.scasp_graph.specs.declared.graph.Graph.{Graph}

-- two numbers are equal or differ
pub same_or_not : (a b : ℕ) → (a ≡ b) ⊎ (a ≢ b)
same_or_not a b =
    elim (cases_Bool (nat_eq a b)) [
      | inl e ↦ inl ((Decides-eqb a b).0 e)
      | inr e ↦ inr (λ h. let k = (Decides-eqb a b).1 h in cc)
    ]

pub below_or_not : (a b : ℕ) → (a < b) ⊎ (b ≤ a)
below_or_not a b = by (a - b) refl
  where
    by : (d : ℕ) → a - b ≡ d → (a < b) ⊎ (b ≤ a)
    by zero e = elim (same_or_not a b) [ inl s ↦ inr (omega (arith, s)) | inr d ↦ inl (omega (arith, e, d)) ]
    by (suc n) e = inr (omega (arith, e))

-- a number below n + 1 is n or below n
pub last_or_below : (e n : ℕ) → e < n + 1 → (e ≡ n) ⊎ (e < n)
last_or_below e n h =
    elim (same_or_not e n) [ inl s ↦ inl s | inr d ↦ inr (omega (arith, h, d)) ]

-- the first n edges are linked
pub record Linked (size : ℕ) (edges : List Edge) (first link : List ℕ) (n : ℕ) : Type 0 where
  pub firsts : length first ≡ size
  pub links : length link ≡ n
  pub first_of : (u : ℕ) → u < size → IsLastFrom edges u n (get_or first u 0)
  pub link_of : (e : ℕ) → e < n → IsLastFrom edges (edge_at edges e).from e (get_or link e 0)

pub linked-none : (size : ℕ) (edges : List Edge) (first link : List ℕ) → length first ≡ size → link ≡ [] → ((u : ℕ) → u < size → get_or first u 0 ≡ 0) → Linked size edges first link 0
linked-none size edges first link f l z =
    record {
      firsts = f;
      links = ap length l;
      first_of =
          λ u h.
          let P : ℕ → Type 0 = λ k. IsLastFrom edges u 0 k in
          subst P (sym (z u h)) (record { before = omega arith; leaves = λ p. absurd (omega (arith, p)); last = λ e p q. absurd (omega (arith, q)) });
      link_of = λ e h. absurd (omega (arith, h));
    }

last-here : (edges : List Edge) (u n : ℕ) → (edge_at edges n).from ≡ u → IsLastFrom edges u (n + 1) (n + 1)
last-here edges u n e =
    let m : (n + 1) - 1 ≡ n = omega arith in
    record {
      before = omega arith;
      leaves = λ p. ap (λ z. (edge_at edges z).from) m ∙ e;
      last = λ k p q. absurd (omega (arith, p, q));
    }

last-later : (edges : List Edge) (u n k : ℕ) → (edge_at edges n).from ≢ u → IsLastFrom edges u n k → IsLastFrom edges u (n + 1) k
last-later edges u n k d h =
    record {
      before = omega (arith, h.before);
      leaves = h.leaves;
      last =
          λ e p q.
          elim (last_or_below e n q) [
            | inl s ↦ (let P : ℕ → Type 0 = λ z. (edge_at edges z).from ≢ u in subst P (sym s) d)
            | inr b ↦ h.last e p b
          ];
    }

pub linked-more : (size : ℕ) (edges : List Edge) (first link : List ℕ) (n u x : ℕ) → Linked size edges first link n → (edge_at edges n).from ≡ u → u < size → x ≡ get_or first u 0 → Linked size edges (set first u (n + 1)) (link ++ x ∷ []) (n + 1)
linked-more size edges first link n u x l e b f =
    record {
      firsts = length-set first u (n + 1) ∙ l.firsts;
      links = length-append link (x ∷ []) ∙ ap (λ z. z + 1) l.links;
      first_of =
          λ v h.
          elim (same_or_not v u) [
            | inl s ↦
                (let P : ℕ → Type 0 = λ k. IsLastFrom edges v (n + 1) k in
                let lt : u < length first = omega (arith, b, l.firsts) in
                let g : get_or (set first u (n + 1)) v 0 ≡ n + 1 =
                ap (λ z. get_or (set first u (n + 1)) z 0) s ∙ get_or-set_same first u (n + 1) 0 lt in
                subst P (sym g) (last-here edges v n (e ∙ sym s)))
            | inr d ↦
                (let P : ℕ → Type 0 = λ k. IsLastFrom edges v (n + 1) k in
                let g : get_or (set first u (n + 1)) v 0 ≡ get_or first v 0 = get_or-set_other first u v (n + 1) 0 d in
                let o : (edge_at edges n).from ≢ v = λ q. d (sym q ∙ e) in
                subst P (sym g) (last-later edges v n (get_or first v 0) o (l.first_of v h)))
          ];
      link_of =
          λ k h.
          elim (last_or_below k n h) [
            | inl s ↦
                (let g : get_or (link ++ x ∷ []) k 0 ≡ get_or first u 0 =
                ap (λ z. get_or (link ++ x ∷ []) z 0) (s ∙ sym l.links) ∙ get_or-append_seam link x [] 0 ∙ f in
                let P : ℕ → Type 0 = λ z. IsLastFrom edges (edge_at edges k).from k z in
                let Q : ℕ → Type 0 = λ z. IsLastFrom edges (edge_at edges z).from z (get_or first u 0) in
                let R : ℕ → Type 0 = λ z. IsLastFrom edges z n (get_or first u 0) in
                subst P (sym g) (subst Q (sym s) (subst R (sym e) (l.first_of u b))))
            | inr b' ↦
                (let lt : k < length link = omega (arith, b', l.links) in
                let g : get_or (link ++ x ∷ []) k 0 ≡ get_or link k 0 = get_or_append_left link (x ∷ []) 0 k lt in
                let P : ℕ → Type 0 = λ z. IsLastFrom edges (edge_at edges k).from k z in
                subst P (sym g) (l.link_of k b'))
          ];
    }

pub graph_linked : (g : Graph) → EndsBelow g.size g.edges.items → Linked g.size g.edges.items g.first.items g.link.items (length g.edges.items) → IsGraph g
graph_linked g ends l =
    record {
      ends = ends;
      firsts = l.firsts;
      links = l.links;
      first = l.first_of;
      link = l.link_of;
    }
