-- Components grow root by root.
use Rattle.std.proofs.Common.{◌≡◌, ◌≢◌, ◌∙◌, ◌∷◌, ℕ, zero, suc, ◌+◌, ◌<◌, ◌≤◌, ◌-◌, ◌⊎◌, Bool, true, false, not, ◌&&◌, cond, List, [], length, map, Option, Some, None, is_some, get_or, replicate, refl, ap, sym, subst, inl, inr, arith}
use Rattle.std.specs.Prelude.{unwrap_or, nat_eq}
use Rattle.std.proofs.lemmas.Bool.{cases_Bool, false≢true}
use Rattle.std.proofs.lemmas.Bool.Decides.{Decides-eqb}
use Rattle.std.proofs.lemmas.List.{length-replicate, get_or-replicate, get_or_default, get_or_past}
use Rattle.std.proofs.lemmas.List.Sums.{sum_by-cons}
use Rattle.scasp_graph.specs.Inside.Components.{turned, member_at, root_of, AreComponents}
use Rattle.scasp_graph.specs.Inside.Graphs.{edge_at, EdgeIn, EdgeTo, Marks, mark_of, is_marked, odd_of, marked_count, AreBelow, AreClear, IsReach, EndsBelow}
use Rattle.scasp_graph.specs.Inside.Partitions.{rank_of, IsMember, AreKnown, IsSource, placed, ArePlaced}
use Rattle.scasp_syntax.specs.Same.{same_bool}
use Rattle.scasp_graph.specs.Walks.{Walk, Reaches, stays, goes}
use Rattle.scasp_graph.specs.declared.components.Member.{Member}
use Rattle.scasp_graph.specs.declared.graph.Edge.{Edge}
use Rattle.scasp_graph.proofs.GraphLemmas.{below_or_not}
use Rattle.scasp_graph.proofs.ReachLemmas.{place-of, some-is, marked_count-below, marked-below}
use Rattle.scasp_graph.proofs.WalkLemmas.{differ, kept, reaches-trans, edge-walk}
use Rattle.scasp_graph.proofs.WalkLemmas as walks
use Rattle.std.specs.List.{Contains}
use Rattle.std.proofs.lemmas.List.Elements.{Contains-get_or}
use Rattle.scasp_list.proofs.MemberLemmas.{Contains-map, Contains-from_map}

-- an edge, by its number
pub edge-is : (edges : List Edge) (u v : ℕ) (b : Bool) → (e : EdgeIn edges u b v) → (e.0 < length edges) × (edge_at edges e.0 ≡ record { from = u; to = v; negated = b })
edge-is edges u v b e = (e.1, get_or_default edges e.0 (record { from = 0; to = 0; negated = false }) (record { from = u; to = v; negated = b }) e.1 ∙ e.2)

pub edge-in : (edges : List Edge) (e : ℕ) → e < length edges → EdgeIn edges (edge_at edges e).from (edge_at edges e).negated (edge_at edges e).to
edge-in edges e h = Contains-get_or edges e (record { from = 0; to = 0; negated = false }) h

-- the edges of a list turned round are those of the list
pub turn : (edges : List Edge) (u v : ℕ) (b : Bool) → EdgeIn edges u b v → EdgeIn (map turned edges) v b u
turn edges u v b e = Contains-map turned edges (record { from = u; to = v; negated = b }) e

pub turn-back : (edges : List Edge) (u v : ℕ) (b : Bool) → EdgeIn (map turned edges) u b v → EdgeIn edges v b u
turn-back edges u v b e =
    let h = Contains-from_map turned edges (record { from = u; to = v; negated = b }) e in
    subst (Contains edges) (λ i. record { from = (h.2 i).to; to = (h.2 i).from; negated = (h.2 i).negated }) h.1

-- each step of a walk leads to a marked node of `inside`
pub untold : (edges : List Edge) (inside : Marks) {u v : ℕ} {b : Bool} → Walk (EdgeTo edges inside) u v b → Walk (EdgeIn edges) u v b
untold edges inside w = walks.mapped (λ (n : ℕ). n) (λ p q b e. e.0) w

-- what is marked is reached
pub marked-reach : (size : ℕ) (edges : List Edge) (inside : Marks) (start : ℕ) (marks : Marks) (found : List ℕ) → IsReach size edges inside start marks found → (v : ℕ) → is_marked marks v ≡ true → Walk (EdgeIn edges) start v (odd_of marks v)
marked-reach size edges inside start marks found r v h =
    let s = some-is (mark_of marks v) h in
    let e : odd_of marks v ≡ s.0 = ap (λ o. unwrap_or o false) s.1 in
    subst (Walk (EdgeIn edges) start v) (sym e) (untold edges inside (r.sound v s.0 s.1))

-- from a marked node an edge leads to a marked one, if the search may go there
pub reach-edge : (size : ℕ) (edges : List Edge) (inside : Marks) (start : ℕ) (marks : Marks) (found : List ℕ) → IsReach size edges inside start marks found → (p q : ℕ) (b : Bool) → EdgeIn edges p b q → is_marked marks p ≡ true → is_marked inside q ≡ true → is_marked marks q ≡ true
reach-edge size edges inside start marks found r p q b e m i =
    let k = edge-is edges p q b e in
    let f : (edge_at edges e.0).from ≡ p = ap (λ (z : Edge). z.from) k.1 in
    let t : (edge_at edges e.0).to ≡ q = ap (λ (z : Edge). z.to) k.1 in
    ap (is_marked marks) (sym t) ∙ r.closed e.0 k.0 (ap (is_marked marks) f ∙ m) (ap (is_marked inside) t ∙ i)

pub reach-below : (size : ℕ) (edges : List Edge) (inside : Marks) (start : ℕ) (marks : Marks) (found : List ℕ) → IsReach size edges inside start marks found → (v : ℕ) → is_marked marks v ≡ true → v < size
reach-below size edges inside start marks found r v h = let b = marked-below marks v h in let s = r.sized in omega (arith, b, s)

pub listed-marked : (size : ℕ) (edges : List Edge) (inside : Marks) (start : ℕ) (marks : Marks) (found : List ℕ) → IsReach size edges inside start marks found → (v : ℕ) → Contains found v → is_marked marks v ≡ true
listed-marked size edges inside start marks found r v l = ap (is_marked marks) (sym (place-of found v l)) ∙ r.marked l.0 l.1

-- all that leads to the start by nodes that may be visited is marked
back-marked : (size : ℕ) (edges : List Edge) (free from : Marks) (leading : List ℕ) (start : ℕ) → EndsBelow size edges → IsReach size (map turned edges) free start from leading → {u s : ℕ} {b : Bool} → Walk (EdgeIn edges) u s b → is_marked from s ≡ true → ((w : ℕ) → w < size → Reaches (EdgeIn edges) w s → Reaches (EdgeIn edges) s w → is_marked free w ≡ true) → Reaches (EdgeIn edges) s u → is_marked from u ≡ true
back-marked size edges free from leading start ends r (stays p) m all h = m
back-marked size edges free from leading start ends r (goes u v s d f e w) m all h =
    let k = edge-is edges u v d e in
    let below : u < size = let t = ends.from e.0 k.0 in let i : (edge_at edges e.0).from ≡ u = ap (λ (z : Edge). z.from) k.1 in omega (arith, t, i) in
    let rest : is_marked from v ≡ true = back-marked size edges free from leading start ends r w m all (reaches-trans h (d, edge-walk u v d e)) in
    reach-edge size (map turned edges) free start from leading r v u d (turn edges u v d e) rest (all u below (differ d f, goes u v s d f e w) h)

-- where a search backwards within what leads to the start comes to the start, the search from the start comes back
ahead-marked : (size : ℕ) (edges : List Edge) (free from to : Marks) (leading nodes : List ℕ) (start : ℕ) → IsReach size (map turned edges) free start from leading → IsReach size edges from start to nodes → {u s : ℕ} {b : Bool} → Walk (EdgeTo (map turned edges) free) u s b → is_marked to s ≡ true → is_marked from u ≡ true → is_marked to u ≡ true
ahead-marked size edges free from to leading nodes start r a (stays p) m h = m
ahead-marked size edges free from to leading nodes start r a (goes u v s d f e w) m h =
    let there : is_marked from v ≡ true = reach-edge size (map turned edges) free start from leading r u v d e.0 h e.1 in
    let rest : is_marked to v ≡ true = ahead-marked size edges free from to leading nodes start r a w m there in
    reach-edge size edges from start to nodes a v u d (turn-back edges u v d e.0) rest h

weight-le : (m n : Option Bool) → (is_some m ≡ true → is_some n ≡ true) → cond {A = ℕ} (is_some m) 1 0 ≤ cond {A = ℕ} (is_some n) 1 0
weight-le None n h = omega arith
weight-le (Some p) n h = let e : cond {A = ℕ} (is_some n) 1 0 ≡ 1 = ap (λ (t : Bool). cond {A = ℕ} t 1 0) (h refl) in omega (arith, e)

count-cons : (m : Option Bool) (ms : Marks) → marked_count (m ∷ ms) ≡ cond {A = ℕ} (is_some m) 1 0 + marked_count ms
count-cons m ms = sum_by-cons (λ (o : Option Bool). cond {A = ℕ} (is_some o) 1 0) m ms

marked-le : (ms ns : Marks) → length ms ≡ length ns → ((u : ℕ) → is_marked ms u ≡ true → is_marked ns u ≡ true) → marked_count ms ≤ marked_count ns
marked-le [] ns l all = omega arith
marked-le (m ∷ ms) [] l all = absurd (omega (arith, l))
marked-le (m ∷ ms) (n ∷ ns) l all =
    let r : marked_count ms ≤ marked_count ns = marked-le ms ns (omega (arith, l)) (λ u. all (suc u)) in
    let w = weight-le m n (all 0) in
    omega (arith, r, w, count-cons m ms, count-cons n ns)

-- fewer nodes are marked where each is marked in the other list too, and one is not
pub marked-fewer : (ms ns : Marks) (i : ℕ) → length ms ≡ length ns → ((u : ℕ) → is_marked ms u ≡ true → is_marked ns u ≡ true) → is_marked ms i ≡ false → is_marked ns i ≡ true → marked_count ms < marked_count ns
marked-fewer [] [] i l all n y = absurd (false≢true y)
marked-fewer [] (n ∷ ns) i l all k y = absurd (omega (arith, l))
marked-fewer (m ∷ ms) [] i l all n y = absurd (omega (arith, l))
marked-fewer (m ∷ ms) (n ∷ ns) zero l all k y =
    let r : marked_count ms ≤ marked_count ns = marked-le ms ns (omega (arith, l)) (λ u. all (suc u)) in
    let a : cond {A = ℕ} (is_some m) 1 0 ≡ 0 = ap (λ (t : Bool). cond {A = ℕ} t 1 0) k in
    let b : cond {A = ℕ} (is_some n) 1 0 ≡ 1 = ap (λ (t : Bool). cond {A = ℕ} t 1 0) y in
    omega (arith, r, a, b, count-cons m ms, count-cons n ns)
marked-fewer (m ∷ ms) (n ∷ ns) (suc i) l all k y =
    let r : marked_count ms < marked_count ns = marked-fewer ms ns i (omega (arith, l)) (λ u. all (suc u)) k y in
    let w = weight-le m n (all 0) in
    omega (arith, r, w, count-cons m ms, count-cons n ns)

-- a search from a node that leads to the start, and not back, finds fewer nodes that lead there
pub source-smaller : (size : ℕ) (edges : List Edge) (free from to after : Marks) (leading nodes later : List ℕ) (start next : ℕ) → IsReach size (map turned edges) free start from leading → IsReach size edges from start to nodes → IsReach size (map turned edges) free next after later → Contains leading next → is_marked to next ≡ false → length later < length leading
source-smaller size edges free from to after leading nodes later start next r a n l not-to =
    let fewer = marked-fewer after from start (n.sized ∙ sym r.sized) subset lacks (ap is_some r.started) in
    let x = r.counted in
    let y = n.counted in
    omega (arith, fewer, x, y)
  where
    here : is_marked from next ≡ true
    here = listed-marked size (map turned edges) free start from leading r next l

    walk : (v : ℕ) → is_marked after v ≡ true → (b : Bool) × Walk (EdgeTo (map turned edges) free) next v b
    walk v h = let s = some-is (mark_of after v) h in (s.0, n.sound v s.0 s.1)

    subset : (v : ℕ) → is_marked after v ≡ true → is_marked from v ≡ true
    subset v h =
        kept (λ u. is_marked from u ≡ true)
        (λ p q b e m. reach-edge size (map turned edges) free start from leading r p q b e.0 m e.1) (walk v h).1 here

    lacks : is_marked after start ≡ false
    lacks =
        elim (cases_Bool (is_marked after start)) [
          | inl h ↦
              (let t : is_marked to next ≡ true =
              ahead-marked size edges free from to leading nodes start r a (walk start h).1 (ap is_some a.started) here in
              absurd (false≢true (sym not-to ∙ t)))
          | inr h ↦ h
        ]

pub clear-none : (size : ℕ) (marks : Marks) → marks ≡ replicate size None → AreClear size marks
clear-none size marks e =
    record {
      sized = ap length e ∙ length-replicate size None;
      none =
          λ v.
          ap is_some (ap (λ z. mark_of z v) e)
          ∙ elim (below_or_not v size) [
            | inl h ↦ ap is_some (get_or-replicate size v None None h)
            | inr h ↦ (let l : length (replicate {A = Option Bool} size None) ≡ size = length-replicate size None in ap is_some (get_or_past (replicate size None) v None (omega (arith, h, l))))
          ];
    }

pub known-none : (size : ℕ) (edges : List Edge) (members : List Member) (free : Marks) → length members ≡ size → length free ≡ size → ((u : ℕ) → u < size → is_marked free u ≡ true) → AreKnown size edges members free size
known-none size edges members free l f all =
    record {
      sized = l;
      freed = f;
      each = λ u b h. absurd (false≢true (sym h ∙ all u b));
      together = λ u v b d h x y. absurd (false≢true (sym h ∙ all u b));
      before = λ u v n b d e h. absurd (false≢true (sym h ∙ all v d));
      counted = let c : marked_count free ≤ length free = marked_count-below free in omega (arith, c, f);
      fits = omega arith;
    }

-- a component more
module _ (size : ℕ) (edges : List Edge) (ends : EndsBelow size edges) (members after : List Member) (free rest from to : Marks) (left : ℕ) (nodes : List ℕ) (known : AreKnown size edges members free left) (source : IsSource size edges free from to nodes) (made : ArePlaced members free left nodes from to after rest) where
  s : ℕ
  s = source.start

  to-from : (u : ℕ) → is_marked to u ≡ true → is_marked from u ≡ true
  to-from u h = source.ahead.within u h

  from-free : (u : ℕ) → is_marked from u ≡ true → is_marked free u ≡ true
  from-free u h = source.back.within u h

  there : (u : ℕ) → is_marked from u ≡ true → Walk (EdgeIn edges) source.start u (odd_of to u)
  there u h = marked-reach size edges from source.start to nodes source.ahead u (source.all u h)

  here : (u : ℕ) → is_marked from u ≡ true → Walk (EdgeIn edges) u source.start (odd_of from u)
  here u h = walks.turned (λ p q b e. turn-back edges p q b e) (marked-reach size (map turned edges) free source.start from source.leading source.back u h)

  started : is_marked from source.start ≡ true
  started = ap is_some source.back.started

  bound : (u : ℕ) → is_marked from u ≡ true → u < size
  bound u h = reach-below size (map turned edges) free source.start from source.leading source.back u h

  -- the component of the start is free
  all-free : (w : ℕ) → w < size → Reaches (EdgeIn edges) w source.start → Reaches (EdgeIn edges) source.start w → is_marked free w ≡ true
  all-free w b x y =
      elim (cases_Bool (is_marked free w)) [
        | inl h ↦ h
        | inr h ↦
            (let k = (known.together w source.start b (bound source.start started) h x y).0 in
            absurd (false≢true (sym k ∙ from-free source.start started)))
      ]

  both : (u : ℕ) → Reaches (EdgeIn edges) source.start u → Reaches (EdgeIn edges) u source.start → is_marked from u ≡ true
  both u x y = back-marked size edges free from source.leading source.start ends source.back y.1 started all-free x

  -- the nodes of the component are listed
  is-listed : (u : ℕ) → is_marked from u ≡ true → Contains nodes u
  is-listed u h = source.ahead.listed u (source.all u h)

  from-listed : (u : ℕ) → Contains nodes u → is_marked from u ≡ true
  from-listed u l = to-from u (ap (is_marked to) (sym (place-of nodes u l)) ∙ source.ahead.marked l.0 l.1)

  root-from : is_marked from made.root ≡ true
  root-from = from-listed made.root made.listed

  fresh : (u : ℕ) → is_marked from u ≡ true → member_at after u ≡ placed made.root left from to u
  fresh u h = (made.each u (is-listed u h)).0

  taken : (u : ℕ) → is_marked from u ≡ true → is_marked rest u ≡ false
  taken u h = (made.each u (is-listed u h)).1

  unlisted : (u : ℕ) → is_marked from u ≡ false → Contains nodes u → ⊥
  unlisted u h l = false≢true (sym h ∙ from-listed u l)

  old : (u : ℕ) → is_marked from u ≡ false → member_at after u ≡ member_at members u
  old u h = (made.others u (unlisted u h)).0

  old-free : (u : ℕ) → is_marked from u ≡ false → is_marked rest u ≡ is_marked free u
  old-free u h = ap is_some (made.others u (unlisted u h)).1

  known-free : (u : ℕ) → is_marked free u ≡ false → is_marked from u ≡ false
  known-free u h =
      elim (cases_Bool (is_marked from u)) [ inl m ↦ absurd (false≢true (sym h ∙ from-free u m)) | inr m ↦ m ]

  free-left : (u : ℕ) → is_marked rest u ≡ true → is_marked free u ≡ true
  free-left u h =
      elim (cases_Bool (is_marked from u)) [
        | inl m ↦ absurd (false≢true (sym (taken u m) ∙ h))
        | inr m ↦ sym (old-free u m) ∙ h
      ]

  pub free-stays : (u : ℕ) → is_marked free u ≡ false → is_marked rest u ≡ false
  free-stays u h = old-free u (known-free u h) ∙ h

  fewer : marked_count rest < marked_count free
  fewer = marked-fewer rest free source.start (made.freed) free-left (taken source.start started) (from-free source.start started)

  new-walk : (u : ℕ) → is_marked from u ≡ true → Walk (EdgeIn edges) made.root u (not (nat_eq u made.root) && not (same_bool (odd_of from made.root) (odd_of to u)))
  new-walk u h =
      elim (cases_Bool (nat_eq u made.root)) [
        | inl e ↦
            (let i : u ≡ made.root = (Decides-eqb u made.root).0 e in
            let z : (not (nat_eq u made.root) && not (same_bool (odd_of from made.root) (odd_of to u))) ≡ false =
            ap (λ t. not t && not (same_bool (odd_of from made.root) (odd_of to u))) e in
            subst (Walk (EdgeIn edges) made.root u) (sym z) (subst (λ v. Walk (EdgeIn edges) made.root v false) (sym i) (stays made.root)))
        | inr e ↦
            (let z : (not (nat_eq u made.root) && not (same_bool (odd_of from made.root) (odd_of to u))) ≡ not (same_bool (odd_of from made.root) (odd_of to u)) =
            ap (λ t. not t && not (same_bool (odd_of from made.root) (odd_of to u))) e in
            subst (Walk (EdgeIn edges) made.root u) (sym z) (walks.joined (here made.root root-from) u (odd_of to u) (there u h)))
      ]

  new-member : (u : ℕ) → is_marked from u ≡ true → IsMember size edges (left - 1) u (placed made.root left from to u)
  new-member u h =
      let g = known.counted in
      let w = fewer in
      record {
        below = made.least u (is-listed u h);
        ahead = new-walk u h;
        back = reaches-trans (odd_of from u, here u h) (odd_of to made.root, there made.root root-from);
        plain = λ e. ap (λ t. not t && not (same_bool (odd_of from made.root) (odd_of to u))) ((Decides-eqb u made.root).1 (sym e));
        ranked = omega (arith, g, w);
        bounded = known.fits;
      }

  each : (u : ℕ) → u < size → is_marked rest u ≡ false → IsMember size edges (left - 1) u (member_at after u)
  each u b h =
      elim (cases_Bool (is_marked from u)) [
        | inl m ↦ subst (IsMember size edges (left - 1) u) (sym (fresh u m)) (new-member u m)
        | inr m ↦
            (let k = known.each u b (sym (old-free u m) ∙ h) in
            let r = k.ranked in
            subst (IsMember size edges (left - 1) u) (sym (old u m))
            (record { below = k.below; ahead = k.ahead; back = k.back; plain = k.plain; ranked = omega (arith, r); bounded = k.bounded }))
      ]

  root-is : (u : ℕ) → is_marked from u ≡ true → root_of after u ≡ made.root
  root-is u h = ap (λ (m : Member). m.root) (fresh u h)

  rank-is : (u : ℕ) → is_marked from u ≡ true → rank_of after u ≡ left
  rank-is u h = ap (λ (m : Member). m.rank) (fresh u h)

  together : (u v : ℕ) → u < size → v < size → is_marked rest u ≡ false → Reaches (EdgeIn edges) u v → Reaches (EdgeIn edges) v u → (is_marked rest v ≡ false) × ((root_of after v ≡ root_of after u) × (rank_of after v ≡ rank_of after u))
  together u v b d h x y =
      elim (cases_Bool (is_marked from u)) [
        | inl m ↦
            (let n : is_marked from v ≡ true = both v (reaches-trans (odd_of to u, there u m) x) (reaches-trans y (odd_of from u, here u m)) in
            (taken v n, (root-is v n ∙ sym (root-is u m), rank-is v n ∙ sym (rank-is u m))))
        | inr m ↦
            (let k = known.together u v b d (sym (old-free u m) ∙ h) x y in
            let n : is_marked from v ≡ false = known-free v k.0 in (
              old-free v n ∙ k.0,
              (
                ap (λ (z : Member). z.root) (old v n) ∙ k.1.0 ∙ sym (ap (λ (z : Member). z.root) (old u m)),
                ap (λ (z : Member). z.rank) (old v n) ∙ k.1.1 ∙ sym (ap (λ (z : Member). z.rank) (old u m)),
              ),
            ))
      ]

  before : (u v : ℕ) (b : Bool) → u < size → v < size → EdgeIn edges u b v → is_marked rest v ≡ false → (is_marked rest u ≡ false) × ((root_of after v ≡ root_of after u) ⊎ (rank_of after v < rank_of after u))
  before u v b lu lv e h =
      elim (cases_Bool (is_marked from v)) [
        | inl n ↦
            elim (cases_Bool (is_marked free u)) [
              | inl f ↦
                  (let m : is_marked from u ≡ true =
                  reach-edge size (map turned edges) free source.start from source.leading source.back v u b (turn edges u v b e) n f in
                  (taken u m, inl (root-is v n ∙ sym (root-is u m))))
              | inr f ↦
                  (let m : is_marked from u ≡ false = known-free u f in
                  let r = (known.each u lu f).ranked in
                  let x = rank-is v n in
                  let y : rank_of after u ≡ rank_of members u = ap (λ (z : Member). z.rank) (old u m) in
                  (old-free u m ∙ f, inr (omega (arith, r, x, y))))
            ]
        | inr n ↦
            (let k = known.before u v b lu lv e (sym (old-free v n) ∙ h) in
            let m : is_marked from u ≡ false = known-free u k.0 in
            let rv : root_of after v ≡ root_of members v = ap (λ (z : Member). z.root) (old v n) in
            let ru : root_of after u ≡ root_of members u = ap (λ (z : Member). z.root) (old u m) in
            let kv : rank_of after v ≡ rank_of members v = ap (λ (z : Member). z.rank) (old v n) in
            let ku : rank_of after u ≡ rank_of members u = ap (λ (z : Member). z.rank) (old u m) in
            (old-free u m ∙ k.0, elim k.1 [ inl q ↦ inl (rv ∙ q ∙ sym ru) | inr q ↦ inr (omega (arith, q, kv, ku)) ]))
      ]

  pub known-more : AreKnown size edges after rest (left - 1)
  known-more =
      let f = fewer in
      let g = known.counted in
      let l = known.fits in
      record {
        sized = made.sized ∙ known.sized;
        freed = made.freed ∙ known.freed;
        each = each;
        together = together;
        before = before;
        counted = omega (arith, f, g);
        fits = omega (arith, l);
      }

  pub left-some : 0 < left
  left-some = let f = fewer in let g = known.counted in omega (arith, f, g)

pub known-all : (size : ℕ) (edges : List Edge) (members : List Member) (free : Marks) (left : ℕ) → EndsBelow size edges → AreKnown size edges members free left → ((u : ℕ) → u < size → is_marked free u ≡ false) → AreComponents size edges members
known-all size edges members free left ends k all =
    record {
      sized = k.sized;
      below = λ u b. (member u b).below;
      ahead = λ u b. (member u b).ahead;
      back = λ u b. (member u b).back;
      plain = λ u b. (member u b).plain;
      together = λ u v b d x y. (k.together u v b d (all u b) x y).1.0;
      bounded = λ u b. (member u b).bounded;
      falls =
          λ e b d.
          falls_between (edge_at edges e).from (edge_at edges e).to (edge_at edges e).negated (ends.from e b) (ends.to e b) (edge-in edges e b) d;
    }
  where
    member : (u : ℕ) → u < size → IsMember size edges left u (member_at members u)
    member u b = k.each u b (all u b)

    rooted : (u : ℕ) → u < size → root_of members u < size
    rooted u b = let h = (member u b).below in omega (arith, h, b)

    root-rank : (u : ℕ) → u < size → rank_of members (root_of members u) ≡ rank_of members u
    root-rank u b = (k.together u (root_of members u) b (rooted u b) (all u b) (member u b).back ((member_at members u).parity, (member u b).ahead)).1.1

    falls_between : (f t : ℕ) (n : Bool) → f < size → t < size → EdgeIn edges f n t → root_of members t ≢ root_of members f → rank_of members (root_of members t) < rank_of members (root_of members f)
    falls_between f t n bf bt e d =
        elim (k.before f t n bf bt e (all t bt)).1 [
          | inl q ↦ absurd (d q)
          | inr q ↦ (let x = root-rank f bf in let y = root-rank t bt in omega (arith, q, x, y))
        ]

-- the searches from some node, backwards among the free nodes and forwards among those found
pub record Searched (size : ℕ) (edges : List Edge) (free from to : Marks) (leading nodes : List ℕ) : Type 0 where
  pub start : ℕ
  pub back : IsReach size (map turned edges) free start from leading
  pub ahead : IsReach size edges from start to nodes

pub searched : (size : ℕ) (edges other : List Edge) (free from to : Marks) (leading nodes : List ℕ) (start : ℕ) → other ≡ map turned edges → IsReach size other free start from leading → IsReach size edges from start to nodes → Searched size edges free from to leading nodes
searched size edges other free from to leading nodes start e r a =
    record { start = start; back = subst (λ z. IsReach size z free start from leading) e r; ahead = a }

pub source-found : (size : ℕ) (edges : List Edge) (free from to : Marks) (leading nodes : List ℕ) → Searched size edges free from to leading nodes → ((k : ℕ) → k < length leading → is_marked to (get_or leading k 0) ≡ true) → IsSource size edges free from to nodes
source-found size edges free from to leading nodes s h =
    record {
      start = s.start;
      leading = leading;
      back = s.back;
      ahead = s.ahead;
      all = λ v m. let k = s.back.listed v m in ap (is_marked to) (sym (place-of leading v k)) ∙ h k.0 k.1;
    }

-- the nodes found are nodes
pub found-below : (size : ℕ) (edges : List Edge) (inside : Marks) (start : ℕ) (marks : Marks) (found : List ℕ) → IsReach size edges inside start marks found → AreBelow size found
found-below size edges inside start marks found r =
    record { each = λ k h. reach-below size edges inside start marks found r (get_or found k 0) (r.marked k h) }
