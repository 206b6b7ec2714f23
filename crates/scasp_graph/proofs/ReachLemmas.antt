-- A search marks what it reaches.
use Rattle.std.proofs.Common.{◌≡◌, ◌≢◌, ◌∙◌, ◌∷◌, ◌++◌, ℕ, ◌+◌, ◌-◌, ◌*◌, ◌<◌, ◌≤◌, Bool, true, false, not, cond, List, [], length, get_or, Option, Some, None, is_some, refl, ap, sym, subst, inl, inr, arith, length-append, get_or-set_same, get_or-set_other}
use Rattle.std.specs.Prelude.{sum_by}
use Rattle.std.proofs.Math.ListN.{set}
use Rattle.std.proofs.lemmas.Bool.{cases_Bool, cond-true, cond-false, false≢true, and_parts, and_from, not-true}
use Rattle.std.proofs.lemmas.List.{get_or_append_left, length-set, get_or_default, get_or_past}
use Rattle.std.proofs.lemmas.List.Sums.{sum_by-set, sum_by-le}
use Rattle.std.proofs.Math.Seq.{get_or-append_seam}
use Rattle.scasp_graph.specs.Inside.Graphs.{edge_at, EdgeIn, EdgeTo, Marks, mark_of, is_marked, marked_count, AreClear, IsReach, IsLastFrom, EndsBelow}
use Rattle.scasp_graph.specs.Inside.Searching.{is_new, with_mark, with_node}
use Rattle.scasp_graph.specs.Walks.{Walk, stays}
use Rattle.scasp_graph.specs.declared.graph.Edge.{Edge}
use Rattle.scasp_graph.proofs.WalkLemmas.{differ, walk-edge}
use Rattle.scasp_graph.proofs.GraphLemmas.{same_or_not, last_or_below, below_or_not}
use Rattle.std.proofs.lemmas.List.Elements.{Contains-get_or, Contains-append_left, Contains-push}
use Rattle.std.specs.List.{Contains}

-- a member stands at a place of the list
pub member-at : (nodes : List ℕ) (k v : ℕ) → k < length nodes → get_or nodes k 0 ≡ v → Contains nodes v
member-at nodes k v lt e = (k, lt, get_or_default nodes k v 0 lt ∙ e)

pub place-of : (nodes : List ℕ) (v : ℕ) (c : Contains nodes v) → get_or nodes c.0 0 ≡ v
place-of nodes v c = get_or_default nodes c.0 0 v c.1 ∙ c.2

-- walks lead to the marked nodes, which are those of the queue
pub record Found (size : ℕ) (edges : List Edge) (inside : Marks) (start : ℕ) (marks : Marks) (queue : List ℕ) : Type 0 where
  pub sized : length marks ≡ size
  pub within : (v : ℕ) → is_marked marks v ≡ true → is_marked inside v ≡ true
  pub sound : (v : ℕ) (b : Bool) → mark_of marks v ≡ Some b → Walk (EdgeTo edges inside) start v b
  pub queued : (v : ℕ) → is_marked marks v ≡ true → Contains queue v
  pub marked : (k : ℕ) → k < length queue → is_marked marks (get_or queue k 0) ≡ true
  pub counted : length queue ≡ marked_count marks

clear-counted : (ms : Marks) → ((k : ℕ) → is_marked ms k ≡ false) → marked_count ms ≡ 0
clear-counted ms h =
    let b : sum_by (λ (m : Option Bool). cond {A = ℕ} (is_some m) 1 0) ms ≤ length ms * 0 =
    sum_by-le (λ (m : Option Bool). cond {A = ℕ} (is_some m) 1 0) 0 ms (λ k d l.
    let e : get_or ms k d ≡ get_or ms k None = get_or_default ms k d None l in
    let z : cond {A = ℕ} (is_some (get_or ms k d)) 1 0 ≡ 0 = ap (λ (o : Option Bool). cond {A = ℕ} (is_some o) 1 0) e ∙ ap (λ (t : Bool). cond {A = ℕ} t 1 0) (h k) in
    omega (arith, z)) in
    omega (arith, b)

pub found-none : (size : ℕ) (edges : List Edge) (inside : Marks) (start : ℕ) (marks : Marks) (queue : List ℕ) → AreClear size marks → queue ≡ [] → Found size edges inside start marks queue
found-none size edges inside start marks queue m q =
    record {
      sized = m.sized;
      within = λ v e. absurd (false≢true (sym (m.none v) ∙ e));
      sound = λ v b e. absurd (false≢true (sym (m.none v) ∙ ap is_some e));
      queued = λ v e. absurd (false≢true (sym (m.none v) ∙ e));
      marked = λ k h. let l = ap length q in absurd (omega (arith, h, l));
      counted = ap length q ∙ sym (clear-counted marks m.none);
    }

new-parts : (inside marks : Marks) (v : ℕ) → is_new inside marks v ≡ true → (is_marked inside v ≡ true) × (is_marked marks v ≡ false)
new-parts inside marks v h = let p = and_parts (is_marked inside v) (not (is_marked marks v)) h in (p.0, not-true (is_marked marks v) p.1)

-- what is marked stays marked, with its parity
pub marks-stay : (inside marks : Marks) (v w : ℕ) (b c : Bool) → mark_of marks w ≡ Some c → mark_of (with_mark inside marks v b) w ≡ Some c
marks-stay inside marks v w b c e = by (is_new inside marks v) refl
  where
    by : (t : Bool) → is_new inside marks v ≡ t → mark_of (with_mark inside marks v b) w ≡ Some c
    by false h = ap (λ z. mark_of z w) (cond-false (is_new inside marks v) (set marks v (Some b)) marks h) ∙ e
    by true h =
        let m : mark_of (with_mark inside marks v b) w ≡ mark_of (set marks v (Some b)) w =
        ap (λ z. mark_of z w) (cond-true (is_new inside marks v) (set marks v (Some b)) marks h) in
        let d : w ≢ v = λ s. let k : is_marked marks v ≡ true = ap (is_marked marks) (sym s) ∙ ap is_some e in false≢true (sym (new-parts inside marks v h).1 ∙ k) in
        m ∙ get_or-set_other marks v w (Some b) None d ∙ e

pub some-is : (o : Option Bool) → is_some o ≡ true → (b : Bool) × (o ≡ Some b)
some-is None h = absurd (false≢true h)
some-is (Some b) h = (b, refl)

pub none-is : (o : Option Bool) → is_some o ≡ false → o ≡ None
none-is None h = refl
none-is (Some b) h = absurd (false≢true (sym h))

pub marked-stays : (inside marks : Marks) (v w : ℕ) (b : Bool) → is_marked marks w ≡ true → is_marked (with_mark inside marks v b) w ≡ true
marked-stays inside marks v w b h = let s = some-is (mark_of marks w) h in ap is_some (marks-stay inside marks v w b s.0 s.1)

pub marked-here : (inside marks : Marks) (v : ℕ) (b : Bool) → v < length marks → is_marked inside v ≡ true → is_marked (with_mark inside marks v b) v ≡ true
marked-here inside marks v b lt a = by (is_marked marks v) refl
  where
    by : (t : Bool) → is_marked marks v ≡ t → is_marked (with_mark inside marks v b) v ≡ true
    by true h = marked-stays inside marks v v b h
    by false h =
        let n : is_new inside marks v ≡ true = and_from (is_marked inside v) (not (is_marked marks v)) a (ap not h) in
        ap (λ z. is_marked z v) (cond-true (is_new inside marks v) (set marks v (Some b)) marks n)
        ∙ ap is_some (get_or-set_same marks v (Some b) None lt)

pub queue-stays : (inside marks : Marks) (queue : List ℕ) (v k : ℕ) → k < length queue → (get_or (with_node inside marks queue v) k 0 ≡ get_or queue k 0) × (k < length (with_node inside marks queue v))
queue-stays inside marks queue v k lt = by (is_new inside marks v) refl
  where
    by : (t : Bool) → is_new inside marks v ≡ t → (get_or (with_node inside marks queue v) k 0 ≡ get_or queue k 0) × (k < length (with_node inside marks queue v))
    by false h = let q = cond-false (is_new inside marks v) (queue ++ v ∷ []) queue h in let l = ap length q in (ap (λ z. get_or z k 0) q, omega (arith, lt, l))
    by true h =
        let q = cond-true (is_new inside marks v) (queue ++ v ∷ []) queue h in
        let l = ap length q ∙ length-append queue (v ∷ []) in
        (ap (λ z. get_or z k 0) q ∙ get_or_append_left queue (v ∷ []) 0 k lt, omega (arith, lt, l))

-- one node more
found-new : (size : ℕ) (edges : List Edge) (inside : Marks) (start : ℕ) (marks : Marks) (queue : List ℕ) (v : ℕ) (b : Bool) → Found size edges inside start marks queue → v < size → Walk (EdgeTo edges inside) start v b → is_marked inside v ≡ true → is_marked marks v ≡ false → Found size edges inside start (set marks v (Some b)) (queue ++ v ∷ [])
found-new size edges inside start marks queue v b f below walk allowed new =
    let lt : v < length marks = omega (arith, below, f.sized) in
    record {
      sized = length-set marks v (Some b) ∙ f.sized;
      within =
          λ w e.
          elim (same_or_not w v) [
            | inl s ↦ ap (is_marked inside) s ∙ allowed
            | inr d ↦ f.within w (ap is_some (sym (get_or-set_other marks v w (Some b) None d)) ∙ e)
          ];
      sound =
          λ w c e.
          elim (same_or_not w v) [
            | inl s ↦
                (let here : mark_of (set marks v (Some b)) w ≡ Some b =
                ap (mark_of (set marks v (Some b))) s ∙ get_or-set_same marks v (Some b) None lt in
                let parity : b ≡ c = cc in
                let P : ℕ → Type 0 = λ z. Walk (EdgeTo edges inside) start z c in
                subst P (sym s) (subst (Walk (EdgeTo edges inside) start v) parity walk))
            | inr d ↦ f.sound w c (sym (get_or-set_other marks v w (Some b) None d) ∙ e)
          ];
      queued =
          λ w e.
          elim (same_or_not w v) [
            | inl s ↦ subst (Contains (queue ++ v ∷ [])) (sym s) (Contains-push queue v)
            | inr d ↦
                (let old : is_marked marks w ≡ true = ap is_some (sym (get_or-set_other marks v w (Some b) None d)) ∙ e in
                Contains-append_left queue (v ∷ []) w (f.queued w old))
          ];
      marked =
          λ k h.
          let l = length-append queue (v ∷ []) in
          let here : is_marked (set marks v (Some b)) v ≡ true = ap is_some (get_or-set_same marks v (Some b) None lt) in
          elim (last_or_below k (length queue) (omega (arith, h, l))) [
            | inl s ↦
                (let g : get_or (queue ++ v ∷ []) k 0 ≡ v = ap (λ z. get_or (queue ++ v ∷ []) z 0) s ∙ get_or-append_seam queue v [] 0 in
                ap (is_marked (set marks v (Some b))) g ∙ here)
            | inr b' ↦
                (let g : get_or (queue ++ v ∷ []) k 0 ≡ get_or queue k 0 = get_or_append_left queue (v ∷ []) 0 k b' in
                let w : ℕ = get_or queue k 0 in
                ap (is_marked (set marks v (Some b))) g
                ∙ elim (same_or_not (get_or queue k 0) v) [
                  | inl s ↦ ap (is_marked (set marks v (Some b))) s ∙ here
                  | inr d ↦ ap is_some (get_or-set_other marks v (get_or queue k 0) (Some b) None d) ∙ f.marked k b'
                ])
          ];
      counted =
          let l = length-append queue (v ∷ []) in
          let s = sum_by-set (λ (m : Option Bool). cond (is_some m) 1 0) marks v (Some b) None lt in
          let z : cond {A = ℕ} (is_some (get_or marks v None)) 1 0 ≡ 0 = ap (λ (t : Bool). cond {A = ℕ} t 1 0) new in
          omega (arith, l, s, z, f.counted);
    }

pub found-more : (size : ℕ) (edges : List Edge) (inside : Marks) (start : ℕ) (marks : Marks) (queue : List ℕ) (v : ℕ) (b : Bool) → Found size edges inside start marks queue → v < size → (is_marked inside v ≡ true → Walk (EdgeTo edges inside) start v b) → Found size edges inside start (with_mark inside marks v b) (with_node inside marks queue v)
found-more size edges inside start marks queue v b f below walk = by (is_new inside marks v) refl
  where
    by : (t : Bool) → is_new inside marks v ≡ t → Found size edges inside start (with_mark inside marks v b) (with_node inside marks queue v)
    by false h =
        let m : with_mark inside marks v b ≡ marks = cond-false (is_new inside marks v) (set marks v (Some b)) marks h in
        let q : with_node inside marks queue v ≡ queue = cond-false (is_new inside marks v) (queue ++ v ∷ []) queue h in
        rw (m, q) f
    by true h =
        let p = new-parts inside marks v h in
        let m : with_mark inside marks v b ≡ set marks v (Some b) = cond-true (is_new inside marks v) (set marks v (Some b)) marks h in
        let q : with_node inside marks queue v ≡ queue ++ v ∷ [] = cond-true (is_new inside marks v) (queue ++ v ∷ []) queue h in
        rw (m, q) (found-new size edges inside start marks queue v b f below (walk p.0) p.0 p.1)

-- the edges from the node but for the first `at` lead to marked nodes, and the one before that is from the node
pub record Followed (edges : List Edge) (inside marks : Marks) (node at : ℕ) : Type 0 where
  pub within : at ≤ length edges
  pub leaves : 0 < at → (edge_at edges (at - 1)).from ≡ node
  pub rest : (e : ℕ) → at ≤ e → e < length edges → (edge_at edges e).from ≡ node → is_marked inside (edge_at edges e).to ≡ true → is_marked marks (edge_at edges e).to ≡ true

-- a search all of whose first `done` nodes lead to marked nodes
pub record Going (size : ℕ) (edges : List Edge) (inside : Marks) (start : ℕ) (marks : Marks) (queue : List ℕ) (done : ℕ) : Type 0 where
  pub found : Found size edges inside start marks queue
  pub started : mark_of marks start ≡ Some false
  pub within : done ≤ length queue
  pub closed : (k e : ℕ) → k < done → e < length edges → (edge_at edges e).from ≡ get_or queue k 0 → is_marked inside (edge_at edges e).to ≡ true → is_marked marks (edge_at edges e).to ≡ true

-- likewise, while the next node's edges are followed
pub record Visiting (size : ℕ) (edges : List Edge) (inside : Marks) (start : ℕ) (marks : Marks) (queue : List ℕ) (done node : ℕ) (parity : Bool) (at : ℕ) : Type 0 where
  pub going : Going size edges inside start marks queue done
  pub more : done < length queue
  pub node_is : node ≡ get_or queue done 0
  pub parity_is : mark_of marks node ≡ Some parity
  pub followed : Followed edges inside marks node at

pub marked-below : (marks : Marks) (v : ℕ) → is_marked marks v ≡ true → v < length marks
marked-below marks v h =
    elim (below_or_not v (length marks)) [
      | inl b ↦ b
      | inr b ↦ absurd (false≢true (sym (ap is_some (get_or_past marks v None b)) ∙ h))
    ]

-- the next node of the queue is a node, and marked
pub next-below : (size : ℕ) (edges : List Edge) (inside : Marks) (start : ℕ) (marks : Marks) (queue : List ℕ) (done : ℕ) → Going size edges inside start marks queue done → done < length queue → get_or queue done 0 < size
next-below size edges inside start marks queue done g h =
    let b = marked-below marks (get_or queue done 0) (g.found.marked done h) in omega (arith, b, g.found.sized)

weight-below : (o : Option Bool) → cond {A = ℕ} (is_some o) 1 0 ≤ 1
weight-below None = omega arith
weight-below (Some b) = omega arith

pub marked_count-below : (ms : Marks) → marked_count ms ≤ length ms
marked_count-below ms =
    let h : sum_by (λ (m : Option Bool). cond {A = ℕ} (is_some m) 1 0) ms ≤ length ms * 1 =
    sum_by-le (λ (m : Option Bool). cond {A = ℕ} (is_some m) 1 0) 1 ms (λ k d h. weight-below (get_or ms k d)) in
    omega (arith, h)

pub queue-below : (size : ℕ) (edges : List Edge) (inside : Marks) (start : ℕ) (marks : Marks) (queue : List ℕ) → Found size edges inside start marks queue → length queue ≤ size
queue-below size edges inside start marks queue f =
    let h : marked_count marks ≤ length marks = marked_count-below marks in omega (arith, h, f.counted, f.sized)

pub going-first : (size : ℕ) (edges : List Edge) (inside : Marks) (start : ℕ) (marks after : Marks) (queue queued : List ℕ) → start < size → is_marked inside start ≡ true → AreClear size marks → queue ≡ [] → after ≡ with_mark inside marks start false → queued ≡ with_node inside marks queue start → Going size edges inside start after queued 0
going-first size edges inside start marks after queue queued b i m q a d =
    let f = found-none size edges inside start marks queue m q in
    let lt : start < length marks = let s = m.sized in omega (arith, b, s) in
    let new : is_new inside marks start ≡ true = and_from (is_marked inside start) (not (is_marked marks start)) i (ap not (m.none start)) in
    let g : mark_of (with_mark inside marks start false) start ≡ Some false =
    ap (λ z. mark_of z start) (cond-true (is_new inside marks start) (set marks start (Some false)) marks new) ∙ get_or-set_same marks start (Some false) None lt in
    rw (a, d)
    (record {
      found = found-more size edges inside start marks queue start false f b (λ i. stays start);
      started = g;
      within = omega arith;
      closed = λ k e h. absurd (omega (arith, h));
    })

pub visiting-first : (size : ℕ) (edges : List Edge) (inside : Marks) (start : ℕ) (marks : Marks) (queue : List ℕ) (done node : ℕ) (parity : Bool) (at : ℕ) → Going size edges inside start marks queue done → done < length queue → node ≡ get_or queue done 0 → (is_marked marks node ≡ true → mark_of marks node ≡ Some parity) → IsLastFrom edges node (length edges) at → Visiting size edges inside start marks queue done node parity at
visiting-first size edges inside start marks queue done node parity at g h n p l =
    record {
      going = g;
      more = h;
      node_is = n;
      parity_is = p (ap (is_marked marks) n ∙ g.found.marked done h);
      followed = record {
        within = l.before;
        leaves = l.leaves;
        rest = λ e a b f i. absurd (l.last e a b f);
      };
    }

pub going-more : (size : ℕ) (edges : List Edge) (inside : Marks) (start : ℕ) (marks : Marks) (queue : List ℕ) (done node : ℕ) (parity : Bool) (at : ℕ) → Visiting size edges inside start marks queue done node parity at → at ≡ 0 → Going size edges inside start marks queue (done + 1)
going-more size edges inside start marks queue done node parity at v z =
    record {
      found = v.going.found;
      started = v.going.started;
      within = omega (arith, v.more);
      closed =
          λ k e h b f i.
          elim (last_or_below k done h) [
            | inl s ↦ v.followed.rest e (omega (arith, z)) b (f ∙ ap (λ i. get_or queue i 0) s ∙ sym v.node_is) i
            | inr l ↦ v.going.closed k e l b f i
          ];
    }

edge-here : (edges : List Edge) (e u : ℕ) → e < length edges → (edge_at edges e).from ≡ u → EdgeIn edges u (edge_at edges e).negated (edge_at edges e).to
edge-here edges e u h f =
    subst (λ z. EdgeIn edges z (edge_at edges e).negated (edge_at edges e).to) f (Contains-get_or edges e (record { from = 0; to = 0; negated = false }) h)

pub visiting-more : (size : ℕ) (edges : List Edge) (inside : Marks) (start : ℕ) (marks after : Marks) (queue queued : List ℕ) (done node : ℕ) (parity : Bool) (at next : ℕ) → EndsBelow size edges → Visiting size edges inside start marks queue done node parity at → 0 < at → after ≡ with_mark inside marks (edge_at edges (at - 1)).to (differ parity (edge_at edges (at - 1)).negated) → queued ≡ with_node inside marks queue (edge_at edges (at - 1)).to → IsLastFrom edges (edge_at edges (at - 1)).from (at - 1) next → Visiting size edges inside start after queued done node parity next
visiting-more size edges inside start marks after queue queued done node parity at next ends v pos a q l =
    rw (a, q) made
  where
    e : ℕ
    e = at - 1

    to : ℕ
    to = (edge_at edges (at - 1)).to

    odd : Bool
    odd = differ parity (edge_at edges (at - 1)).negated

    below : at - 1 < length edges
    below = let w = v.followed.within in omega (arith, pos, w)

    walk : is_marked inside (edge_at edges (at - 1)).to ≡ true → Walk (EdgeTo edges inside) start (edge_at edges (at - 1)).to (differ parity (edge_at edges (at - 1)).negated)
    walk i = walk-edge (v.going.found.sound node parity v.parity_is) (edge_at edges (at - 1)).to (edge_at edges (at - 1)).negated (edge-here edges (at - 1) node below (v.followed.leaves pos), i)

    stays-marked : (w : ℕ) → is_marked marks w ≡ true → is_marked (with_mark inside marks (edge_at edges (at - 1)).to (differ parity (edge_at edges (at - 1)).negated)) w ≡ true
    stays-marked w h = marked-stays inside marks (edge_at edges (at - 1)).to w (differ parity (edge_at edges (at - 1)).negated) h

    stays-queued : (k : ℕ) → k < length queue → (get_or (with_node inside marks queue (edge_at edges (at - 1)).to) k 0 ≡ get_or queue k 0) × (k < length (with_node inside marks queue (edge_at edges (at - 1)).to))
    stays-queued k h = queue-stays inside marks queue (edge_at edges (at - 1)).to k h

    from-is : (edge_at edges (at - 1)).from ≡ node
    from-is = v.followed.leaves pos

    made : Visiting size edges inside start (with_mark inside marks (edge_at edges (at - 1)).to (differ parity (edge_at edges (at - 1)).negated)) (with_node inside marks queue (edge_at edges (at - 1)).to) done node parity next
    made =
        record {
          going = record {
            found = found-more size edges inside start marks queue (edge_at edges (at - 1)).to (differ parity (edge_at edges (at - 1)).negated) v.going.found (ends.to (at - 1) below) walk;
            started = marks-stay inside marks (edge_at edges (at - 1)).to start (differ parity (edge_at edges (at - 1)).negated) false v.going.started;
            within = let k = (stays-queued done v.more).1 in omega (arith, k);
            closed =
                λ k e' h b f i.
                let lt : k < length queue = let w = v.more in omega (arith, h, w) in
                stays-marked (edge_at edges e').to (v.going.closed k e' h b (f ∙ (stays-queued k lt).0) i);
          };
          more = (stays-queued done v.more).1;
          node_is = v.node_is ∙ sym (stays-queued done v.more).0;
          parity_is = marks-stay inside marks (edge_at edges (at - 1)).to node (differ parity (edge_at edges (at - 1)).negated) parity v.parity_is;
          followed = record {
            within = let k = l.before in omega (arith, k, below);
            leaves = λ p. l.leaves p ∙ from-is;
            rest =
                λ e' p b f i.
                elim (below_or_not e' (at - 1)) [
                  | inl lt ↦ absurd (l.last e' p lt (f ∙ sym from-is))
                  | inr ge ↦
                      elim (same_or_not e' (at - 1)) [
                        | inl s ↦
                            (let lt : (edge_at edges (at - 1)).to < length marks = let x = ends.to (at - 1) below in let y = v.going.found.sized in omega (arith, x, y) in
                            ap (λ z. is_marked (with_mark inside marks (edge_at edges (at - 1)).to (differ parity (edge_at edges (at - 1)).negated)) (edge_at edges z).to) s
                            ∙ marked-here inside marks (edge_at edges (at - 1)).to (differ parity (edge_at edges (at - 1)).negated) lt (ap (λ z. is_marked inside (edge_at edges z).to) (sym s) ∙ i))
                        | inr d ↦ stays-marked (edge_at edges e').to (v.followed.rest e' (omega (arith, ge, d, pos)) b f i)
                      ]
                ];
          };
        }

pub reach-found : (size : ℕ) (edges : List Edge) (inside : Marks) (start : ℕ) (marks : Marks) (queue : List ℕ) (done : ℕ) → Going size edges inside start marks queue done → length queue ≤ done → IsReach size edges inside start marks queue
reach-found size edges inside start marks queue done g h =
    record {
      sized = g.found.sized;
      started = g.started;
      within = g.found.within;
      sound = g.found.sound;
      closed =
          λ e b m i.
          let q = g.found.queued (edge_at edges e).from m in
          let lt : q.0 < done = let w = q.1 in omega (arith, h, w) in
          g.closed q.0 e lt b (sym (place-of queue (edge_at edges e).from q)) i;
      listed = g.found.queued;
      marked = g.found.marked;
      counted = g.found.counted;
    }

-- the marks left are those of the nodes from place n on
pub record Clearing (size : ℕ) (marks : Marks) (nodes : List ℕ) (n : ℕ) : Type 0 where
  pub sized : length marks ≡ size
  pub left : (v : ℕ) → is_marked marks v ≡ true → (k : ℕ) × ((n ≤ k) × ((k < length nodes) × (get_or nodes k 0 ≡ v)))

pub clearing-first : (size : ℕ) (marks : Marks) (nodes : List ℕ) → length marks ≡ size → ((v : ℕ) → is_marked marks v ≡ true → Contains nodes v) → Clearing size marks nodes 0
clearing-first size marks nodes l h =
    record {
      sized = l;
      left = λ v e. let k = h v e in (k.0, (omega arith, (k.1, place-of nodes v k)));
    }

pub clearing-more : (size : ℕ) (marks : Marks) (nodes : List ℕ) (n node : ℕ) → Clearing size marks nodes n → node < length marks → node ≡ get_or nodes n 0 → Clearing size (set marks node None) nodes (n + 1)
clearing-more size marks nodes n node c lt is =
    record {
      sized = length-set marks node None ∙ c.sized;
      left =
          λ v e.
          elim (same_or_not v node) [
            | inl s ↦
                (let z : is_marked (set marks node None) v ≡ false = ap (is_marked (set marks node None)) s ∙ ap is_some (get_or-set_same marks node None None lt) in
                absurd (false≢true (sym z ∙ e)))
            | inr d ↦
                (let k = c.left v (ap is_some (sym (get_or-set_other marks node v None None d)) ∙ e) in
                let o : k.0 ≢ n = λ s. d (sym k.1.1.1 ∙ ap (λ z. get_or nodes z 0) s ∙ sym is) in
                let x = k.1.0 in
                (k.0, (omega (arith, o, x), k.1.1)))
          ];
    }

pub cleared : (size : ℕ) (marks : Marks) (nodes : List ℕ) (n : ℕ) → Clearing size marks nodes n → length nodes ≤ n → AreClear size marks
cleared size marks nodes n c h =
    record {
      sized = c.sized;
      none =
          λ v.
          elim (cases_Bool (is_marked marks v)) [
            | inl e ↦ (let k = c.left v e in let x = k.1.0 in let y = k.1.1.0 in absurd (omega (arith, x, y, h)))
            | inr e ↦ e
          ];
    }
