-- Levels rise until they are settled.
use Rattle.std.proofs.Common.{◌≡◌, ◌≢◌, ◌∙◌, ℕ, ◌+◌, ◌*◌, ◌<◌, ◌≤◌, Bool, true, false, not, List, length, get_or, replicate, ap, sym, subst, inl, inr, arith, get_or-set_same, get_or-set_other}
use Rattle.std.proofs.Math.ListN.{set}
use Rattle.std.proofs.lemmas.Bool.{true≢false, false≢true}
use Rattle.std.proofs.lemmas.List.{length-set, length-replicate, get_or-replicate, get_or_default, get_or_past}
use Rattle.std.proofs.lemmas.List.Sums.{sum_by-set, sum_by-le}
use Rattle.scasp_syntax.specs.Same.{same_bool}
use Rattle.scasp_graph.specs.Inside.Components.{member_at, root_of, AreComponents}
use Rattle.scasp_graph.specs.Inside.Graphs.{edge_at, EndsBelow}
use Rattle.scasp_graph.specs.Inside.Levels.{root_from, root_to, IsSettled, AreRising, AreLevels, level_sum, is_fitting, Conflicts, AreOdd}
use Rattle.scasp_graph.specs.declared.components.Member.{Member}
use Rattle.scasp_graph.specs.declared.graph.Edge.{Edge}
use Rattle.scasp_graph.proofs.GraphLemmas.{same_or_not, last_or_below, below_or_not}

-- the levels after the first n edges
pub record Raising (size : ℕ) (edges : List Edge) (members : List Member) (first levels : List ℕ) (raised : Bool) (n : ℕ) : Type 0 where
  pub rising : AreRising size edges members levels
  pub grown : level_sum first ≤ level_sum levels
  pub rises : raised ≡ true → level_sum first < level_sum levels
  pub settled : raised ≡ false → (e : ℕ) → e < n → IsSettled edges members levels e

pub root-below : (size : ℕ) (edges : List Edge) (members : List Member) → AreComponents size edges members → (u : ℕ) → u < size → root_of members u < size
root-below size edges members k u b = let h = k.below u b in omega (arith, b, h)

-- the level of an edge's component is raised above the level to which it leads
pub rising-up : (size : ℕ) (edges : List Edge) (members : List Member) (levels : List ℕ) (n : ℕ) → EndsBelow size edges → AreComponents size edges members → AreRising size edges members levels → n < length edges → root_to edges members n ≢ root_from edges members n → get_or levels (root_from edges members n) 0 ≤ get_or levels (root_to edges members n) 0 → AreRising size edges members (set levels (root_from edges members n) (get_or levels (root_to edges members n) 0 + 1)) × (level_sum levels < level_sum (set levels (root_from edges members n) (get_or levels (root_to edges members n) 0 + 1)))
rising-up size edges members levels n ends k r b d low = (
  record {
    sized = length-set levels (root_from edges members n) (get_or levels (root_to edges members n) 0 + 1) ∙ r.sized;
    bounded =
        λ u h.
        elim (same_or_not u (root_from edges members n)) [
          | inl s ↦
              (let e : get_or after u 0 ≡ get_or levels (root_to edges members n) 0 + 1 = ap (λ z. get_or after z 0) s ∙ here in
              let t = r.bounded (root_to edges members n) to-below in
              let f = k.falls n b d in
              let m : (member_at members u).rank ≡ (member_at members (root_from edges members n)).rank = ap (λ z. (member_at members z).rank) s in
              omega (arith, e, t, f, m))
          | inr o ↦ (let e = other u o in let t = r.bounded u h in omega (arith, e, t))
        ];
    caused =
        λ u h.
        elim (same_or_not u (root_from edges members n)) [
          | inl s ↦
              (let e : get_or after u 0 ≡ get_or levels (root_to edges members n) 0 + 1 = ap (λ z. get_or after z 0) s ∙ here in
              let t : get_or after (root_to edges members n) 0 ≡ get_or levels (root_to edges members n) 0 = other (root_to edges members n) d in
              inr (n, (record { within = b; here = sym s; there = λ q. d (q ∙ s) }, omega (arith, e, t))))
          | inr o ↦
              (let e = other u o in
              elim (r.caused u h) [
                | inl z ↦ inl (e ∙ z)
                | inr c ↦ (let g = grows (root_to edges members c.0) in let w = c.1.1 in inr (c.0, (c.1.0, omega (arith, e, g, w))))
              ])
        ];
  },
  (let t = summed in omega (arith, t, low)),
)
  where
    after : List ℕ
    after = set levels (root_from edges members n) (get_or levels (root_to edges members n) 0 + 1)

    from-below : root_from edges members n < size
    from-below = root-below size edges members k (edge_at edges n).from (ends.from n b)

    to-below : root_to edges members n < size
    to-below = root-below size edges members k (edge_at edges n).to (ends.to n b)

    lt : root_from edges members n < length levels
    lt = let s = r.sized in let f = from-below in omega (arith, s, f)

    here : get_or (set levels (root_from edges members n) (get_or levels (root_to edges members n) 0 + 1)) (root_from edges members n) 0 ≡ get_or levels (root_to edges members n) 0 + 1
    here = get_or-set_same levels (root_from edges members n) (get_or levels (root_to edges members n) 0 + 1) 0 lt

    other : (u : ℕ) → u ≢ root_from edges members n → get_or (set levels (root_from edges members n) (get_or levels (root_to edges members n) 0 + 1)) u 0 ≡ get_or levels u 0
    other u o = get_or-set_other levels (root_from edges members n) u (get_or levels (root_to edges members n) 0 + 1) 0 o

    grows : (u : ℕ) → get_or levels u 0 ≤ get_or (set levels (root_from edges members n) (get_or levels (root_to edges members n) 0 + 1)) u 0
    grows u =
        elim (same_or_not u (root_from edges members n)) [
          | inl s ↦
              (let e : get_or (set levels (root_from edges members n) (get_or levels (root_to edges members n) 0 + 1)) u 0 ≡ get_or levels (root_to edges members n) 0 + 1 =
              ap (λ z. get_or (set levels (root_from edges members n) (get_or levels (root_to edges members n) 0 + 1)) z 0) s ∙ here in
              let f : get_or levels u 0 ≡ get_or levels (root_from edges members n) 0 = ap (λ z. get_or levels z 0) s in
              omega (arith, e, f, low))
          | inr o ↦ (let e = other u o in omega (arith, e))
        ]

    summed : level_sum (set levels (root_from edges members n) (get_or levels (root_to edges members n) 0 + 1)) + get_or levels (root_from edges members n) 0 ≡ level_sum levels + (get_or levels (root_to edges members n) 0 + 1)
    summed = sum_by-set (λ (x : ℕ). x) levels (root_from edges members n) (get_or levels (root_to edges members n) 0 + 1) 0 lt

-- an edge whose component was raised
pub raising-up : (size : ℕ) (edges : List Edge) (members : List Member) (first levels after : List ℕ) (raised : Bool) (n : ℕ) → Raising size edges members first levels raised n → AreRising size edges members after → level_sum levels < level_sum after → Raising size edges members first after true (n + 1)
raising-up size edges members first levels after raised n r rising more =
    let g = r.grown in
    record {
      rising = rising;
      grown = omega (arith, g, more);
      rises = λ t. omega (arith, g, more);
      settled = λ f. absurd (true≢false f);
    }

-- an edge that is settled
pub raising-on : (size : ℕ) (edges : List Edge) (members : List Member) (first levels : List ℕ) (raised : Bool) (n : ℕ) → Raising size edges members first levels raised n → IsSettled edges members levels n → Raising size edges members first levels raised (n + 1)
raising-on size edges members first levels raised n r s =
    record {
      rising = r.rising;
      grown = r.grown;
      rises = r.rises;
      settled =
          λ f e h.
          elim (last_or_below e n h) [ inl q ↦ subst (IsSettled edges members levels) (sym q) s | inr l ↦ r.settled f e l ];
    }

pub raising-first : (size : ℕ) (edges : List Edge) (members : List Member) (levels : List ℕ) → AreRising size edges members levels → Raising size edges members levels levels false 0
raising-first size edges members levels r =
    record {
      rising = r;
      grown = omega arith;
      rises = λ t. absurd (false≢true t);
      settled = λ f e h. absurd (omega (arith, h));
    }

pub rising-none : (size : ℕ) (edges : List Edge) (members : List Member) (levels : List ℕ) → levels ≡ replicate size 0 → AreRising size edges members levels
rising-none size edges members levels z =
    record {
      sized = ap length z ∙ length-replicate size 0;
      bounded = λ u h. let e = zero_at u h in omega (arith, e);
      caused = λ u h. inl (zero_at u h);
    }
  where
    zero_at : (u : ℕ) → u < size → get_or levels u 0 ≡ 0
    zero_at u h = ap (λ ls. get_or ls u 0) z ∙ get_or-replicate size u 0 0 h

pub sum-below : (size : ℕ) (edges : List Edge) (members : List Member) (levels : List ℕ) → AreComponents size edges members → AreRising size edges members levels → level_sum levels ≤ size * size
sum-below size edges members levels k r =
    let h : level_sum levels ≤ length levels * size = sum_by-le (λ (x : ℕ). x) size levels each in
    let P : ℕ → Type 0 = λ z. level_sum levels ≤ z * size in
    subst P r.sized h
  where
    each : (i d : ℕ) → i < length levels → get_or levels i d ≤ size
    each i d h =
        let b : i < size = let s = r.sized in omega (arith, h, s) in
        let x = r.bounded i b in
        let y = k.bounded i b in
        let e : get_or levels i d ≡ get_or levels i 0 = get_or_default levels i d 0 h in
        omega (arith, x, y, e)

pub levels-settled : (size : ℕ) (edges : List Edge) (members : List Member) (levels : List ℕ) → AreRising size edges members levels → ((e : ℕ) → e < length edges → IsSettled edges members levels e) → AreLevels size edges members levels
levels-settled size edges members levels r s =
    record {
      sized = r.sized;
      falls = s;
      least =
          λ u h.
          elim (r.caused u h) [
            | inl z ↦ inl z
            | inr c ↦
                elim (s c.0 c.1.0.within) [
                  | inl q ↦ absurd (c.1.0.there (q ∙ c.1.0.here))
                  | inr l ↦
                      (let f : get_or levels (root_from edges members c.0) 0 ≡ get_or levels u 0 = ap (λ z. get_or levels z 0) c.1.0.here in
                      let w = c.1.1 in
                      inr (c.0, (c.1.0, omega (arith, f, l, w))))
                ]
          ];
    }

-- the odd components by the first n edges
pub record OddSoFar (size : ℕ) (edges : List Edge) (members : List Member) (odd : List Bool) (n : ℕ) : Type 0 where
  pub sized : length odd ≡ size
  pub conflict : (u : ℕ) → get_or odd u false ≡ true → (e : ℕ) × Conflicts edges members u e
  pub fitting : (e : ℕ) → e < n → root_to edges members e ≡ root_from edges members e → get_or odd (root_from edges members e) false ≡ false → is_fitting edges members e ≡ true

pub odd-none : (size : ℕ) (edges : List Edge) (members : List Member) (odd : List Bool) → odd ≡ replicate size false → OddSoFar size edges members odd 0
odd-none size edges members odd z =
    record {
      sized = ap length z ∙ length-replicate size false;
      conflict = λ u h. absurd (false≢true (sym (even u) ∙ h));
      fitting = λ e h. absurd (omega (arith, h));
    }
  where
    even : (u : ℕ) → get_or odd u false ≡ false
    even u =
        ap (λ bs. get_or bs u false) z
        ∙ elim (below_or_not u size) [
          | inl h ↦ get_or-replicate size u false false h
          | inr h ↦ (let l : length (replicate {A = Bool} size false) ≡ size = length-replicate size false in get_or_past (replicate size false) u false (omega (arith, h, l)))
        ]

pub odd-more : (size : ℕ) (edges : List Edge) (members : List Member) (odd : List Bool) (n : ℕ) → OddSoFar size edges members odd n → n < length edges → root_from edges members n < size → root_to edges members n ≡ root_from edges members n → is_fitting edges members n ≡ false → OddSoFar size edges members (set odd (root_from edges members n) true) (n + 1)
odd-more size edges members odd n o b below same unfit =
    record {
      sized = length-set odd (root_from edges members n) true ∙ o.sized;
      conflict =
          λ u h.
          elim (same_or_not u (root_from edges members n)) [
            | inl s ↦ (n, record { within = b; here = sym s; there = same ∙ sym s; unfit = unfit })
            | inr d ↦ o.conflict u (sym (get_or-set_other odd (root_from edges members n) u true false d) ∙ h)
          ];
      fitting =
          λ e h s f.
          elim (same_or_not (root_from edges members e) (root_from edges members n)) [
            | inl q ↦
                (let lt : root_from edges members n < length odd = let z = o.sized in omega (arith, below, z) in
                let t : get_or (set odd (root_from edges members n) true) (root_from edges members e) false ≡ true =
                ap (λ z. get_or (set odd (root_from edges members n) true) z false) q ∙ get_or-set_same odd (root_from edges members n) true false lt in
                absurd (true≢false (sym t ∙ f)))
            | inr d ↦
                elim (last_or_below e n h) [
                  | inl q ↦ absurd (d (ap (root_from edges members) q))
                  | inr l ↦ o.fitting e l s (sym (get_or-set_other odd (root_from edges members n) (root_from edges members e) true false d) ∙ f)
                ]
          ];
    }

pub odd-on : (size : ℕ) (edges : List Edge) (members : List Member) (odd : List Bool) (n : ℕ) → OddSoFar size edges members odd n → (root_to edges members n ≡ root_from edges members n → is_fitting edges members n ≡ true) → OddSoFar size edges members odd (n + 1)
odd-on size edges members odd n o fits =
    record {
      sized = o.sized;
      conflict = o.conflict;
      fitting =
          λ e h s f.
          elim (last_or_below e n h) [
            | inl q ↦
                (let P : ℕ → Type 0 = λ z. root_to edges members z ≡ root_from edges members z → is_fitting edges members z ≡ true in subst P (sym q) fits s)
            | inr l ↦ o.fitting e l s f
          ];
    }

pub odd-all : (size : ℕ) (edges : List Edge) (members : List Member) (odd : List Bool) (n : ℕ) → OddSoFar size edges members odd n → length edges ≤ n → AreOdd size edges members odd
odd-all size edges members odd n o h =
    record {
      sized = o.sized;
      conflict = o.conflict;
      fitting = λ e b s f. o.fitting e (omega (arith, b, h)) s f;
    }

-- what the test of an edge tells
pub fit-from : (t walked x b : Bool) → walked ≡ x → not (same_bool t walked) ≡ b → same_bool t x ≡ not b
fit-from t walked x b e h = ap (same_bool t) (sym e) ∙ by (same_bool t walked) b h
  where
    by : (s b : Bool) → not s ≡ b → s ≡ not b
    by true b h = ap not h
    by false b h = ap not h
