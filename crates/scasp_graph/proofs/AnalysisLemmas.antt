-- What is found by numbers is right for predicates.
use Rattle.std.proofs.Common.{◌≡◌, ◌≢◌, ◌∙◌, ◌++◌, ◌⊎◌, ℕ, zero, suc, ◌+◌, ◌<◌, Bool, true, false, ◌||◌, not, nat_eq, List, length, get_or, map, Option, Some, None, option_map, slice_get, refl, ap, sym, subst, inl, inr, arith}
use Rattle.std.specs.List.{list_any, flat_map, Contains}
use Rattle.std.proofs.lemmas.Bool.{cases_Bool, true≢false, false≢true, and_parts, and_from, or_left, or_right}
use Rattle.std.proofs.lemmas.Bool.Decides.{Decides-eqb}
use Rattle.std.proofs.lemmas.List.{length-map}
use Rattle.std.proofs.lemmas.Option.{slice_get-map, slice_get-get_or, get_or_from_slice_get}
use Rattle.scasp_syntax.specs.Programs.{pred_of, body_preds, clause_preds, predicates}
use Rattle.scasp_syntax.specs.Same.{same_bool}
use Rattle.scasp_syntax.specs.declared.atom.Atom.{Atom}
use Rattle.scasp_syntax.specs.declared.atom.Pred.{Pred}
use Rattle.scasp_syntax.specs.declared.clause.Clause.{Clause}
use Rattle.scasp_syntax.specs.declared.clause.Query.{Query}
use Rattle.scasp_syntax.specs.declared.predicate_map.PredMap.{PredMap}
use Rattle.scasp_syntax.specs.declared.program.Program.{Program}
use Rattle.scasp_graph.specs.Inside.Components.{turned, member_at, root_of, AreComponents}
use Rattle.scasp_graph.specs.Inside.Graphs.{edge_at, EdgeIn, EndsBelow}
use Rattle.scasp_graph.specs.Inside.Levels.{root_from, root_to, AreLevels, is_fitting, AreOdd}
use Rattle.scasp_graph.specs.Map.{entry_of}
use Rattle.scasp_graph.specs.Numbering.{place_in}
use Rattle.scasp_graph.specs.Inside.Places.{numbered_edge, root_in, entry_at, entries_from, is_odd_body, odd_from}
use Rattle.scasp_graph.specs.OddRules.{IsOddRule, AreOddRules}
use Rattle.scasp_graph.specs.RightMap.{level_of, plus_of, comes_before, IsFirst, IsBelow, IsRightMap}
use Rattle.scasp_graph.specs.Walks.{Walk, Reaches, stays, goes, Dependency, dependencies, Depends}
use Rattle.scasp_graph.specs.declared.components.Member.{Member}
use Rattle.scasp_graph.specs.declared.graph.Edge.{Edge}
use Rattle.scasp_graph.proofs.ComponentLemmas.{edge-is, edge-in}
use Rattle.scasp_graph.proofs.EntryLemmas.{entries-preds, entry-among, entry-lacking, any-pred, any-from, odd-found, odd-listed, odd-ascends}
use Rattle.scasp_graph.proofs.GraphLemmas.{same_or_not}
use Rattle.scasp_graph.proofs.LevelLemmas.{root-below}
use Rattle.scasp_graph.proofs.NumberingLemmas.{among, are_distinct, no_pred, pred_at, place-below, place-at, among-at, before-at, distinct-first, depends-among, rule-depends}
use Rattle.scasp_graph.proofs.PredLemmas.{bool_is}
use Rattle.scasp_graph.proofs.WalkLemmas.{differ, differ-assoc, differ-comm, differ-false, joined, reaches-trans, edge-walk, walk-edge, mapped}
use Rattle.std.proofs.lemmas.List.Elements.{Contains-get_or}
use Rattle.scasp_list.proofs.MemberLemmas.{Contains-map, Contains-from_map}

-- the numbers of a program's components, with its predicates, edges, levels and odd components
pub record Known (program : Program) (preds : List Pred) (edges : List Edge) (members : List Member) (levels : List ℕ) (odd : List Bool) : Type 0 where
  pub preds_are : preds ≡ predicates program
  pub edges_are : edges ≡ map (numbered_edge preds) (dependencies program)
  pub components : AreComponents (length preds) edges members
  pub levelled : AreLevels (length preds) edges members levels
  pub oddness : AreOdd (length preds) edges members odd

pub known-among : (program : Program) (preds : List Pred) → preds ≡ predicates program → (p q : Pred) (b : Bool) → Depends program p b q → (among preds p ≡ true) × (among preds q ≡ true)
known-among program preds e p q b d =
    let h = depends-among program p q b d in
    (ap (λ z. among z p) e ∙ h.0, ap (λ z. among z q) e ∙ h.1)

pub known-distinct : (program : Program) (preds : List Pred) → preds ≡ predicates program → are_distinct preds ≡ true
known-distinct program preds e = ap are_distinct e ∙ distinct-first (flat_map clause_preds program.clauses ++ flat_map (λ (q : Query). body_preds q.body) program.queries)

-- the ends of the edges are places of predicates
pub edges-below : (program : Program) (preds : List Pred) (edges : List Edge) → preds ≡ predicates program → edges ≡ map (numbered_edge preds) (dependencies program) → EndsBelow (length preds) edges
edges-below program preds edges e m =
    record {
      from = λ k h. (both k h).0;
      to = λ k h. (both k h).1;
    }
  where
    deps : List Dependency
    deps = dependencies program

    none : Dependency
    none = record { from = no_pred; to = no_pred; negated = false }

    both : (k : ℕ) → k < length edges → ((edge_at edges k).from < length preds) × ((edge_at edges k).to < length preds)
    both k h =
        let l : length edges ≡ length (dependencies program) = ap length m ∙ length-map (dependencies program) (numbered_edge preds) in
        let b : k < length (dependencies program) = omega (arith, h, l) in
        let d : Dependency = get_or (dependencies program) k (record { from = no_pred; to = no_pred; negated = false }) in
        let s : slice_get (dependencies program) k ≡ Some d = slice_get-get_or (dependencies program) k (record { from = no_pred; to = no_pred; negated = false }) b in
        let g : slice_get edges k ≡ Some (numbered_edge preds d) = ap (λ z. slice_get z k) m ∙ slice_get-map (numbered_edge preds) (dependencies program) k ∙ ap (option_map (numbered_edge preds)) s in
        let x : edge_at edges k ≡ numbered_edge preds d = get_or_from_slice_get edges k (numbered_edge preds d) (record { from = 0; to = 0; negated = false }) g in
        let a = known-among program preds e d.from d.to d.negated (Contains-get_or (dependencies program) k (record { from = no_pred; to = no_pred; negated = false }) b) in
        let f = (place-below preds d.from a.0).0 in
        let t = (place-below preds d.to a.1).0 in
        let fe : (edge_at edges k).from ≡ place_in preds d.from = ap (λ (z : Edge). z.from) x in
        let te : (edge_at edges k).to ≡ place_in preds d.to = ap (λ (z : Edge). z.to) x in
        (omega (arith, f, fe), omega (arith, t, te))

-- an edge between predicates is one between their places
pub down : (program : Program) (preds : List Pred) (edges : List Edge) → edges ≡ map (numbered_edge preds) (dependencies program) → (p q : Pred) (b : Bool) → Depends program p b q → EdgeIn edges (place_in preds p) b (place_in preds q)
down program preds edges m p q b d =
    subst (λ z. EdgeIn z (place_in preds p) b (place_in preds q)) (sym m) (Contains-map (numbered_edge preds) (dependencies program) (record { from = p; to = q; negated = b }) d)

-- an edge between places is one between the predicates there
pub up : (program : Program) (preds : List Pred) (edges : List Edge) → preds ≡ predicates program → edges ≡ map (numbered_edge preds) (dependencies program) → (u v : ℕ) (b : Bool) → EdgeIn edges u b v → Depends program (pred_at preds u) b (pred_at preds v)
up program preds edges e m u v b k =
    let h = Contains-from_map (numbered_edge preds) (dependencies program) (record { from = u; to = v; negated = b }) (subst (λ z. EdgeIn z u b v) m k) in
    let a = known-among program preds e h.0.from h.0.to h.0.negated h.1 in
    let f : pred_at preds u ≡ h.0.from = ap (pred_at preds) (sym (ap (λ (z : Edge). z.from) h.2)) ∙ (place-below preds h.0.from a.0).1 in
    let t : pred_at preds v ≡ h.0.to = ap (pred_at preds) (sym (ap (λ (z : Edge). z.to) h.2)) ∙ (place-below preds h.0.to a.1).1 in
    subst (Contains (dependencies program)) (λ i. record { from = sym f i; to = sym t i; negated = (h.2 i).negated }) h.1

-- two parities that differ change the parity of a walk
flip : (a x w : Bool) → differ a (differ (not x) w) ≡ not (differ a (differ x w))
flip true true true = refl
flip true true false = refl
flip true false true = refl
flip true false false = refl
flip false true true = refl
flip false true false = refl
flip false false true = refl
flip false false false = refl

unlike : (y x : Bool) → same_bool y x ≡ false → y ≡ not x
unlike true true h = absurd (true≢false h)
unlike true false h = refl
unlike false true h = refl
unlike false false h = absurd (true≢false h)

not-differ : (x b : Bool) → not (differ x b) ≡ differ b (not x)
not-differ true true = refl
not-differ true false = refl
not-differ false true = refl
not-differ false false = refl

differ-true : (x : Bool) → x ≡ differ x true → ⊥
differ-true true h = true≢false h
differ-true false h = false≢true h

module _ (program : Program) (preds : List Pred) (edges : List Edge) (members : List Member) (levels : List ℕ) (odd : List Bool) (known : Known program preds edges members levels odd) where
  ends : EndsBelow (length preds) edges
  ends = edges-below program preds edges known.preds_are known.edges_are

  ahead : (u : ℕ) → u < length preds → Walk (EdgeIn edges) (root_of members u) u (member_at members u).parity
  ahead u b = known.components.ahead u b

  -- nodes of one root reach one another
  near : (u v : ℕ) → u < length preds → v < length preds → root_of members v ≡ root_of members u → Reaches (EdgeIn edges) u v
  near u v b d e =
      reaches-trans (known.components.back u b)
      (subst (λ r. Reaches (EdgeIn edges) r v) e ((member_at members v).parity, known.components.ahead v d))

  -- a component with an edge that does not fit has an odd closed walk through each of its nodes
  odd-walk : (u : ℕ) → u < length preds → get_or odd (root_of members u) false ≡ true → Walk (EdgeIn edges) u u true
  odd-walk u b h =
      let k = known.oddness.conflict (root_of members u) h in
      through k.0 k.1.within k.1.here k.1.there k.1.unfit
    where
      through : (e : ℕ) → e < length edges → root_from edges members e ≡ root_of members u → root_to edges members e ≡ root_of members u → is_fitting edges members e ≡ false → Walk (EdgeIn edges) u u true
      through e w f t unfit =
          let r : ℕ = root_of members u in
          let x : Bool = differ (member_at members (edge_at edges e).from).parity (edge_at edges e).negated in
          let out = known.components.back u b in
          let from-walk : Walk (EdgeIn edges) (root_of members u) (edge_at edges e).from (member_at members (edge_at edges e).from).parity =
          subst (λ z. Walk (EdgeIn edges) z (edge_at edges e).from (member_at members (edge_at edges e).from).parity) f (ahead (edge_at edges e).from (ends.from e w)) in
          let over : Walk (EdgeIn edges) (root_of members u) (edge_at edges e).to (differ (member_at members (edge_at edges e).from).parity (edge_at edges e).negated) =
          walk-edge from-walk (edge_at edges e).to (edge_at edges e).negated (edge-in edges e w) in
          let straight : Walk (EdgeIn edges) (root_of members u) (edge_at edges e).to (member_at members (edge_at edges e).to).parity =
          subst (λ z. Walk (EdgeIn edges) z (edge_at edges e).to (member_at members (edge_at edges e).to).parity) t (ahead (edge_at edges e).to (ends.to e w)) in
          let home = near (edge_at edges e).to u (ends.to e w) b (sym t) in
          let one : Walk (EdgeIn edges) u u (differ out.0 (differ x home.0)) = joined out.1 u (differ x home.0) (joined over u home.0 home.1) in
          let two : Walk (EdgeIn edges) u u (differ out.0 (differ (member_at members (edge_at edges e).to).parity home.0)) =
          joined out.1 u (differ (member_at members (edge_at edges e).to).parity home.0) (joined straight u home.0 home.1) in
          elim (cases_Bool (differ out.0 (differ x home.0))) [
            | inl y ↦ subst (Walk (EdgeIn edges) u u) y one
            | inr n ↦
                (let y : differ out.0 (differ (member_at members (edge_at edges e).to).parity home.0) ≡ true =
                ap (λ z. differ out.0 (differ z home.0)) (unlike (member_at members (edge_at edges e).to).parity x unfit) ∙ flip out.0 x home.0 ∙ ap not n in
                subst (Walk (EdgeIn edges) u u) y two)
          ]

  -- along an edge within a component that is not odd, the parity fits
  fits : (u v : ℕ) (b : Bool) → EdgeIn edges u b v → root_of members v ≡ root_of members u → get_or odd (root_of members u) false ≡ false → (member_at members v).parity ≡ differ (member_at members u).parity b
  fits u v b e r f =
      let k = edge-is edges u v b e in
      let P : Edge → Type 0 = λ (z : Edge).
      root_of members z.to ≡ root_of members z.from → get_or odd (root_of members z.from) false ≡ false → same_bool (member_at members z.to).parity (not (same_bool (member_at members z.from).parity z.negated)) ≡ true in
      let h = subst P k.1 (known.oddness.fitting e.0 k.0) in
      bool_is (member_at members v).parity (differ (member_at members u).parity b) (h r f)

  -- walks within a component that is not odd have the parity of their ends
  even : {u v : ℕ} {b : Bool} → Walk (EdgeIn edges) u v b → u < length preds → Reaches (EdgeIn edges) v u → get_or odd (root_of members u) false ≡ false → (member_at members v).parity ≡ differ (member_at members u).parity b
  even (stays u) h r f = sym (differ-comm (member_at members u).parity false ∙ differ-false (member_at members u).parity)
  even (goes u m v c d e w) h r f =
      let k = edge-is edges u m c e in
      let below : m < length preds = let t = ends.to e.0 k.0 in let i : (edge_at edges e.0).to ≡ m = ap (λ (z : Edge). z.to) k.1 in omega (arith, t, i) in
      let there : Reaches (EdgeIn edges) u m = (c, edge-walk u m c e) in
      let back : Reaches (EdgeIn edges) m u = reaches-trans (d, w) r in
      let same : root_of members m ≡ root_of members u = known.components.together u m h below there back in
      let odd-there : get_or odd (root_of members m) false ≡ false = ap (λ z. get_or odd z false) same ∙ f in
      even w below (reaches-trans r there) odd-there
      ∙ ap (λ z. differ z d) (fits u m c e same f) ∙ differ-assoc (member_at members u).parity c d

  -- an odd closed walk shows that a component is odd
  is-odd : (u : ℕ) → u < length preds → Walk (EdgeIn edges) u u true → get_or odd (root_of members u) false ≡ true
  is-odd u b w =
      elim (cases_Bool (get_or odd (root_of members u) false)) [
        | inl y ↦ y
        | inr n ↦ absurd (differ-true (member_at members u).parity (even w b (false, stays u) n))
      ]

  lower : {p q : Pred} {b : Bool} → Walk (Depends program) p q b → Walk (EdgeIn edges) (place_in preds p) (place_in preds q) b
  lower w = mapped (place_in preds) (λ p q b d. down program preds edges known.edges_are p q b d) w

  lift : {u v : ℕ} {b : Bool} → Walk (EdgeIn edges) u v b → Walk (Depends program) (pred_at preds u) (pred_at preds v) b
  lift w = mapped (pred_at preds) (λ u v b e. up program preds edges known.preds_are known.edges_are u v b e) w

  place-lt : (p : Pred) → among preds p ≡ true → place_in preds p < length preds
  place-lt p a = (place-below preds p a).0

  at-place : (p : Pred) → among preds p ≡ true → pred_at preds (place_in preds p) ≡ p
  at-place p a = (place-below preds p a).1

  lift-between : (p q : Pred) (b : Bool) → among preds p ≡ true → among preds q ≡ true → Walk (EdgeIn edges) (place_in preds p) (place_in preds q) b → Walk (Depends program) p q b
  lift-between p q b a c w =
      subst (λ z. Walk (Depends program) z q b) (at-place p a)
      (subst (λ z. Walk (Depends program) (pred_at preds (place_in preds p)) z b) (at-place q c) (lift w))

  -- the root of a predicate's component
  near-preds : (p q : Pred) → among preds p ≡ true → among preds q ≡ true → root_in preds members q ≡ root_in preds members p → Reaches (Depends program) p q
  near-preds p q a c e =
      let r = near (place_in preds p) (place_in preds q) (place-lt p a) (place-lt q c) e in (r.0, lift-between p q r.0 a c r.1)

  same-root : (p q : Pred) → among preds p ≡ true → among preds q ≡ true → Reaches (Depends program) p q → Reaches (Depends program) q p → root_in preds members q ≡ root_in preds members p
  same-root p q a c x y =
      known.components.together (place_in preds p) (place_in preds q) (place-lt p a) (place-lt q c) (x.0, lower x.1) (y.0, lower y.1)

  odd-pred : (p : Pred) → among preds p ≡ true → Walk (Depends program) p p true → get_or odd (root_in preds members p) false ≡ true
  odd-pred p a w = is-odd (place_in preds p) (place-lt p a) (lower w)

  pred-odd : (p : Pred) → among preds p ≡ true → get_or odd (root_in preds members p) false ≡ true → Walk (Depends program) p p true
  pred-odd p a h = lift-between p p true a a (odd-walk (place_in preds p) (place-lt p a) h)

  among-of : (p q : Pred) (b : Bool) → Depends program p b q → (among preds p ≡ true) × (among preds q ≡ true)
  among-of p q b d = known-among program preds known.preds_are p q b d

  abbrev the_map : List PredMap
  the_map = entries_from members levels odd 0 preds

  entry-is : (p : Pred) → among preds p ≡ true → entry_of (entries_from members levels odd 0 preds) p ≡ entry_at members levels odd (place_in preds p) p
  entry-is p a =
      let z : 0 + place_in preds p ≡ place_in preds p = omega arith in
      entry-among members levels odd 0 preds p a ∙ ap (λ n. entry_at members levels odd n p) z

  level-is : (p : Pred) → among preds p ≡ true → level_of (entries_from members levels odd 0 preds) p ≡ get_or levels (root_in preds members p) 0
  level-is p a = ap (λ (m : PredMap). m.level) (entry-is p a)

  plus-is : (p : Pred) → among preds p ≡ true → plus_of (entries_from members levels odd 0 preds) p ≡ (get_or odd (root_in preds members p) false || not (member_at members (place_in preds p)).parity)
  plus-is p a = ap (λ (m : PredMap). m.plus) (entry-is p a)

  lacking : (p : Pred) → among preds p ≡ false → entry_of (entries_from members levels odd 0 preds) p ≡ record { pred = p; level = 0; plus = true }
  lacking p a = entry-lacking members levels odd 0 preds p a

  falls : (p q : Pred) (b : Bool) → Depends program p b q → (Reaches (Depends program) q p × (level_of (entries_from members levels odd 0 preds) q ≡ level_of (entries_from members levels odd 0 preds) p)) ⊎ (level_of (entries_from members levels odd 0 preds) q < level_of (entries_from members levels odd 0 preds) p)
  falls p q b d =
      let a = among-of p q b d in
      let e = down program preds edges known.edges_are p q b d in
      let k = edge-is edges (place_in preds p) (place_in preds q) b e in
      let P : Edge → Type 0 = λ (z : Edge). (root_of members z.to ≡ root_of members z.from) ⊎ (get_or levels (root_of members z.to) 0 < get_or levels (root_of members z.from) 0) in
      elim (subst P k.1 (known.levelled.falls e.0 k.0)) [
        | inl s ↦ inl (near-preds q p a.1 a.0 (sym s), level-is q a.1 ∙ ap (λ z. get_or levels z 0) s ∙ sym (level-is p a.0))
        | inr l ↦ (let x = level-is q a.1 in let y = level-is p a.0 in inr (omega (arith, l, x, y)))
      ]

  node-lt : (u : ℕ) → u < length preds → among preds (pred_at preds u) ≡ true
  node-lt u b = among-at preds u b

  node-is : (u : ℕ) → u < length preds → place_in preds (pred_at preds u) ≡ u
  node-is u b = place-at preds u (known-distinct program preds known.preds_are) b

  least : (p : Pred) → (level_of (entries_from members levels odd 0 preds) p ≡ 0) ⊎ ((q : Pred) × (IsBelow program p q × (level_of (entries_from members levels odd 0 preds) p ≡ level_of (entries_from members levels odd 0 preds) q + 1)))
  least p =
      elim (cases_Bool (among preds p)) [
        | inr n ↦ inl (ap (λ (m : PredMap). m.level) (lacking p n))
        | inl a ↦
            elim (known.levelled.least (root_in preds members p) (root-below (length preds) edges members known.components (place_in preds p) (place-lt p a))) [
              | inl z ↦ inl (level-is p a ∙ z)
              | inr c ↦ inr (through a c.0 c.1.0.within c.1.0.here c.1.1)
            ]
      ]
    where
      through : among preds p ≡ true → (e : ℕ) → e < length edges → root_from edges members e ≡ root_in preds members p → get_or levels (root_in preds members p) 0 ≡ get_or levels (root_to edges members e) 0 + 1 → (q : Pred) × (IsBelow program p q × (level_of (entries_from members levels odd 0 preds) p ≡ level_of (entries_from members levels odd 0 preds) q + 1))
      through a e w h l =
          let f : ℕ = (edge_at edges e).from in
          let t : ℕ = (edge_at edges e).to in
          let fb = ends.from e w in
          let tb = ends.to e w in
          let fa = node-lt (edge_at edges e).from fb in
          let ta = node-lt (edge_at edges e).to tb in
          let fr : root_in preds members (pred_at preds (edge_at edges e).from) ≡ root_in preds members p = ap (root_of members) (node-is (edge_at edges e).from fb) ∙ h in
          let tl : level_of (entries_from members levels odd 0 preds) (pred_at preds (edge_at edges e).to) ≡ get_or levels (root_to edges members e) 0 =
          level-is (pred_at preds (edge_at edges e).to) ta ∙ ap (λ z. get_or levels (root_of members z) 0) (node-is (edge_at edges e).to tb) in
          let pl = level-is p a in (
            pred_at preds (edge_at edges e).to,
            (
              record {
                from = pred_at preds (edge_at edges e).from;
                together = (near-preds p (pred_at preds (edge_at edges e).from) a fa fr, near-preds (pred_at preds (edge_at edges e).from) p fa a (sym fr));
                negated = (edge_at edges e).negated;
                edge = up program preds edges known.preds_are known.edges_are (edge_at edges e).from (edge_at edges e).to (edge_at edges e).negated (edge-in edges e w);
              },
              omega (arith, pl, tl, l),
            ),
          )

  first : (p : Pred) → IsFirst program p → plus_of (entries_from members levels odd 0 preds) p ≡ true
  first p h =
      elim (cases_Bool (among preds p)) [
        | inr n ↦ ap (λ (m : PredMap). m.plus) (lacking p n)
        | inl a ↦
            (let u : ℕ = place_in preds p in
            let b = place-lt p a in
            let even-root : root_of members (place_in preds p) ≡ place_in preds p =
            elim (same_or_not (root_of members (place_in preds p)) (place_in preds p)) [
              | inl s ↦ s
              | inr d ↦ absurd (earlier a d)
            ] in
            let par : (member_at members (place_in preds p)).parity ≡ false = known.components.plain (place_in preds p) b even-root in
            plus-is p a ∙ or_right (get_or odd (root_in preds members p) false) (not (member_at members (place_in preds p)).parity) (ap not par))
      ]
    where
      earlier : among preds p ≡ true → root_of members (place_in preds p) ≢ place_in preds p → ⊥
      earlier a d =
          let b = place-lt p a in
          let r = root-below (length preds) edges members known.components (place_in preds p) b in
          let l : root_of members (place_in preds p) < place_in preds p = let k = known.components.below (place_in preds p) b in omega (arith, k, d) in
          let before : comes_before preds (pred_at preds (root_of members (place_in preds p))) p ≡ true =
          ap (comes_before preds (pred_at preds (root_of members (place_in preds p)))) (sym (at-place p a))
          ∙ before-at preds (root_of members (place_in preds p)) (place_in preds p) (known-distinct program preds known.preds_are) l b in
          let before' : comes_before (predicates program) (pred_at preds (root_of members (place_in preds p))) p ≡ true =
          ap (λ z. comes_before z (pred_at preds (root_of members (place_in preds p))) p) (sym known.preds_are) ∙ before in
          let back = known.components.back (place_in preds p) b in
          h (pred_at preds (root_of members (place_in preds p))) before' (
            ((member_at members (place_in preds p)).parity, subst (λ z. Walk (Depends program) (pred_at preds (root_of members (place_in preds p))) z (member_at members (place_in preds p)).parity) (at-place p a) (lift (ahead (place_in preds p) b))),
            (back.0, subst (λ z. Walk (Depends program) z (pred_at preds (root_of members (place_in preds p))) back.0) (at-place p a) (lift back.1)),
          )

  signs : (p q : Pred) (b : Bool) → Depends program p b q → Reaches (Depends program) q p → (Walk (Depends program) p p true → ⊥) → plus_of (entries_from members levels odd 0 preds) q ≡ differ b (plus_of (entries_from members levels odd 0 preds) p)
  signs p q b d back never =
      let a = among-of p q b d in
      let there : Reaches (Depends program) p q = (b, edge-walk p q b d) in
      let r = same-root p q a.0 a.1 there back in
      let even-p : get_or odd (root_in preds members p) false ≡ false =
      elim (cases_Bool (get_or odd (root_in preds members p) false)) [
        | inl y ↦ absurd (never (pred-odd p a.0 y))
        | inr n ↦ n
      ] in
      let even-q : get_or odd (root_in preds members q) false ≡ false = ap (λ z. get_or odd z false) r ∙ even-p in
      let fit = fits (place_in preds p) (place_in preds q) b (down program preds edges known.edges_are p q b d) r even-p in
      let pp : plus_of (entries_from members levels odd 0 preds) p ≡ not (member_at members (place_in preds p)).parity =
      plus-is p a.0 ∙ ap (λ z. z || not (member_at members (place_in preds p)).parity) even-p in
      plus-is q a.1 ∙ ap (λ z. z || not (member_at members (place_in preds q)).parity) even-q
      ∙ ap not fit ∙ not-differ (member_at members (place_in preds p)).parity b ∙ ap (differ b) (sym pp)

  all-plus : (p : Pred) → Walk (Depends program) p p true → plus_of (entries_from members levels odd 0 preds) p ≡ true
  all-plus p w =
      elim (cases_Bool (among preds p)) [
        | inr n ↦ ap (λ (m : PredMap). m.plus) (lacking p n)
        | inl a ↦
            plus-is p a ∙ or_left (get_or odd (root_in preds members p) false) (not (member_at members (place_in preds p)).parity) (odd-pred p a w)
      ]

  pub map-right : IsRightMap program (entries_from members levels odd 0 preds)
  map-right =
      record {
        listed = entries-preds members levels odd 0 preds ∙ known.preds_are;
        falls = falls;
        least = least;
        first = first;
        signs = signs;
        odd = all-plus;
      }

  -- a rule that is found to be odd is odd
  rule-odd : (i : ℕ) (c : Clause) → slice_get program.clauses i ≡ Some c → is_odd_body preds members odd c.head c.body ≡ true → IsOddRule program (suc i)
  rule-odd i c s o = by c.head refl o
    where
      by : (h : Option Atom) → c.head ≡ h → is_odd_body preds members odd h c.body ≡ true → IsOddRule program (suc i)
      by None e o = absurd (false≢true o)
      by (Some a) e o =
          let p = and_parts (get_or odd (root_in preds members (pred_of a)) false) (list_any (λ q. nat_eq (root_in preds members q) (root_in preds members (pred_of a))) (body_preds c.body)) o in
          let q = any-pred (λ q. nat_eq (root_in preds members q) (root_in preds members (pred_of a))) (body_preds c.body) p.1 in
          let d = rule-depends program i c a q.0 s e q.1.0 in
          let m = among-of (pred_of a) q.0 d.0 d.1 in
          let r : root_in preds members q.0 ≡ root_in preds members (pred_of a) = (Decides-eqb (root_in preds members q.0) (root_in preds members (pred_of a))).0 q.1.1 in
          record {
            rule = c;
            stands = s;
            head = a;
            head_is = e;
            below = q.0;
            in_body = q.1.0;
            back = near-preds q.0 (pred_of a) m.1 m.0 (sym r);
            odd = pred-odd (pred_of a) m.0 p.0;
          }

  -- an odd rule is found to be odd
  odd-rule : (i : ℕ) → IsOddRule program (suc i) → (c : Clause) × ((slice_get program.clauses i ≡ Some c) × (is_odd_body preds members odd c.head c.body ≡ true))
  odd-rule i o =
      let d = rule-depends program i o.rule o.head o.below o.stands o.head_is o.in_body in
      let m = among-of (pred_of o.head) o.below d.0 d.1 in
      let there : Reaches (Depends program) (pred_of o.head) o.below = (d.0, edge-walk (pred_of o.head) o.below d.0 d.1) in
      let r = same-root (pred_of o.head) o.below m.0 m.1 there o.back in
      let t : is_odd_body preds members odd (Some o.head) o.rule.body ≡ true =
      and_from (get_or odd (root_in preds members (pred_of o.head)) false) (list_any (λ q. nat_eq (root_in preds members q) (root_in preds members (pred_of o.head))) (body_preds o.rule.body))
      (odd-pred (pred_of o.head) m.0 o.odd)
      (any-from (λ q. nat_eq (root_in preds members q) (root_in preds members (pred_of o.head))) (body_preds o.rule.body) o.below o.in_body
      ((Decides-eqb (root_in preds members o.below) (root_in preds members (pred_of o.head))).1 r)) in
      let P : Option Atom → Type 0 = λ h. is_odd_body preds members odd h o.rule.body ≡ true in
      (o.rule, (o.stands, subst P (sym o.head_is) t))

  pub odd-right : AreOddRules program (odd_from preds members odd 1 program.clauses)
  odd-right =
      record {
        ascending = odd-ascends preds members odd 1 program.clauses;
        exactly = λ k. (found k, listed k);
      }
    where
      found : (k : ℕ) → list_any (nat_eq k) (odd_from preds members odd 1 program.clauses) ≡ true → IsOddRule program k
      found k h =
          let f = odd-found preds members odd 1 k program.clauses h in
          let e : k ≡ suc f.0 = let z = f.1.1.0 in omega (arith, z) in
          subst (IsOddRule program) (sym e) (rule-odd f.0 f.1.0 f.1.1.1.0 f.1.1.1.1)

      listed : (k : ℕ) → IsOddRule program k → list_any (nat_eq k) (odd_from preds members odd 1 program.clauses) ≡ true
      listed zero o = let s = o.stands in cc
      listed (suc i) o =
          let r = odd-rule i o in
          let e : 1 + i ≡ suc i = omega arith in
          ap (λ k. list_any (nat_eq k) (odd_from preds members odd 1 program.clauses)) (sym e)
          ∙ odd-listed preds members odd 1 i r.0 program.clauses r.1.0 r.1.1

-- the ends of edges turned round are ends of the edges
pub turned-below : (n : ℕ) (edges : List Edge) → EndsBelow n edges → EndsBelow n (map turned edges)
turned-below n edges ends =
    record {
      from =
          λ e h.
          let b = within e h in
          let t = ends.to e b in
          let s : (edge_at (map turned edges) e).from ≡ (edge_at edges e).to = ap (λ (z : Edge). z.from) (there e b) in omega (arith, t, s);
      to =
          λ e h.
          let b = within e h in
          let t = ends.from e b in
          let s : (edge_at (map turned edges) e).to ≡ (edge_at edges e).from = ap (λ (z : Edge). z.to) (there e b) in omega (arith, t, s);
    }
  where
    within : (e : ℕ) → e < length (map turned edges) → e < length edges
    within e h = let l : length (map turned edges) ≡ length edges = length-map edges turned in omega (arith, h, l)

    there : (e : ℕ) → e < length edges → edge_at (map turned edges) e ≡ turned (edge_at edges e)
    there e b =
        get_or_from_slice_get (map turned edges) e (turned (edge_at edges e)) (record { from = 0; to = 0; negated = false })
        (slice_get-map turned edges e ∙ ap (option_map turned) (slice_get-get_or edges e (record { from = 0; to = 0; negated = false }) b))
