-- New variables that are to be equal to terms next, each to one: what a binding leaves of them.
use Rattle.std.specs.Prelude.{◌≡◌, ◌≢◌, ℕ, suc, ◌+◌, ◌<◌, ◌≤◌, List, [], ◌∷◌, ◌++◌, length, map, ⊤}
use Rattle.std.proofs.Common.{refl, ap, sym, subst, arith, ◌∙◌}
use Rattle.std.proofs.lemmas.Bool.{or_from, ne_eqb}
use Rattle.scasp_list.specs.Each.{Each}
use Rattle.scasp_list.proofs.EachLemmas.{Each-map, Each-append, Each-both}
use Rattle.scasp_search_rules.specs.declared.states.tasks.Pair.{Pair}
use Rattle.scasp_search_rules.specs.Successors.Pairs.{pair, pairs}
use Rattle.scasp_search_rules.specs.Successors.Splits.{is_bound_in}
use Rattle.scasp_search_rules.specs.Successors.Variables.{binding}
use Rattle.scasp_syntax.specs.Tm.{Tm, Tms, var, nil, cons, items, weight, weight_s}
use Rattle.scasp_syntax.specs.Values.{under}
use Rattle.scasp_unify.specs.Negations.{new_parts}
use Rattle.scasp_unify.specs.Solving.{sub_of}
use Rattle.scasp_unify.specs.Unification.{single}
use Rattle.scasp_unify.specs.declared.bindings.Binding.{Binding}
use Rattle.scasp_law_first_event.proofs.Terms.{EachVar, EachVars, each-weaker, each-both, all-both, each-under, single-each, single-self, single-weight, weight-under}
use Rattle.scasp_law_first_event.proofs.Bindings.{Solved, Free, read-free, free-self, read-push, bound-push, still-free, above-unbound}

-- a new variable, and the term that it is to be equal to
pub record Piece : Type 0 where
  pub at : ℕ
  pub term : Tm

abbrev pub pair_for : Piece → Pair
pair_for g = pair (var g.at) g.term

abbrev pub paired : List Piece → List Pair
paired gs = map pair_for gs

-- the variables from k on for these terms
abbrev pub fresh_from : ℕ → Tms → List Piece
fresh_from k nil = []
fresh_from k (cons t ts) = record { at = k; term = t } ∷ fresh_from (suc k) ts

pub pairs-fresh : (k : ℕ) (ts : Tms) → pairs (new_parts k (length (items ts))) ts ≡ paired (fresh_from k ts)
pairs-fresh k nil = refl
pairs-fresh k (cons t ts) = ap (λ (ps : List Pair). pair (var k) t ∷ ps) (pairs-fresh (suc k) ts)

pub length-fresh : (k : ℕ) (ts : Tms) → length (fresh_from k ts) ≡ length (items ts)
length-fresh k nil = refl
length-fresh k (cons t ts) = ap suc (length-fresh (suc k) ts)

-- none of the new variables
abbrev pub Outside : List Piece → ℕ → Type 0
Outside gs y = Each (λ g. g.at ≢ y) gs

abbrev pub Distinct : List Piece → Type 0
Distinct [] = ⊤
Distinct (g ∷ gs) = Outside gs g.at × Distinct gs

-- The new variables are free and distinct, and none stands in the terms as they read.
pub record Ready (n : ℕ) (bs : List Binding) (gs : List Piece) : Type 0 where
  pub free : Each (λ g. Free n bs g.at) gs
  pub distinct : Distinct gs
  pub below : Each (λ g. EachVar (λ y. y < n) g.term) gs
  pub outside : Each (λ g. EachVar (Outside gs) (under (sub_of bs) g.term)) gs

-- how much the terms weigh as they read
abbrev pub sizes : List Binding → List Piece → ℕ
sizes bs [] = 0
sizes bs (g ∷ gs) = weight (under (sub_of bs) g.term) + sizes bs gs

-- ---- without the first

pub ready-next : (n : ℕ) (bs : List Binding) (g : Piece) (gs : List Piece) → Ready n bs (g ∷ gs) → Ready n bs gs
ready-next n bs g gs r = record {
  free = r.free.1;
  distinct = r.distinct.1;
  below = r.below.1;
  outside =
      Each-map (λ (h : Piece). EachVar (Outside (g ∷ gs)) (under (sub_of bs) h.term)) (λ h. EachVar (Outside gs) (under (sub_of bs) h.term))
      (λ h k. each-weaker (Outside (g ∷ gs)) (Outside gs) (λ y o. o.1) (under (sub_of bs) h.term) k) gs r.outside.1;
}

pub next-apart : (n : ℕ) (bs : List Binding) (g : Piece) (gs : List Piece) → Ready n bs (g ∷ gs) → Each (λ h. EachVar (λ y. y ≢ g.at) (under (sub_of bs) h.term)) gs
next-apart n bs g gs r =
    Each-map (λ (h : Piece). EachVar (Outside (g ∷ gs)) (under (sub_of bs) h.term)) (λ h. EachVar (λ y. y ≢ g.at) (under (sub_of bs) h.term))
    (λ h k. each-weaker (Outside (g ∷ gs)) (λ y. y ≢ g.at) (λ y o e. o.0 (sym e)) (under (sub_of bs) h.term) k) gs r.outside.1

-- ---- a variable is bound to a variable or a number

pub ready-bound : (n : ℕ) (bs : List Binding) (z : ℕ) (v : Tm) (gs : List Piece) → Ready n bs gs → Outside gs z → EachVar (Outside gs) v
    → Ready n (bs ++ binding z v ∷ []) gs
ready-bound n bs z v gs r o h = record {
  free =
      Each-map (λ (g : Piece). Free n bs g.at × (g.at ≢ z)) (λ g. Free n (bs ++ binding z v ∷ []) g.at)
      (λ g f. still-free n n bs (binding z v) g.at (omega arith) f.1 f.0) gs (Each-both (λ (g : Piece). Free n bs g.at) (λ g. g.at ≢ z) gs r.free o);
  distinct = r.distinct;
  below = r.below;
  outside =
      Each-map (λ (g : Piece). EachVar (Outside gs) (under (sub_of bs) g.term)) (λ g. EachVar (Outside gs) (under (sub_of (bs ++ binding z v ∷ [])) g.term))
      (λ g k. subst (EachVar (Outside gs)) (sym (read-push bs z v g.term))
      (each-under (Outside gs) (Outside gs) (single z v) (λ y p. single-each (Outside gs) z v h y (λ _. p)) (under (sub_of bs) g.term) k))
      gs r.outside;
}

pub sizes-bound : (bs : List Binding) (z : ℕ) (v : Tm) → weight v ≡ 1 → (gs : List Piece) → sizes (bs ++ binding z v ∷ []) gs ≡ sizes bs gs
sizes-bound bs z v h [] = refl
sizes-bound bs z v h (g ∷ gs) =
    let one : weight (under (sub_of (bs ++ binding z v ∷ [])) g.term) ≡ weight (under (sub_of bs) g.term) =
    ap weight (read-push bs z v g.term) ∙ weight-under (single z v) (single-weight z v h) (under (sub_of bs) g.term) in
    let rest = sizes-bound bs z v h gs in omega (arith, one, rest)

-- ---- a variable gets a name with new variables

-- the new variables are those from k on, below so many more
pub fresh-at : (k : ℕ) (ts : Tms) → Each (λ g. (k ≤ g.at) × (g.at < k + length (items ts))) (fresh_from k ts)
fresh-at k nil = tt
fresh-at k (cons t ts) = (
  (omega arith, omega arith),
  Each-map (λ (g : Piece). (suc k ≤ g.at) × (g.at < suc k + length (items ts))) (λ g. (k ≤ g.at) × (g.at < k + suc (length (items ts))))
      (λ g h. (omega (arith, h.0), omega (arith, h.1))) (fresh_from (suc k) ts) (fresh-at (suc k) ts),
)

pub fresh-terms : (P : ℕ → Type 0) (k : ℕ) (ts : Tms) → EachVars P ts → Each (λ g. EachVar P g.term) (fresh_from k ts)
fresh-terms P k nil h = tt
fresh-terms P k (cons t ts) h = (h.0, fresh-terms P (suc k) ts h.1)

fresh-distinct : (k : ℕ) (ts : Tms) (gs : List Piece) → Distinct gs → Each (λ g. g.at < k) gs → Distinct (fresh_from k ts ++ gs)
fresh-distinct k nil gs d l = d
fresh-distinct k (cons t ts) gs d l = (
  Each-append (λ (g : Piece). g.at ≢ k) (fresh_from (suc k) ts) gs
      (Each-map (λ (g : Piece). (suc k ≤ g.at) × (g.at < suc k + length (items ts))) (λ g. g.at ≢ k) (λ g h e. omega (arith, h.0, e)) (fresh_from (suc k) ts) (fresh-at (suc k) ts))
      (Each-map (λ (g : Piece). g.at < k) (λ g. g.at ≢ k) (λ g h e. omega (arith, h, e)) gs l),
  fresh-distinct (suc k) ts gs d (Each-map (λ (g : Piece). g.at < k) (λ g. g.at < suc k) (λ g h. omega (arith, h)) gs l),
)

outside-fresh : (k : ℕ) (ts : Tms) (gs : List Piece) (y : ℕ) → y < k → Outside gs y → Outside (fresh_from k ts ++ gs) y
outside-fresh k ts gs y l o =
    Each-append (λ (g : Piece). g.at ≢ y) (fresh_from k ts) gs
    (Each-map (λ (g : Piece). (k ≤ g.at) × (g.at < k + length (items ts))) (λ g. g.at ≢ y) (λ g h e. omega (arith, h.0, l, e)) (fresh_from k ts) (fresh-at k ts)) o

module _ (n : ℕ) (bs : List Binding) (solved : Solved n bs) (z : ℕ) (zb : z < n) (v : Tm) where
  -- a term without z reads as before
  abbrev now : List Binding
  now = bs ++ binding z v ∷ []

  reads-same : (t : Tm) → EachVar (λ y. y ≢ z) (under (sub_of bs) t) → under (sub_of now) t ≡ under (sub_of bs) t
  reads-same t h = read-push bs z v t ∙ single-self z v (under (sub_of bs) t) h

  reads-itself : (t : Tm) → EachVar (Free n bs) t → EachVar (λ y. y ≢ z) t → under (sub_of now) t ≡ t
  reads-itself t f h =
      let e : under (sub_of bs) t ≡ t = free-self n bs t f in
      reads-same t (subst (EachVar (λ y. y ≢ z)) (sym e) h) ∙ e

  fresh-free : (g : Piece) (m : ℕ) → n ≤ g.at → g.at < m → Free m now g.at
  fresh-free g m l h =
      (bound-push bs (binding z v) g.at ∙ or_from (is_bound_in bs g.at) _ (above-unbound n bs solved g.at l) (ne_eqb z g.at (λ e. absurd (omega (arith, zb, l, e)))), h)

  module _ (ts : Tms) (gs : List Piece) (r : Ready n bs gs) (o : Outside gs z) (apart : Each (λ g. EachVar (λ y. y ≢ z) (under (sub_of bs) g.term)) gs)
      (tf : EachVars (Free n bs) ts) (tz : EachVars (λ y. y ≢ z) ts) (tg : EachVars (Outside gs) ts) where
    abbrev Both : ℕ → Type 0
    Both y = Free n bs y × Outside gs y

    abbrev All : ℕ → Type 0
    All y = Both y × (y ≢ z)

    wider : (t : Tm) → EachVar Both t → EachVar (Outside (fresh_from n ts ++ gs)) t
    wider t h = each-weaker Both (Outside (fresh_from n ts ++ gs)) (λ y b. outside-fresh n ts gs y b.0.1 b.1) t h

    each-new : Each (λ g. EachVar All g.term) (fresh_from n ts)
    each-new = fresh-terms All n ts (all-both Both (λ y. y ≢ z) ts (all-both (Free n bs) (Outside gs) ts tf tg) tz)

    new-outside : (g : Piece) → EachVar All g.term → EachVar (Outside (fresh_from n ts ++ gs)) (under (sub_of now) g.term)
    new-outside g h =
        subst (EachVar (Outside (fresh_from n ts ++ gs))) (sym (reads-itself g.term (each-weaker All (Free n bs) (λ y a. a.0.0) g.term h) (each-weaker All (λ y. y ≢ z) (λ y a. a.1) g.term h)))
        (wider g.term (each-weaker All Both (λ y a. a.0) g.term h))

    old-outside : (g : Piece) → EachVar (λ y. y < n) g.term → EachVar (Outside gs) (under (sub_of bs) g.term) → EachVar (λ y. y ≢ z) (under (sub_of bs) g.term)
        → EachVar (Outside (fresh_from n ts ++ gs)) (under (sub_of now) g.term)
    old-outside g l h a =
        subst (EachVar (Outside (fresh_from n ts ++ gs))) (sym (reads-same g.term a))
        (wider (under (sub_of bs) g.term) (each-both (Free n bs) (Outside gs) (under (sub_of bs) g.term) (read-free n bs solved g.term l) h))

    pub ready-shaped : Ready (n + length (items ts)) now (fresh_from n ts ++ gs)
    ready-shaped = record {
      free =
          Each-append (λ (g : Piece). Free (n + length (items ts)) now g.at) (fresh_from n ts) gs
          (Each-map (λ (g : Piece). (n ≤ g.at) × (g.at < n + length (items ts))) (λ g. Free (n + length (items ts)) now g.at)
          (λ g h. fresh-free g (n + length (items ts)) h.0 h.1) (fresh_from n ts) (fresh-at n ts))
          (Each-map (λ (g : Piece). Free n bs g.at × (g.at ≢ z)) (λ g. Free (n + length (items ts)) now g.at)
          (λ g f. still-free n (n + length (items ts)) bs (binding z v) g.at (omega arith) f.1 f.0) gs (Each-both (λ (g : Piece). Free n bs g.at) (λ g. g.at ≢ z) gs r.free o));
      distinct = fresh-distinct n ts gs r.distinct (Each-map (λ (g : Piece). Free n bs g.at) (λ g. g.at < n) (λ g f. f.1) gs r.free);
      below =
          Each-append (λ (g : Piece). EachVar (λ y. y < n + length (items ts)) g.term) (fresh_from n ts) gs
          (Each-map (λ (g : Piece). EachVar All g.term) (λ g. EachVar (λ y. y < n + length (items ts)) g.term)
          (λ g h. each-weaker All (λ y. y < n + length (items ts)) (λ y a. omega (arith, a.0.0.1)) g.term h) (fresh_from n ts) each-new)
          (Each-map (λ (g : Piece). EachVar (λ y. y < n) g.term) (λ g. EachVar (λ y. y < n + length (items ts)) g.term)
          (λ g h. each-weaker (λ y. y < n) (λ y. y < n + length (items ts)) (λ y l. omega (arith, l)) g.term h) gs r.below);
      outside =
          Each-append (λ (g : Piece). EachVar (Outside (fresh_from n ts ++ gs)) (under (sub_of now) g.term)) (fresh_from n ts) gs
          (Each-map (λ (g : Piece). EachVar All g.term) (λ g. EachVar (Outside (fresh_from n ts ++ gs)) (under (sub_of now) g.term)) new-outside (fresh_from n ts) each-new)
          (Each-map (λ (g : Piece). EachVar (λ y. y < n) g.term × (EachVar (Outside gs) (under (sub_of bs) g.term) × EachVar (λ y. y ≢ z) (under (sub_of bs) g.term)))
          (λ g. EachVar (Outside (fresh_from n ts ++ gs)) (under (sub_of now) g.term)) (λ g h. old-outside g h.0 h.1.0 h.1.1) gs
          (Each-both (λ (g : Piece). EachVar (λ y. y < n) g.term) (λ g. EachVar (Outside gs) (under (sub_of bs) g.term) × EachVar (λ y. y ≢ z) (under (sub_of bs) g.term)) gs r.below
          (Each-both (λ (g : Piece). EachVar (Outside gs) (under (sub_of bs) g.term)) (λ g. EachVar (λ y. y ≢ z) (under (sub_of bs) g.term)) gs r.outside apart)));
    }

  same-sizes : (gs : List Piece) → Each (λ g. EachVar (λ y. y ≢ z) (under (sub_of bs) g.term)) gs → sizes now gs ≡ sizes bs gs
  same-sizes [] a = refl
  same-sizes (g ∷ gs) a =
      let one : weight (under (sub_of now) g.term) ≡ weight (under (sub_of bs) g.term) = ap weight (reads-same g.term a.0) in
      let rest = same-sizes gs a.1 in omega (arith, one, rest)

  pub sizes-shaped : (k : ℕ) (ts : Tms) (gs : List Piece) → Each (λ g. EachVar (λ y. y ≢ z) (under (sub_of bs) g.term)) gs
      → EachVars (Free n bs) ts → EachVars (λ y. y ≢ z) ts → sizes now (fresh_from k ts ++ gs) ≡ weight_s ts + sizes bs gs
  sizes-shaped k nil gs a f h = let e = same-sizes gs a in omega (arith, e)
  sizes-shaped k (cons t ts) gs a f h =
      let one : weight (under (sub_of now) t) ≡ weight t = ap weight (reads-itself t f.0 h.0) in
      let rest = sizes-shaped (suc k) ts gs a f.1 h.1 in omega (arith, one, rest)
