-- Walks: one after another, backwards, and what they keep.
use Rattle.std.proofs.Common.{◌≡◌, ◌∙◌, Bool, true, false, not, refl, sym, subst}
use Rattle.scasp_syntax.specs.Same.{same_bool}
use Rattle.scasp_graph.specs.Walks.{Walk, stays, goes, Reaches}

-- whether one of two is odd and the other is not
abbrev pub differ : Bool → Bool → Bool
differ b c = not (same_bool b c)

pub differ-assoc : (a b c : Bool) → differ (differ a b) c ≡ differ a (differ b c)
differ-assoc true true true = refl
differ-assoc true true false = refl
differ-assoc true false true = refl
differ-assoc true false false = refl
differ-assoc false true true = refl
differ-assoc false true false = refl
differ-assoc false false true = refl
differ-assoc false false false = refl

pub differ-comm : (a b : Bool) → differ a b ≡ differ b a
differ-comm true true = refl
differ-comm true false = refl
differ-comm false true = refl
differ-comm false false = refl

pub differ-false : (b : Bool) → differ false b ≡ b
differ-false true = refl
differ-false false = refl

-- one walk after another
pub joined : {N : Type 0} {Edge : N → Bool → N → Type 0} {p q : N} {b : Bool} → Walk Edge p q b → (r : N) (c : Bool) → Walk Edge q r c → Walk Edge p r (differ b c)
joined {N} {Edge} (stays p) r c w = subst (Walk Edge p r) (sym (differ-false c)) w
joined {N} {Edge} (goes p m q d f e v) r c w =
    subst (Walk Edge p r) (sym (differ-assoc d f c)) (goes p m r d (differ f c) e (joined v r c w))

pub reaches-trans : {N : Type 0} {Edge : N → Bool → N → Type 0} {p q r : N} → Reaches Edge p q → Reaches Edge q r → Reaches Edge p r
reaches-trans {N} {Edge} {p} {q} {r} v w = (differ v.0 w.0, joined v.1 r w.0 w.1)

-- an edge is a walk
pub edge-walk : {N : Type 0} {Edge : N → Bool → N → Type 0} (p q : N) (b : Bool) → Edge p b q → Walk Edge p q b
edge-walk {N} {Edge} p q b e = subst (Walk Edge p q) (differ-comm b false ∙ differ-false b) (goes p q q b false e (stays q))

-- an edge at the end of a walk
pub walk-edge : {N : Type 0} {Edge : N → Bool → N → Type 0} {p q : N} {b : Bool} → Walk Edge p q b → (r : N) (c : Bool) → Edge q c r → Walk Edge p r (differ b c)
walk-edge {N} {Edge} {p} {q} {b} w r c e = joined w r c (edge-walk q r c e)

-- a walk along edges turned round, backwards
pub turned : {N : Type 0} {Edge Back : N → Bool → N → Type 0} → ((p q : N) (b : Bool) → Edge p b q → Back q b p) → {p q : N} {b : Bool} → Walk Edge p q b → Walk Back q p b
turned {N} {Edge} {Back} turn (stays p) = stays p
turned {N} {Edge} {Back} turn (goes p m q d f e v) =
    subst (Walk Back q p) (differ-comm f d) (walk-edge (turned turn v) p d (turn p m d e))

-- what each edge keeps, each walk keeps
pub kept : {N : Type 0} {Edge : N → Bool → N → Type 0} (P : N → Type 0) → ((p q : N) (b : Bool) → Edge p b q → P p → P q) → {p q : N} {b : Bool} → Walk Edge p q b → P p → P q
kept {N} {Edge} P keeps (stays p) h = h
kept {N} {Edge} P keeps (goes p m q d f e v) h = kept P keeps v (keeps p m d e h)

-- a walk along edges, where a function leads each edge to an edge
pub mapped : {N M : Type 0} {Edge : N → Bool → N → Type 0} {Other : M → Bool → M → Type 0} (f : N → M) → ((p q : N) (b : Bool) → Edge p b q → Other (f p) b (f q)) → {p q : N} {b : Bool} → Walk Edge p q b → Walk Other (f p) (f q) b
mapped {N} {M} {Edge} {Other} g leads (stays p) = stays (g p)
mapped {N} {M} {Edge} {Other} g leads (goes p m q d f e v) =
    goes (g p) (g m) (g q) d f (leads p m d e) (mapped g leads v)
