-- States in which no variable is universal, no region has a constraint, and the bindings with the given constraints are sorted; and steps that
-- ask sorted lists.
use Rattle.std.specs.Prelude.{◌≡◌, ℕ, zero, suc, Bool, true, false, min, if◌then◌else◌, Option, Some, None, List, [], ◌∷◌, ◌++◌, filter, map, replicate, slice_get, slice_set}
use Rattle.std.specs.List.{flat_map}
use Rattle.std.proofs.Common.{refl, sym, inl}
use Rattle.std.proofs.lemmas.Bool.{true≢false}
use Rattle.std.proofs.lemmas.List.Elements.{Contains-append_left}
use Rattle.scasp_list.specs.Each.{Each}
use Rattle.scasp_list.proofs.EachLemmas.{Each-append, Each-at}
use Rattle.scasp_search_rules.specs.declared.states.covers.Cover.{Cover}
use Rattle.scasp_search_rules.specs.declared.states.state.Kind.{Kind}
use Rattle.scasp_search_rules.specs.declared.states.state.Made.{Made}
use Rattle.scasp_search_rules.specs.declared.states.state.State.{State}
use Rattle.scasp_search_rules.specs.Successors.Equations.{bound_if}
use Rattle.scasp_search_rules.specs.Successors.Falls.{EachState}
use Rattle.scasp_search_rules.specs.Successors.Regions.{asked_with, equation, with_given}
use Rattle.scasp_search_rules.specs.Successors.Steps.{Step, each, fails, followed, gives, goes}
use Rattle.scasp_search_rules.specs.Successors.Variables.{bind, binding, depth_of, is_empty, is_kind_existential, is_kind_universal, is_universal, lower, lowered, made_or, universals_of, with_binding, with_new}
use Rattle.scasp_syntax.specs.Tm.{Tm}
use Rattle.scasp_syntax.specs.declared.con.Con.{Con}
use Rattle.scasp_unify.specs.Sorted.{Sorted}
use Rattle.scasp_unify.specs.Unification.{term_vars}
use Rattle.scasp_unify.specs.declared.bindings.Binding.{Binding}
use Rattle.scasp_hint.specs.Satisfying.{sat}
use Rattle.scasp_law_first_event.proofs.EachStates.{each_followed, each_map, each_only_if, each_weaker}
use Rattle.scasp_law_no_circle.proofs.Tasks.{NoRow}
use Rattle.scasp_law_sorted.proofs.Lists.{sorted-bound, sorted-one}

-- ---- kinds

abbrev pub Tame : Made → Type 0
Tame m = is_kind_universal m.kind ≡ false

pub tame-at : (made : List Made) → Each Tame made → (x : ℕ) → is_kind_universal (made_or (slice_get made x)).kind ≡ false
tame-at made h x = by (slice_get made x) refl
  where
    by : (o : Option Made) → slice_get made x ≡ o → is_kind_universal (made_or o).kind ≡ false
    by None e = refl
    by (Some m) e = Each-at Tame made x m h (sym e)

tame-copies : (n : ℕ) (m : Made) → Tame m → Each Tame (replicate n m)
tame-copies zero m h = tt
tame-copies (suc n) m h = (h, tame-copies n m h)

tame-set : (made : List Made) (x : ℕ) (m : Made) → Tame m → Each Tame made → Each Tame (slice_set made x m)
tame-set [] x m t h = tt
tame-set (y ∷ ys) zero m t h = (t, h.1)
tame-set (y ∷ ys) (suc x) m t h = (h.0, tame-set ys x m t h.1)

tame-lower : (d : ℕ) (made : List Made) → Each Tame made → (x : ℕ) → Tame (lower d (slice_get made x))
tame-lower d made h x = by (slice_get made x) refl
  where
    kept : (m : Made) → Tame m → (b : Bool) → Tame (if b then record { kind = m.kind; depth = min m.depth d } else m)
    kept m t true = t
    kept m t false = t

    by : (o : Option Made) → slice_get made x ≡ o → Tame (lower d o)
    by None e = refl
    by (Some m) e = kept m (Each-at Tame made x m h (sym e)) (is_kind_existential m.kind)

tame-lowered : (d : ℕ) (xs : List ℕ) (made : List Made) → Each Tame made → Each Tame (lowered d xs made)
tame-lowered d [] made h = h
tame-lowered d (x ∷ xs) made h = tame-lowered d xs (slice_set made x (lower d (slice_get made x))) (tame-set made x (lower d (slice_get made x)) (tame-lower d made h x) h)

none-left : (f : ℕ → Bool) → ((x : ℕ) → f x ≡ false) → (xs : List ℕ) → is_empty (filter f xs) ≡ true
none-left f h [] = refl
none-left f h (x ∷ xs) = by (f x) (h x) (none-left f h xs)
  where
    by : (b : Bool) → b ≡ false → is_empty (filter f xs) ≡ true → is_empty (if b then x ∷ filter f xs else filter f xs) ≡ true
    by true e rest = absurd (true≢false e)
    by false e rest = rest

-- ---- states

-- nothing is said in the cover's case, and no other side waits
abbrev pub Bare : Cover → Type 0
Bare c = (c.region ≡ []) × (c.waiting ≡ [])

pub record SettledAt (bs : List Binding) (gs : List Con) (cs : List Cover) : Type 0 where
  pub sorted : Sorted (map equation bs ++ gs)
  pub bare : Each Bare cs

abbrev pub Settled : State → Type 0
Settled s = SettledAt s.bound s.given s.covers

pub record EvenAt (made : List Made) (bs : List Binding) (gs : List Con) (cs : List Cover) : Type 0 where
  pub kinds : Each Tame made
  pub settled : SettledAt bs gs cs

abbrev pub Even : State → Type 0
Even s = EvenAt s.made s.bound s.given s.covers

-- nothing universal is read
pub quiet : (s : State) → Even s → (c : Con) → is_empty (universals_of s c) ≡ true
quiet s e c = none-left (is_universal s) (tame-at s.made e.kinds) _

pub even-new : (s : State) (kind : Kind) (d n : ℕ) → is_kind_universal kind ≡ false → Even s → Even (with_new s kind d n)
even-new s kind d n k e = record { kinds = Each-append Tame s.made (replicate n (record { kind = kind; depth = d })) e.kinds (tame-copies n (record { kind = kind; depth = d }) k); settled = e.settled }

settled-binding : (s : State) (b : Binding) → Settled s → SettledAt (s.bound ++ b ∷ []) s.given s.covers
settled-binding s b e = record {
  sorted = sorted-bound s.bound (s.bound ++ b ∷ []) s.given s.given (λ c i. Contains-append_left s.bound (b ∷ []) c i) (λ c i. i) (λ d i. inl i) e.sorted;
  bare = e.bare;
}

pub even-binding : (s : State) (x : ℕ) (t : Tm) → Even s → Even (with_binding s x t)
even-binding s x t e = record { kinds = e.kinds; settled = settled-binding s (binding x t) e.settled }

pub even-bind : (s : State) (x : ℕ) (t : Tm) → Even s → Even (bind s x t)
even-bind s x t e = record { kinds = tame-lowered (depth_of s x) (term_vars t) s.made e.kinds; settled = settled-binding s (binding x t) e.settled }

pub even-given : (s : State) (c : Con) → NoRow c → Even s → Even (with_given s c)
even-given s c n e = record { kinds = e.kinds; settled = record { sorted = sorted-one s.bound s.given c n e.settled.sorted; bare = e.settled.bare } }

-- ---- steps

-- each list that is asked is sorted, and P holds of each state
pub record Asks (P : State → Type 0) (t : Step) : Type 0 where
  pub asked : Each Sorted t.asked
  pub states : EachState P t.states

pub asks-goes : (P : State → Type 0) (s : State) → P s → Asks P (goes s)
asks-goes P s h = record { asked = tt; states = (h, tt) }

pub asks-fails : (P : State → Type 0) → Asks P fails
asks-fails P = record { asked = tt; states = tt }

pub asks-gives : (P : State → Type 0) (ss : List State) → EachState P ss → Asks P (gives ss)
asks-gives P ss h = record { asked = tt; states = h }

pub asks-each : (P Q : State → Type 0) (f : State → State) (t : Step) → ((s : State) → P s → Q (f s)) → Asks P t → Asks Q (each f t)
asks-each P Q f t k h = record { asked = h.asked; states = each_map P Q f t.states h.states k }

pub asks-weaker : (P Q : State → Type 0) (t : Step) → ((s : State) → P s → Q s) → Asks P t → Asks Q t
asks-weaker P Q t k h = record { asked = h.asked; states = each_weaker P Q t.states k h.states }

all-asked : (P Q : State → Type 0) (f : State → Step) → ((s : State) → P s → Asks Q (f s)) → (ss : List State) → EachState P ss → Each Sorted (flat_map (λ s. (f s).asked) ss)
all-asked P Q f k [] h = tt
all-asked P Q f k (s ∷ ss) h = Each-append Sorted (f s).asked (flat_map (λ s. (f s).asked) ss) (k s h.0).asked (all-asked P Q f k ss h.1)

pub asks-followed : (P Q : State → Type 0) (t : Step) (f : State → Step) → Asks P t → ((s : State) → P s → Asks Q (f s)) → Asks Q (followed t f)
asks-followed P Q t f h k = record {
  asked = Each-append Sorted t.asked (flat_map (λ s. (f s).asked) t.states) h.asked (all-asked P Q f k t.states h.states);
  states = each_followed P Q f t.states h.states (λ s g. (k s g).states);
}

-- a state whose given constraints keep a valuation
pub asks-bound : (s : State) → Even s → Asks Even (bound_if sat s)
asks-bound s e = record { asked = (e.settled.sorted, tt); states = each_only_if Even (sat (asked_with s s.given)) s e }
