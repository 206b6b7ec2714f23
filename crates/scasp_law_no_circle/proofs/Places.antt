-- The entries of variables as they are lowered, and which cover owns a universal variable.
use Rattle.std.specs.Prelude.{◌≡◌, ◌≢◌, ◌⊎◌, ℕ, zero, suc, ◌+◌, ◌<◌, ◌≤◌, nat_eq, Bool, true, false, ◌&&◌, ◌||◌, min, if◌then◌else◌, Some, List, [], ◌∷◌, ◌++◌, length, replicate, slice_get, slice_set, ⊤}
use Rattle.std.specs.List.{list_any}
use Rattle.std.proofs.Common.{refl, arith, ap, sym, subst, ◌∙◌, inl, inr}
use Rattle.std.proofs.lemmas.Bool.{and_parts, and_from, or_left, or_right, or_parts, or_cases, eqb-true, eqb-false, eq-eqb, true≢false}
use Rattle.std.proofs.lemmas.List.{length-set}
use Rattle.std.proofs.lemmas.List.Folds.{list_any-append}
use Rattle.scasp_list.specs.Each.{Each}
use Rattle.scasp_list.proofs.EachLemmas.{Each-map}
use Rattle.scasp_search_rules.specs.declared.states.covers.Cover.{Cover}
use Rattle.scasp_search_rules.specs.declared.states.state.Kind.TheVariants.{Universal}
use Rattle.scasp_search_rules.specs.declared.states.state.Made.{Made}
use Rattle.scasp_search_rules.specs.Successors.Cases.{universals_at}
use Rattle.scasp_search_rules.specs.Successors.Reading.{among}
use Rattle.scasp_search_rules.specs.Successors.Variables.{made_or, is_kind_existential, lower, lowered}
use Rattle.scasp_syntax.specs.Tm.{Tm, Tms, var, num, app, nil, cons}
use Rattle.scasp_unify.specs.Parts.{occurs, occurs_among}
use Rattle.scasp_unify.specs.Unification.{term_vars, terms_vars}
use Rattle.scasp_law_first_event.proofs.Loose.{get-left, get-new, get-set}

-- ---- entries

abbrev pub entry : List Made → ℕ → Made
entry made z = made_or (slice_get made z)

-- the same kind, and for an existential variable maybe less depth
pub record Lower (m o : Made) : Type 0 where
  pub kind : o.kind ≡ m.kind
  pub depth : o.depth ≤ m.depth
  pub fixed : is_kind_existential m.kind ≡ false → o ≡ m

pub lower-same : (m o : Made) → o ≡ m → Lower m o
lower-same m o e = record { kind = ap (λ (a : Made). a.kind) e; depth = (let d : o.depth ≡ m.depth = ap (λ (a : Made). a.depth) e in omega (arith, d)); fixed = λ f. e }

pub lower-then : (m o r : Made) → Lower m o → Lower o r → Lower m r
lower-then m o r a b = record {
  kind = b.kind ∙ a.kind;
  depth = (let d = a.depth in let e = b.depth in omega (arith, d, e));
  fixed = λ f. b.fixed (ap is_kind_existential a.kind ∙ f) ∙ a.fixed f;
}

one-lowered : (d : ℕ) (m : Made) → Lower m (lower d (Some m))
one-lowered d m = by (is_kind_existential m.kind) refl
  where
    by : (b : Bool) → is_kind_existential m.kind ≡ b → Lower m (if b then record { kind = m.kind; depth = min m.depth d } else m)
    by true e = record { kind = refl; depth = omega arith; fixed = λ f. absurd (true≢false (sym e ∙ f)) }
    by false e = lower-same m m refl

set-lowers : (d : ℕ) (xs : List Made) (x z : ℕ) → Lower (entry xs z) (entry (slice_set xs x (lower d (slice_get xs x))) z)
set-lowers d [] x z = lower-same (entry [] z) (entry [] z) refl
set-lowers d (y ∷ ys) zero zero = one-lowered d y
set-lowers d (y ∷ ys) zero (suc z) = lower-same (entry ys z) (entry ys z) refl
set-lowers d (y ∷ ys) (suc x) zero = lower-same y y refl
set-lowers d (y ∷ ys) (suc x) (suc z) = set-lowers d ys x z

pub lowered-lowers : (d : ℕ) (xs : List ℕ) (made : List Made) (z : ℕ) → Lower (entry made z) (entry (lowered d xs made) z)
lowered-lowers d [] made z = lower-same (entry made z) (entry made z) refl
lowered-lowers d (x ∷ xs) made z =
    let next : List Made = slice_set made x (lower d (slice_get made x)) in
    lower-then (entry made z) (entry next z) (entry (lowered d xs next) z) (set-lowers d made x z) (lowered-lowers d xs next z)

one-small : (d : ℕ) (m : Made) → is_kind_existential m.kind ≡ true → (lower d (Some m)).depth ≤ d
one-small d m e = by (is_kind_existential m.kind) e
  where
    by : (b : Bool) → b ≡ true → (if b then record { kind = m.kind; depth = min m.depth d } else m).depth ≤ d
    by true f = omega arith
    by false f = absurd (true≢false (sym f))

set-small : (d : ℕ) (xs : List Made) (x : ℕ) → x < length xs → is_kind_existential (entry xs x).kind ≡ true → (entry (slice_set xs x (lower d (slice_get xs x))) x).depth ≤ d
set-small d [] x l e = absurd (omega (arith, l))
set-small d (y ∷ ys) zero l e = one-small d y e
set-small d (y ∷ ys) (suc x) l e = set-small d ys x (omega (arith, l)) e

-- an existential variable that was lowered
pub lowered-small : (d : ℕ) (xs : List ℕ) (made : List Made) (z : ℕ) → among z xs ≡ true → z < length made → is_kind_existential (entry made z).kind ≡ true → (entry (lowered d xs made) z).depth ≤ d
lowered-small d [] made z i l e = absurd (true≢false (sym i))
lowered-small d (x ∷ xs) made z i l e = by (nat_eq z x) refl (λ j. lowered-small d xs next z j less (ap is_kind_existential (set-lowers d made x z).kind ∙ e)) i
  where
    next : List Made
    next = slice_set made x (lower d (slice_get made x))

    less : z < length (slice_set made x (lower d (slice_get made x)))
    less = let same = length-set {A = Made} made x (lower d (slice_get made x)) in omega (arith, l, same)

    first : z ≡ x → (entry (slice_set made x (lower d (slice_get made x))) z).depth ≤ d
    first same =
        subst (λ (y : ℕ). (entry (slice_set made x (lower d (slice_get made x))) y).depth ≤ d) (sym same)
        (set-small d made x (subst (λ (y : ℕ). y < length made) same l) (subst (λ (y : ℕ). is_kind_existential (entry made y).kind ≡ true) same e))

    by : (b : Bool) → nat_eq z x ≡ b → (among z xs ≡ true → (entry (lowered d xs (slice_set made x (lower d (slice_get made x)))) z).depth ≤ d) → (b || among z xs) ≡ true
        → (entry (lowered d xs (slice_set made x (lower d (slice_get made x)))) z).depth ≤ d
    by true f rest g = let a = first (eqb-true z x f) in let b = (lowered-lowers d xs next z).depth in omega (arith, a, b)
    by false f rest g = rest g

set-other : (xs : List Made) (x z : ℕ) (m : Made) → z ≢ x → entry (slice_set xs x m) z ≡ entry xs z
set-other [] x z m n = refl
set-other (y ∷ ys) zero zero m n = absurd (n refl)
set-other (y ∷ ys) zero (suc z) m n = refl
set-other (y ∷ ys) (suc x) zero m n = refl
set-other (y ∷ ys) (suc x) (suc z) m n = set-other ys x z m (λ e. n (ap suc e))

-- one that was not
pub lowered-other : (d : ℕ) (xs : List ℕ) (made : List Made) (z : ℕ) → among z xs ≡ false → entry (lowered d xs made) z ≡ entry made z
lowered-other d [] made z e = refl
lowered-other d (x ∷ xs) made z e =
    let q = or_parts (nat_eq z x) (among z xs) e in
    lowered-other d xs (slice_set made x (lower d (slice_get made x))) z q.1 ∙ set-other made x z (lower d (slice_get made x)) (eqb-false z x q.0)

-- ---- new variables, and those that become universal

pub entry-left : (made more : List Made) (z : ℕ) → z < length made → entry (made ++ more) z ≡ entry made z
entry-left made more z l = ap made_or (get-left made more z l)

pub entry-new : (made : List Made) (n : ℕ) (m : Made) (z : ℕ) → length made ≤ z → z < length made + n → entry (made ++ replicate n m) z ≡ m
entry-new made n m z l k = ap made_or (get-new made n m z l k)

abbrev pub universal_of : ℕ → Made
universal_of d = record { kind = Universal; depth = d }

pub universals-other : (d : ℕ) (xs : List ℕ) (made : List Made) (z : ℕ) → among z xs ≡ false → entry (universals_at d xs made) z ≡ entry made z
universals-other d [] made z e = refl
universals-other d (x ∷ xs) made z e =
    let q = or_parts (nat_eq z x) (among z xs) e in
    universals-other d xs (slice_set made x (universal_of d)) z q.1 ∙ set-other made x z (universal_of d) (eqb-false z x q.0)

universals-stay : (d : ℕ) (xs : List ℕ) (made : List Made) (z : ℕ) → z < length made → entry made z ≡ universal_of d → entry (universals_at d xs made) z ≡ universal_of d
universals-stay d [] made z l e = e
universals-stay d (x ∷ xs) made z l e = universals-stay d xs (slice_set made x (universal_of d)) z less (by (nat_eq z x) refl)
  where
    less : z < length (slice_set made x (universal_of d))
    less = let same = length-set {A = Made} made x (universal_of d) in omega (arith, l, same)

    by : (b : Bool) → nat_eq z x ≡ b → entry (slice_set made x (universal_of d)) z ≡ universal_of d
    by true f =
        let same : z ≡ x = eqb-true z x f in
        ap (λ (y : ℕ). entry (slice_set made x (universal_of d)) y) same ∙ ap made_or (get-set made x (universal_of d) (subst (λ (y : ℕ). y < length made) same l))
    by false f = set-other made x z (universal_of d) (eqb-false z x f) ∙ e

pub universals-entry : (d : ℕ) (xs : List ℕ) (made : List Made) (z : ℕ) → among z xs ≡ true → z < length made → entry (universals_at d xs made) z ≡ universal_of d
universals-entry d [] made z i l = absurd (true≢false (sym i))
universals-entry d (x ∷ xs) made z i l = by (nat_eq z x) refl (λ j. universals-entry d xs (slice_set made x (universal_of d)) z j less) i
  where
    less : z < length (slice_set made x (universal_of d))
    less = let same = length-set {A = Made} made x (universal_of d) in omega (arith, l, same)

    by : (b : Bool) → nat_eq z x ≡ b → (among z xs ≡ true → entry (universals_at d xs (slice_set made x (universal_of d))) z ≡ universal_of d) → (b || among z xs) ≡ true
        → entry (universals_at d xs (slice_set made x (universal_of d))) z ≡ universal_of d
    by true f rest g =
        let same : z ≡ x = eqb-true z x f in
        universals-stay d xs (slice_set made x (universal_of d)) z less
        (ap (λ (y : ℕ). entry (slice_set made x (universal_of d)) y) same ∙ ap made_or (get-set made x (universal_of d) (subst (λ (y : ℕ). y < length made) same l)))
    by false f rest g = rest g

-- ---- the variables of a term as a list

pub among-append : (z : ℕ) (xs ys : List ℕ) → among z (xs ++ ys) ≡ (among z xs || among z ys)
among-append z xs ys = list_any-append (nat_eq z) xs ys

mutual
  pub vars-occur : (z : ℕ) (t : Tm) → among z (term_vars t) ≡ occurs z t
  vars-occur z (var x) = by (nat_eq z x)
    where
      by : (b : Bool) → (b || false) ≡ b
      by true = refl
      by false = refl
  vars-occur z (num q) = refl
  vars-occur z (app f ts) = all-vars-occur z ts

  pub all-vars-occur : (z : ℕ) (ts : Tms) → among z (terms_vars ts) ≡ occurs_among z ts
  all-vars-occur z nil = refl
  all-vars-occur z (cons t ts) = among-append z (term_vars t) (terms_vars ts) ∙ ap (λ (b : Bool). b || among z (terms_vars ts)) (vars-occur z t) ∙ ap (λ (b : Bool). occurs z t || b) (all-vars-occur z ts)

-- ---- which cover owns a variable

-- a cover of this depth has the variable among its universal ones
abbrev pub owns : List Cover → ℕ → ℕ → Bool
owns cs d z = list_any (λ c. nat_eq c.depth d && among z c.universals) cs

-- the depth of each cover is its place
abbrev pub Placed : List Cover → Type 0
Placed [] = ⊤
Placed (c ∷ cs) = (c.depth ≡ suc (length cs)) × Placed cs

-- a cover of that depth, and no other, is in place c
pub record Place (cs : List Cover) (c : Cover) : Type 0 where
  pub low : 0 < c.depth
  pub high : c.depth ≤ length cs
  pub owner : (z : ℕ) → owns cs c.depth z ≡ true → among z c.universals ≡ true
  pub owned : (z : ℕ) → among z c.universals ≡ true → owns cs c.depth z ≡ true

pub owns-low : (cs : List Cover) → Placed cs → (d z : ℕ) → owns cs d z ≡ true → (0 < d) × (d ≤ length cs)
owns-low [] h d z o = absurd (true≢false (sym o))
owns-low (c ∷ cs) h d z o = by (or_cases (nat_eq c.depth d && among z c.universals) (owns cs d z) o) (λ e. owns-low cs h.1 d z e)
  where
    depth : c.depth ≡ suc (length cs)
    depth = h.0

    by : ((nat_eq c.depth d && among z c.universals) ≡ true) ⊎ (owns cs d z ≡ true) → (owns cs d z ≡ true → (0 < d) × (d ≤ length cs)) → (0 < d) × (d ≤ length (c ∷ cs))
    by (inl e) rest = let same : c.depth ≡ d = eqb-true c.depth d (and_parts (nat_eq c.depth d) (among z c.universals) e).0 in (omega (arith, depth, same), omega (arith, depth, same))
    by (inr e) rest = let k = rest e in let l : d ≤ length cs = k.1 in (k.0, omega (arith, l))

pub places : (cs : List Cover) → Placed cs → Each (Place cs) cs
places [] h = tt
places (c ∷ cs) h = (here, Each-map (Place cs) (Place (c ∷ cs)) later cs (places cs h.1))
  where
    depth : c.depth ≡ suc (length cs)
    depth = h.0

    here : Place (c ∷ cs) c
    here = record {
      low = omega (arith, depth);
      high = omega (arith, depth);
      owner = (λ z o. first z (or_cases (nat_eq c.depth c.depth && among z c.universals) (owns cs c.depth z) o));
      owned = (λ z i. or_left (nat_eq c.depth c.depth && among z c.universals) (owns cs c.depth z) (and_from (nat_eq c.depth c.depth) (among z c.universals) (eq-eqb c.depth c.depth refl) i));
    }
      where
        first : (z : ℕ) → ((nat_eq c.depth c.depth && among z c.universals) ≡ true) ⊎ (owns cs c.depth z ≡ true) → among z c.universals ≡ true
        first z (inl e) = (and_parts (nat_eq c.depth c.depth) (among z c.universals) e).1
        first z (inr e) = let k = (owns-low cs h.1 c.depth z e).1 in absurd (omega (arith, depth, k))

    later : (a : Cover) → Place cs a → Place (c ∷ cs) a
    later a k = record {
      low = k.low;
      high = (let l = k.high in omega (arith, l));
      owner = (λ z o. first z (or_cases (nat_eq c.depth a.depth && among z c.universals) (owns cs a.depth z) o));
      owned = (λ z i. or_right (nat_eq c.depth a.depth && among z c.universals) (owns cs a.depth z) (k.owned z i));
    }
      where
        first : (z : ℕ) → ((nat_eq c.depth a.depth && among z c.universals) ≡ true) ⊎ (owns cs a.depth z ≡ true) → among z a.universals ≡ true
        first z (inl e) =
            let same : c.depth ≡ a.depth = eqb-true c.depth a.depth (and_parts (nat_eq c.depth a.depth) (among z c.universals) e).0 in
            let l = k.high in absurd (omega (arith, depth, same, l))
        first z (inr e) = k.owner z e

-- the innermost cover owns no other depth
pub owns-inner : (c : Cover) (cs : List Cover) → Placed (c ∷ cs) → (d z : ℕ) → d ≤ length cs → owns (c ∷ cs) d z ≡ true → owns cs d z ≡ true
owns-inner c cs h d z l o = by (or_cases (nat_eq c.depth d && among z c.universals) (owns cs d z) o)
  where
    depth : c.depth ≡ suc (length cs)
    depth = h.0

    by : ((nat_eq c.depth d && among z c.universals) ≡ true) ⊎ (owns cs d z ≡ true) → owns cs d z ≡ true
    by (inl e) = let same : c.depth ≡ d = eqb-true c.depth d (and_parts (nat_eq c.depth d) (among z c.universals) e).0 in absurd (omega (arith, depth, same, l))
    by (inr e) = e
