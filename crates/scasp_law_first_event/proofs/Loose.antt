-- The kinds of variables in later states.
use Rattle.std.specs.Prelude.{◌≡◌, ℕ, zero, suc, ◌+◌, ◌<◌, ◌≤◌, nat_eq, Bool, true, false, ◌||◌, min, if◌then◌else◌, Option, Some, None, List, [], ◌∷◌, ◌++◌, length, replicate, slice_get, slice_set}
use Rattle.std.proofs.Common.{refl, arith, ap, subst, ◌∙◌}
use Rattle.std.proofs.lemmas.Bool.{eqb-true}
use Rattle.std.proofs.lemmas.List.{length-set}
use Rattle.scasp_search_rules.specs.declared.states.state.Kind.TheVariants.{Universal}
use Rattle.scasp_search_rules.specs.declared.states.state.Made.{Made}
use Rattle.scasp_search_rules.specs.Successors.Cases.{universals_at}
use Rattle.scasp_search_rules.specs.Successors.Reading.{among}
use Rattle.scasp_search_rules.specs.Successors.Variables.{made_or, is_kind_existential, is_kind_matched, lower, lowered}
use Rattle.scasp_law_first_event.proofs.Firmness.{loose_in}

-- ---- lists of variables

pub get-left : (xs ys : List Made) (z : ℕ) → z < length xs → slice_get (xs ++ ys) z ≡ slice_get xs z
get-left [] ys z l = absurd (omega (arith, l))
get-left (x ∷ xs) ys zero l = refl
get-left (x ∷ xs) ys (suc z) l = get-left xs ys z (omega (arith, l))

pub get-new : (xs : List Made) (n : ℕ) (m : Made) (z : ℕ) → length xs ≤ z → z < length xs + n → slice_get (xs ++ replicate n m) z ≡ Some m
get-new [] zero m z l k = absurd (omega (arith, k))
get-new [] (suc n) m zero l k = refl
get-new [] (suc n) m (suc z) l k = get-new [] n m z (omega arith) (omega (arith, k))
get-new (x ∷ xs) n m zero l k = absurd (omega (arith, l))
get-new (x ∷ xs) n m (suc z) l k = get-new xs n m z (omega (arith, l)) (omega (arith, k))

pub get-set : (xs : List Made) (x : ℕ) (m : Made) → x < length xs → slice_get (slice_set xs x m) x ≡ Some m
get-set [] x m l = absurd (omega (arith, l))
get-set (y ∷ ys) zero m l = refl
get-set (y ∷ ys) (suc x) m l = get-set ys x m (omega (arith, l))

-- ---- kinds

lower-kind : (d : ℕ) (o : Option Made) → is_kind_matched (lower d o).kind ≡ is_kind_matched (made_or o).kind
lower-kind d None = refl
lower-kind d (Some m) = by (is_kind_existential m.kind)
  where
    by : (b : Bool) → is_kind_matched (if b then record { kind = m.kind; depth = min m.depth d } else m).kind ≡ is_kind_matched m.kind
    by true = refl
    by false = refl

loose-set : (xs : List Made) (x z : ℕ) (m : Made) → is_kind_matched m.kind ≡ loose_in xs x → loose_in (slice_set xs x m) z ≡ loose_in xs z
loose-set [] x z m e = refl
loose-set (y ∷ ys) zero zero m e = e
loose-set (y ∷ ys) zero (suc z) m e = refl
loose-set (y ∷ ys) (suc x) zero m e = refl
loose-set (y ∷ ys) (suc x) (suc z) m e = loose-set ys x z m e

pub lowered-loose : (d : ℕ) (xs : List ℕ) (made : List Made) (z : ℕ) → loose_in (lowered d xs made) z ≡ loose_in made z
lowered-loose d [] made z = refl
lowered-loose d (x ∷ xs) made z =
    let m : Made = lower d (slice_get made x) in
    lowered-loose d xs (slice_set made x m) z ∙ loose-set made x z m (lower-kind d (slice_get made x))

pub loose-left : (xs ys : List Made) (z : ℕ) → z < length xs → loose_in (xs ++ ys) z ≡ loose_in xs z
loose-left xs ys z l = ap (λ (o : Option Made). is_kind_matched (made_or o).kind) (get-left xs ys z l)

pub loose-new : (xs : List Made) (n : ℕ) (m : Made) (z : ℕ) → length xs ≤ z → z < length xs + n → loose_in (xs ++ replicate n m) z ≡ is_kind_matched m.kind
loose-new xs n m z l k = ap (λ (o : Option Made). is_kind_matched (made_or o).kind) (get-new xs n m z l k)

-- a universal one is of no head
abbrev made_universal : ℕ → Made
made_universal d = record { kind = Universal; depth = d }

set-stays : (xs : List Made) (x z d : ℕ) → loose_in xs z ≡ false → loose_in (slice_set xs x (made_universal d)) z ≡ false
set-stays [] x z d e = refl
set-stays (y ∷ ys) zero zero d e = refl
set-stays (y ∷ ys) zero (suc z) d e = e
set-stays (y ∷ ys) (suc x) zero d e = e
set-stays (y ∷ ys) (suc x) (suc z) d e = set-stays ys x z d e

pub universals-stay : (d : ℕ) (xs : List ℕ) (made : List Made) (z : ℕ) → loose_in made z ≡ false → loose_in (universals_at d xs made) z ≡ false
universals-stay d [] made z e = e
universals-stay d (x ∷ xs) made z e = universals-stay d xs (slice_set made x (made_universal d)) z (set-stays made x z d e)

pub universals-length : (d : ℕ) (xs : List ℕ) (made : List Made) → length (universals_at d xs made) ≡ length made
universals-length d [] made = refl
universals-length d (x ∷ xs) made =
    let rest = universals-length d xs (slice_set made x (made_universal d)) in
    let here = length-set {A = Made} made x (made_universal d) in omega (arith, rest, here)

pub universals-are : (d : ℕ) (xs : List ℕ) (made : List Made) (z : ℕ) → among z xs ≡ true → z < length made → loose_in (universals_at d xs made) z ≡ false
universals-are d [] made z e l = absurd (cc e)
universals-are d (x ∷ xs) made z e l =
    by (nat_eq z x) refl
    (λ g. universals-are d xs (slice_set made x (made_universal d)) z g (let same = length-set {A = Made} made x (made_universal d) in omega (arith, l, same))) e
  where
    here : z ≡ x → loose_in (slice_set made x (made_universal d)) z ≡ false
    here same =
        ap (λ (y : ℕ). loose_in (slice_set made x (made_universal d)) y) same
        ∙ ap (λ (o : Option Made). is_kind_matched (made_or o).kind) (get-set made x (made_universal d) (subst (λ (y : ℕ). y < length made) same l))

    by : (b : Bool) → nat_eq z x ≡ b → (among z xs ≡ true → loose_in (universals_at d xs (slice_set made x (made_universal d))) z ≡ false) → (b || among z xs) ≡ true
        → loose_in (universals_at d xs (slice_set made x (made_universal d))) z ≡ false
    by true f rest g = universals-stay d xs (slice_set made x (made_universal d)) z (here (eqb-true z x f))
    by false f rest g = rest g
