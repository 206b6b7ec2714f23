-- Depths that are lowered at one term after the other.
use Rattle.std.proofs.Common.{◌≡◌, ℕ, ◌<◌, Bool, true, false, ◌&&◌, ◌||◌, nat_eq, List, [], ◌∷◌, ◌++◌, slice_get, refl, sym, ap, ◌∙◌, arith}
use Rattle.std.specs.List.{list_any, list_all, sum_by}
use Rattle.std.proofs.lemmas.List.Folds.{list_all-append, list_any-append}
use Rattle.std.proofs.lemmas.List.Sums.{sum_by-append}
use Rattle.scasp_syntax.specs.Tm.{Tm, Tms, var, num, app, nil, cons, args_of, items, weight}
use Rattle.scasp_syntax.specs.WellFormed.{is_below}
use Rattle.scasp_unify.specs.Parts.{occurs, occurs_among}
use Rattle.scasp_bind.specs.Depths.{Lowers, lowered}
use Rattle.scasp_bind.specs.declared.variable.Variable.{Variable}
use Rattle.scasp_bind.specs.Inside.Lowering.{is_itself}
use Rattle.scasp_bind.proofs.DepthLemmas.{twice}
use Rattle.scasp_bind.proofs.WalkLemmas.{all-pushed, below-items, work-plain, work-pushed}

any-args : (y : ℕ) (ts : Tms) → list_any (occurs y) (items ts) ≡ occurs_among y ts
any-args y nil = refl
any-args y (cons t ts) = ap (λ b. occurs y t || b) (any-args y ts)

-- a variable is the term, or it stands in its arguments
stands : (y : ℕ) (t : Tm) → (is_itself t y || list_any (occurs y) (items (args_of t))) ≡ occurs y t
stands y (var x) = or-false (nat_eq y x)
  where
    or-false : (b : Bool) → (b || false) ≡ b
    or-false true = refl
    or-false false = refl
stands y (num q) = refl
stands y (app f ts) = any-args y ts

turned : (a b c d : Bool) → (a || c) ≡ d → (a || (b || c)) ≡ (b || (d || false))
turned true true c d e = refl
turned true false c d e = ap (λ b. b || false) e
turned false true c d e = refl
turned false false c d e = e ∙ sym (or-false d)
  where
    or-false : (b : Bool) → (b || false) ≡ b
    or-false true = refl
    or-false false = refl

pub lowers_next : (vs ws us : List Variable) (term t : Tm) (before last next : List Tm) (d : ℕ) → last ≡ before ++ t ∷ [] → next ≡ before ++ items (args_of t) → Lowers vs ws (is_itself t) d
    → ((y : ℕ) → lowered (list_any (occurs y) last) d (slice_get vs y) ≡ lowered (occurs y term) d (slice_get us y))
    → (y : ℕ) → lowered (list_any (occurs y) next) d (slice_get ws y) ≡ lowered (occurs y term) d (slice_get us y)
lowers_next vs ws us term t before last next d e g l h = λ y.
    ap (lowered (list_any (occurs y) next) d) (l y)
    ∙ twice (is_itself t y) (list_any (occurs y) next) d (slice_get vs y)
    ∙ ap (λ b. lowered b d (slice_get vs y)) (same y)
    ∙ h y
  where
    same : (y : ℕ) → (is_itself t y || list_any (occurs y) next) ≡ list_any (occurs y) last
    same y =
        ap (λ b. is_itself t y || b) (ap (list_any (occurs y)) g ∙ list_any-append (occurs y) before (items (args_of t)))
        ∙ turned (is_itself t y) (list_any (occurs y) before) (list_any (occurs y) (items (args_of t))) (occurs y t) (stands y t)
        ∙ sym (list_any-append (occurs y) before (t ∷ [])) ∙ ap (list_any (occurs y)) (sym e)

args-below : (n : ℕ) (t : Tm) → is_below n t ≡ true → list_all (λ u. is_below n u) (items (args_of t)) ≡ true
args-below n (var x) h = refl
args-below n (num q) h = refl
args-below n (app f ts) h = below-items n ts ∙ h

pub next_below : (n : ℕ) (t : Tm) (before last next : List Tm) → last ≡ before ++ t ∷ [] → next ≡ before ++ items (args_of t) → list_all (λ u. is_below n u) last ≡ true → list_all (λ u. is_below n u) next ≡ true
next_below n t before last next e g h =
    let p = all-pushed (λ u. is_below n u) before t (ap (list_all (λ u. is_below n u)) (sym e) ∙ h) in
    ap (list_all (λ u. is_below n u)) g ∙ list_all-append (λ u. is_below n u) before (items (args_of t))
    ∙ ap (λ b. b && list_all (λ u. is_below n u) (items (args_of t))) p.0 ∙ args-below n t p.1

pub this_below : (n : ℕ) (t : Tm) (before last : List Tm) → last ≡ before ++ t ∷ [] → list_all (λ u. is_below n u) last ≡ true → is_below n t ≡ true
this_below n t before last e h = (all-pushed (λ u. is_below n u) before t (ap (list_all (λ u. is_below n u)) (sym e) ∙ h)).1

args-lighter : (t : Tm) → sum_by weight (items (args_of t)) < weight t
args-lighter (var x) = omega arith
args-lighter (num q) = omega arith
args-lighter (app f ts) = omega (arith, work-plain ts)

pub next_lighter : (t : Tm) (before last next : List Tm) → last ≡ before ++ t ∷ [] → next ≡ before ++ items (args_of t) → sum_by weight next < sum_by weight last
next_lighter t before last next e g =
    omega (arith, ap (sum_by weight) e, work-pushed weight before t, ap (sum_by weight) g, sum_by-append weight before (items (args_of t)), args-lighter t)
