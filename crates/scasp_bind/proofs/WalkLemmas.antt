-- Walks with a list of terms still to be seen.
use Rattle.std.proofs.Common.{◌≡◌, ℕ, ◌+◌, ◌<◌, Bool, true, ◌&&◌, List, [], ◌∷◌, ◌++◌, refl, sym, ap, ◌∙◌, arith}
use Rattle.std.specs.Borrow.{Bor}
use Rattle.std.specs.List.{list_all, sum_by}
use Rattle.std.proofs.Math.Bool.{and-true}
use Rattle.std.proofs.lemmas.Bool.{and_parts, lt-ltb}
use Rattle.std.proofs.lemmas.List.{map-append}
use Rattle.std.proofs.lemmas.List.Folds.{list_all-append}
use Rattle.std.proofs.lemmas.List.Sums.{sum_by-append}
use Rattle.scasp_syntax.specs.Tm.{Tm, Tms, var, num, app, nil, cons, items, weight, weight_s}
use Rattle.scasp_syntax.specs.Values.{Sub, under, all_under}
use Rattle.scasp_syntax.specs.View.{tm_of}
use Rattle.scasp_syntax.specs.WellFormed.{is_below, are_below}
use Rattle.scasp_syntax.specs.declared.term.Term.{Term}
use Rattle.scasp_bind.specs.Inside.Heads.{terms_of}

pub terms_of-push : (ts : List (Bor Term)) (t : Bor Term) → terms_of (ts ++ t ∷ []) ≡ terms_of ts ++ tm_of t.now ∷ []
terms_of-push ts t = map-append (λ t. tm_of t.now) ts (t ∷ [])

-- ---- the terms of a list of arguments

pub below-items : (n : ℕ) (ts : Tms) → list_all (λ t. is_below n t) (items ts) ≡ are_below n ts
below-items n nil = refl
below-items n (cons t ts) = ap (λ b. is_below n t && b) (below-items n ts)

-- ---- one more at the end

pub all-pushed : (p : Tm → Bool) (ts : List Tm) (t : Tm) → list_all p (ts ++ t ∷ []) ≡ true → (list_all p ts ≡ true) × (p t ≡ true)
all-pushed p ts t e =
    let q = and_parts (list_all p ts) (list_all p (t ∷ [])) (sym (list_all-append p ts (t ∷ [])) ∙ e) in
    (q.0, (and_parts (p t) true q.1).0)

pub work-pushed : (f : Tm → ℕ) (ts : List Tm) (t : Tm) → sum_by f (ts ++ t ∷ []) ≡ sum_by f ts + f t
work-pushed f ts t = sum_by-append f ts (t ∷ []) ∙ (omega arith)

pub work-items : (s : Sub) (ts : Tms) → sum_by (λ t. weight (under s t)) (items ts) ≡ weight_s (all_under s ts)
work-items s nil = refl
work-items s (cons t ts) = sum_by-append (λ t. weight (under s t)) (t ∷ []) (items ts) ∙ (omega (arith, work-items s ts))

-- ---- terms as they are given

abbrev pub below : ℕ → List Tm → Bool
below n ts = list_all (λ t. is_below n t) ts

pub known_app : (n f : ℕ) (before last next : List Tm) (t : Tm) (args : Tms) (z : Bool) → last ≡ before ++ t ∷ [] → next ≡ before ++ items args → t ≡ app f args → below n last ≡ z → below n next ≡ z
known_app n f before last next t args z e g a k =
    ap (below n) g ∙ list_all-append (λ t. is_below n t) before (items args)
    ∙ ap (λ b. below n before && b) (below-items n args ∙ ap (is_below n) (sym a) ∙ sym (and-true (is_below n t)))
    ∙ sym (list_all-append (λ t. is_below n t) before (t ∷ [])) ∙ ap (below n) (sym e) ∙ k

-- a variable that is one of the first n
pub known_var : (n x : ℕ) (before last : List Tm) (t : Tm) (z : Bool) → last ≡ before ++ t ∷ [] → t ≡ var x → x < n → below n last ≡ z → below n before ≡ z
known_var n x before last t z e a h k =
    let here : is_below n t ≡ true = ap (is_below n) a ∙ lt-ltb x n h in
    sym (and-true (below n before)) ∙ ap (λ b. below n before && b) (sym (and-true (is_below n t) ∙ here))
    ∙ sym (list_all-append (λ t. is_below n t) before (t ∷ [])) ∙ ap (below n) (sym e) ∙ k

pub work-plain : (ts : Tms) → sum_by weight (items ts) ≡ weight_s ts
work-plain nil = refl
work-plain (cons t ts) = sum_by-append weight (t ∷ []) (items ts) ∙ (omega (arith, work-plain ts))

pub known_lighter : (f : ℕ) (before last next : List Tm) (t : Tm) (args : Tms) → last ≡ before ++ t ∷ [] → next ≡ before ++ items args → t ≡ app f args → sum_by weight next < sum_by weight last
known_lighter f before last next t args e g a =
    omega (arith, ap (sum_by weight) e, work-pushed weight before t, ap (sum_by weight) g, sum_by-append weight before (items args), work-plain args, ap weight a)

pub weighs : (t : Tm) → 0 < weight t
weighs (var x) = omega arith
weighs (num q) = omega arith
weighs (app f ts) = omega arith

pub popped_lighter : (before last : List Tm) (t : Tm) → last ≡ before ++ t ∷ [] → sum_by weight before < sum_by weight last
popped_lighter before last t e = omega (arith, ap (sum_by weight) e, work-pushed weight before t, weighs t)
