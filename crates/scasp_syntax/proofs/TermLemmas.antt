-- Lists of terms as plain values.
use Rattle.std.proofs.Common.{◌≡◌, ◌≢◌, Bool, true, false, ◌&&◌, ℕ, zero, suc, ◌-◌, ◌<◌, ◌≤◌, List, [], ◌∷◌, ◌++◌, length, get_or, map, take, slice_get, Option, Some, None, option_copied, is_some, nat_lt, IfSome, Bor, arith, refl, ap, sym, ◌∙◌}
use Rattle.std.proofs.lemmas.Bool.Decides.{nat_tests}
use Rattle.std.proofs.lemmas.List.{take_all}
use Rattle.std.proofs.lemmas.Option.{slice_get_past, slice_get-get_or}
use Rattle.scasp_syntax.specs.Tm.{Tm, Tms, var, nil, cons, items, listed, pushed, weight, weight_s}
use Rattle.scasp_syntax.specs.Values.{Sub, under, all_under, giving}
use Rattle.scasp_syntax.specs.Same.{same_tm, same_tms}
use Rattle.scasp_syntax.specs.View.{tm_of, tms_of}
use Rattle.scasp_syntax.specs.declared.term.Term.{Term}

-- the terms of a list, one by one
pub items-tms_of : (ts : List Term) → items (tms_of ts) ≡ map tm_of ts
items-tms_of [] = refl
items-tms_of (t ∷ ts) = ap (λ us. tm_of t ∷ us) (items-tms_of ts)

pub map-push : {A B : Type 0} (f : A → B) (xs : List A) (x : A) → map f (xs ++ x ∷ []) ≡ map f xs ++ f x ∷ []
map-push f [] x = refl
map-push f (y ∷ ys) x = ap (λ l. f y ∷ l) (map-push f ys x)

-- what a slice's `get` answers
pub slice_get-got : {T : Type 0} (o : Option (Bor T)) (ys xs : List T) (i : ℕ) → ys ≡ xs → is_some o ≡ nat_lt i (length ys) → IfSome o (λ x. x.now ≡ get_or ys i x.now) → option_copied o ≡ slice_get xs i
slice_get-got None ys xs i e there item = rw (← e) (sym (slice_get_past ys i (grind (arith, nat_tests))))
slice_get-got (Some x) ys xs i e there item =
    let within : i < length ys = grind (arith, nat_tests) in
    rw (← e) (sym (slice_get-get_or ys i x.now within ∙ ap Some (sym item)))

-- a list of terms is as heavy as each of them, at least
pub weight-at : (ts : List Term) (i : ℕ) (d : Term) → i < length ts → weight (tm_of (get_or ts i d)) ≤ weight_s (tms_of ts)
weight-at [] i d h = absurd (omega arith)
weight-at (t ∷ ts) zero d h = omega arith
weight-at (t ∷ ts) (suc i) d h = let s = weight-at ts i d (omega arith) in omega arith

-- a list of terms is its items
pub listed-items : (ts : Tms) → listed (items ts) ≡ ts
listed-items nil = refl
listed-items (cons t ts) = ap (cons t) (listed-items ts)

pub items_inj : (ts us : Tms) → items ts ≡ items us → ts ≡ us
items_inj ts us e = sym (listed-items ts) ∙ ap listed e ∙ listed-items us

-- a list that was filled with the values of all terms
pub filled : (f : Tm → Tm) (made ts : Tms) (xs : List Term) (n : ℕ) → items made ≡ map (λ t. f (tm_of t)) (take n xs) → length xs ≤ n → map tm_of xs ≡ items ts → made ≡ listed (map f (items ts))
filled f made ts xs n e all is =
    sym (listed-items made) ∙ ap listed (e ∙ ap (map (λ t. f (tm_of t))) (take_all n xs all) ∙ map-map f xs ∙ ap (map f) is)
  where
    map-map : (g : Tm → Tm) (ys : List Term) → map (λ t. g (tm_of t)) ys ≡ map g (map tm_of ys)
    map-map g [] = refl
    map-map g (y ∷ ys) = ap (λ l. g (tm_of y) ∷ l) (map-map g ys)

-- the same of a copy
pub copied : (made ts : Tms) (xs : List Term) (n : ℕ) → items made ≡ map tm_of (take n xs) → length xs ≤ n → map tm_of xs ≡ items ts → made ≡ ts
copied made ts xs n e all is = items_inj made ts (e ∙ ap (map tm_of) (take_all n xs all) ∙ is)

-- a slice of all terms of a list is that list
pub tms_of-all : (xs : List Term) (ts : Tms) → map tm_of xs ≡ items ts → tms_of xs ≡ ts
tms_of-all xs ts e = items_inj (tms_of xs) ts (items-tms_of xs ∙ e)

pub all_under-listed : (s : Sub) (ts : Tms) → listed (map (under s) (items ts)) ≡ all_under s ts
all_under-listed s nil = refl
all_under-listed s (cons t ts) = ap (cons (under s t)) (all_under-listed s ts)

-- lists of terms of other lengths differ
pub same_tms-length : (ts us : Tms) → length (items ts) ≢ length (items us) → same_tms ts us ≡ false
same_tms-length nil nil h = absurd (h refl)
same_tms-length nil (cons u us) h = refl
same_tms-length (cons t ts) nil h = refl
same_tms-length (cons t ts) (cons u us) h = rw (same_tms-length ts us (λ e. h (ap suc e))) (and_false (same_tm t u))
  where
    and_false : (b : Bool) → (b && false) ≡ false
    and_false true = refl
    and_false false = refl

pub tms_of-push : (ts : List Term) (t : Term) → tms_of (ts ++ t ∷ []) ≡ pushed (tms_of ts) (tm_of t)
tms_of-push [] t = refl
tms_of-push (u ∷ ts) t = ap (cons (tm_of u)) (tms_of-push ts t)

-- what the values give to a variable among them, and to one behind them
pub giving-at : (ts : List Tm) (x : ℕ) (t : Tm) → slice_get ts x ≡ Some t → giving ts x ≡ t
giving-at [] x t e = cc
giving-at (u ∷ ts) zero t e = cc
giving-at (u ∷ ts) (suc x) t e = giving-at ts x t e

pub giving-behind : (ts : List Tm) (x : ℕ) → slice_get ts x ≡ None → giving ts x ≡ var (x - length ts)
giving-behind [] x e = ap var (omega arith)
giving-behind (u ∷ ts) zero e = cc
giving-behind (u ∷ ts) (suc x) e = giving-behind ts x e ∙ ap var (omega arith)
