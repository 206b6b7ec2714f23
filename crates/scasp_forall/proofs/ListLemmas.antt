-- Chains as lists, and lists turned round.
use Rattle.std.proofs.Common.{◌≡◌, ◌+◌, ℕ, zero, suc, Bool, true, false, ◌||◌, not, if◌then◌else◌, List, [], ◌∷◌, ◌++◌, filter, map, reverse, arith, refl, ap, sym, ◌∙◌}
use Rattle.std.proofs.lemmas.Grind.{flat_map-append}
use Rattle.std.proofs.lemmas.List.{append-nil, map-append, reverse-append}
use Rattle.std.proofs.lemmas.List.Elements.{filter-append}
use Rattle.std.proofs.lemmas.List.Folds.{list_any-append}
use Rattle.std.specs.List.{flat_map, list_any}
use Rattle.scasp_search_rules.specs.Successors.Reading.{count_from}
use Rattle.scasp_search_rules.specs.Successors.Splits.{is_bound_in}
use Rattle.scasp_search_rules.specs.Successors.Variables.{is_empty}
use Rattle.scasp_unify.specs.declared.bindings.Binding.{Binding}

-- one item more in front
pub one_more : {T : Type 0} (x : T) (xs ys : List T) → ys ≡ x ∷ xs → reverse ys ≡ reverse xs ++ x ∷ []
one_more x xs ys e = ap reverse e ∙ reverse-append (x ∷ []) xs

-- the items from the last to the first
pub turned : {T : Type 0} (made xs ys : List T) → made ≡ xs → ys ≡ reverse made → ys ≡ reverse xs
turned made xs ys e h = h ∙ ap reverse e

reverse_cons : {T : Type 0} (x : T) (xs : List T) → reverse (x ∷ xs) ≡ reverse xs ++ x ∷ []
reverse_cons x xs = reverse-append (x ∷ []) xs

-- ---- what a turned list gives

pub map_reverse : {T U : Type 0} (f : T → U) (xs : List T) → map f (reverse xs) ≡ reverse (map f xs)
map_reverse f [] = refl
map_reverse f (x ∷ xs) =
    ap (map f) (reverse_cons x xs) ∙ map-append f (reverse xs) (x ∷ []) ∙ ap (λ ys. ys ++ f x ∷ []) (map_reverse f xs) ∙ sym (reverse_cons (f x) (map f xs))

pub filter_reverse : {T : Type 0} (p : T → Bool) (xs : List T) → filter p (reverse xs) ≡ reverse (filter p xs)
filter_reverse p [] = refl
filter_reverse {T = T} p (x ∷ xs) =
    ap (filter p) (reverse_cons x xs) ∙ filter-append p (reverse xs) (x ∷ []) ∙ ap (λ ys. ys ++ filter p (x ∷ [])) (filter_reverse p xs) ∙ by (p x)
  where
    by : (b : Bool) → reverse (filter p xs) ++ (if b then x ∷ [] else []) ≡ reverse (if b then x ∷ filter p xs else filter p xs)
    by true = sym (reverse_cons x (filter p xs))
    by false = append-nil (reverse (filter p xs))

or_swap : (a b c : Bool) → a ≡ b → (a || (c || false)) ≡ (c || b)
or_swap true b true e = refl
or_swap true b false e = e
or_swap false b true e = refl
or_swap false b false e = e

pub any_reverse : {T : Type 0} (p : T → Bool) (xs : List T) → list_any p (reverse xs) ≡ list_any p xs
any_reverse p [] = refl
any_reverse p (x ∷ xs) =
    ap (list_any p) (reverse_cons x xs) ∙ list_any-append p (reverse xs) (x ∷ []) ∙ or_swap (list_any p (reverse xs)) (list_any p xs) (p x) (any_reverse p xs)

or_turned : (a b c d : Bool) → a ≡ b → c ≡ (d || false) → (a || c) ≡ (d || b)
or_turned a b c d e h = ap (λ (x : Bool). a || x) h ∙ or_swap a b d e

pub any_flat_reverse : {T U : Type 0} (p : U → Bool) (g : T → List U) (xs : List T) → list_any p (flat_map g (reverse xs)) ≡ list_any p (flat_map g xs)
any_flat_reverse p g [] = refl
any_flat_reverse p g (x ∷ xs) =
    ap (λ ys. list_any p (flat_map g ys)) (reverse_cons x xs) ∙ ap (list_any p) (flat_map-append g (reverse xs) (x ∷ []))
    ∙ list_any-append p (flat_map g (reverse xs)) (g x ++ [])
    ∙ or_turned (list_any p (flat_map g (reverse xs))) (list_any p (flat_map g xs)) (list_any p (g x ++ [])) (list_any p (g x)) (any_flat_reverse p g xs) (list_any-append p (g x) [])
    ∙ sym (list_any-append p (g x) (flat_map g xs))

-- ---- variables

pub some_variable : (xs ys : List ℕ) (x : ℕ) → ys ≡ x ∷ xs → true ≡ not (is_empty (reverse ys))
some_variable xs ys x e = by (reverse xs) ∙ sym (ap (λ zs. not (is_empty zs)) (one_more x xs ys e))
  where
    by : (zs : List ℕ) → true ≡ not (is_empty (zs ++ x ∷ []))
    by [] = refl
    by (z ∷ zs) = refl

pub no_variable : (ys : List ℕ) → ys ≡ [] → false ≡ not (is_empty (reverse ys))
no_variable ys e = sym (ap (λ zs. not (is_empty (reverse zs))) e)

counted : (k n : ℕ) → count_from k (suc n) ≡ count_from k n ++ (k + n) ∷ []
counted k zero = ap (λ j. j ∷ []) (omega arith)
counted k (suc n) = let e : suc k + n ≡ k + suc n = omega arith in ap (λ js. k ∷ js) (counted (suc k) n ∙ ap (λ j. count_from (suc k) n ++ j ∷ []) e)

-- one variable more, unless it is bound
pub counted_more : (bs : List Binding) (k n m x : ℕ) → m ≡ n + 1 → x ≡ k + n
    → filter (λ y. not (is_bound_in bs y)) (count_from k m) ≡ filter (λ y. not (is_bound_in bs y)) (count_from k n) ++ (if is_bound_in bs x then [] else x ∷ [])
counted_more bs k n m x e h =
    let p : ℕ → Bool = λ y. not (is_bound_in bs y) in
    let q : m ≡ suc n = omega (arith, e) in
    ap (λ j. filter p (count_from k j)) q ∙ ap (filter p) (counted k n ∙ ap (λ j. count_from k n ++ j ∷ []) (sym h)) ∙ filter-append p (count_from k n) (x ∷ [])
    ∙ ap (λ ys. filter p (count_from k n) ++ ys) (by (is_bound_in bs x))
  where
    by : (b : Bool) → (if not b then x ∷ [] else []) ≡ (if b then [] else x ∷ [])
    by true = refl
    by false = refl
