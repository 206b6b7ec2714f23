-- Texts in byte order: there is one such list of the same texts.
use Rattle.std.proofs.Common.{Ordering, Less, Equal, Greater, ◌≡◌, ◌∙◌, ℕ, zero, suc, ◌+◌, ◌<◌, Bool, true, false, List, [], ◌∷◌, ◌++◌, length, map, get_or, refl, sym, ap, subst, arith, add-one}
use Rattle.std.specs.Prelude.{⊤, bytes_eq, IsPermutation, IsSorted, IsSortedBy}
use Rattle.std.specs.List.{sum_by}
use Rattle.std.specs.Cmp.{IsStrictWeakOrder}
use Rattle.std.specs.Cmp.Lexicographic.{slice_cmp}
use Rattle.std.specs.Ordering.{is_lt, nat_cmp, ordering_reverse}
use Rattle.std.proofs.lemmas.Cmp.{nat_list_cmp_total}
use Rattle.std.proofs.lemmas.Map.Lookups.{exact_bytes}
use Rattle.std.proofs.lemmas.Bool.{cond_both, true≢false}
use Rattle.std.proofs.lemmas.List.Sorted.{ranks_by, sum_by_pushed, sum_by-IsPermutation, IsPermutation-refl, IsPermutation-cons, IsPermutation-middle, IsPermutation-trans}
use Rattle.std.proofs.lemmas.Slice.Eq.{bytes_eq-Decides}
use Rattle.scasp_print_atoms.specs.Order.{is_before, put_among, in_byte_order}

-- ---- sums over lists

abbrev pub total : {X : Type 0} → (X → ℕ) → List X → ℕ
total f [] = 0
total f (x ∷ xs) = f x + total f xs

total-sum : {X : Type 0} (f : X → ℕ) (xs : List X) → total f xs ≡ sum_by f xs
total-sum f [] = refl
total-sum f (x ∷ xs) = ap (λ n. f x + n) (total-sum f xs) ∙ sym (sum_by_pushed f x xs (x ∷ xs) (IsPermutation-refl (x ∷ xs)))

pub total-permutation : {X : Type 0} (f : X → ℕ) (xs ys : List X) → IsPermutation xs ys → total f ys ≡ total f xs
total-permutation f xs ys p = total-sum f ys ∙ sum_by-IsPermutation f xs ys p ∙ sym (total-sum f xs)

pub total-map : {X Y : Type 0} (f : Y → ℕ) (g : X → Y) (xs : List X) → total f (map g xs) ≡ total (λ x. f (g x)) xs
total-map f g [] = refl
total-map f g (x ∷ xs) = ap (λ n. f (g x) + n) (total-map f g xs)

abbrev pub one : Bool → ℕ
one true = 1
one false = 0

-- how often a text is in a list
abbrev pub times : List ℕ → List (List ℕ) → ℕ
times t xs = total (λ s. one (bytes_eq s t)) xs

-- ---- lists in order

abbrev not_before : List ℕ → List (List ℕ) → Type 0
not_before y [] = ⊤
not_before y (x ∷ xs) = (is_before x y ≡ false) × not_before y xs

abbrev pub InOrder : List (List ℕ) → Type 0
InOrder [] = ⊤
InOrder (x ∷ xs) = not_before x xs × InOrder xs

weak : IsStrictWeakOrder is_before
weak = ranks_by nat_list_cmp_total (λ x. x)

not-self : (x : List ℕ) → is_before x x ≡ false
not-self x = by (is_before x x) refl
  where
    by : (b : Bool) → is_before x x ≡ b → is_before x x ≡ false
    by true e = weak.one_way x x e
    by false e = e

lower : (a b : List ℕ) (xs : List (List ℕ)) → is_before b a ≡ false → not_before b xs → not_before a xs
lower a b [] h n = tt
lower a b (x ∷ xs) h n = (weak.chain x b a n.0 h, lower a b xs h n.1)

put-not-before : (a t : List ℕ) (xs : List (List ℕ)) → is_before t a ≡ false → not_before a xs → not_before a (put_among t xs)
put-not-before a t [] h n = (h, tt)
put-not-before a t (s ∷ ss) h n =
    cond_both (is_before s t) (s ∷ put_among t ss) (t ∷ s ∷ ss) (not_before a)
    (λ e. (n.0, put-not-before a t ss h n.1))
    (λ e. (h, n))

put-in-order : (t : List ℕ) (xs : List (List ℕ)) → InOrder xs → InOrder (put_among t xs)
put-in-order t [] i = (tt, tt)
put-in-order t (s ∷ ss) i =
    cond_both (is_before s t) (s ∷ put_among t ss) (t ∷ s ∷ ss) InOrder
    (λ e. (put-not-before s t ss (weak.one_way s t e) i.0, put-in-order t ss i.1))
    (λ e. ((e, lower t s ss e i.0), i))

pub in-order : (xs : List (List ℕ)) → InOrder (in_byte_order xs)
in-order [] = tt
in-order (x ∷ xs) = put-in-order x (in_byte_order xs) (in-order xs)

put-permutes : (t : List ℕ) (xs : List (List ℕ)) → IsPermutation (t ∷ xs) (put_among t xs)
put-permutes t [] = IsPermutation-refl (t ∷ [])
put-permutes t (s ∷ ss) =
    cond_both (is_before s t) (s ∷ put_among t ss) (t ∷ s ∷ ss) (λ ys. IsPermutation (t ∷ s ∷ ss) ys)
    (λ e. IsPermutation-trans (t ∷ s ∷ ss) (s ∷ t ∷ ss) (s ∷ put_among t ss) (IsPermutation-middle (t ∷ []) s ss)
    (IsPermutation-cons s (t ∷ ss) (put_among t ss) (put-permutes t ss)))
    (λ e. IsPermutation-refl (t ∷ s ∷ ss))

pub permutes : (xs : List (List ℕ)) → IsPermutation xs (in_byte_order xs)
permutes [] = IsPermutation-refl []
permutes (x ∷ xs) =
    IsPermutation-trans (x ∷ xs) (x ∷ in_byte_order xs) (put_among x (in_byte_order xs)) (IsPermutation-cons x xs (in_byte_order xs) (permutes xs))
    (put-permutes x (in_byte_order xs))

-- ---- such a list is the only one

tied : (x y : List ℕ) → is_before x y ≡ false → is_before y x ≡ false → x ≡ y
tied x y h g = by (slice_cmp nat_cmp x y) refl
  where
    by : (o : Ordering) → slice_cmp nat_cmp x y ≡ o → x ≡ y
    by Less e = absurd (true≢false (sym (ap is_lt e) ∙ h))
    by Equal e = exact_bytes x y e
    by Greater e = absurd (true≢false (sym (ap is_lt (nat_list_cmp_total.antisymm y x ∙ ap ordering_reverse e)) ∙ g))

itself : (t : List ℕ) → bytes_eq t t ≡ true
itself t = (bytes_eq-Decides t t).1 refl

there : (t : List ℕ) (xs : List (List ℕ)) → 0 < times t (t ∷ xs)
there t xs =
    let e : one (bytes_eq t t) ≡ 1 = ap one (itself t) in
    let n : times t (t ∷ xs) ≡ one (bytes_eq t t) + times t xs = refl in
    omega (arith, e, n)

found : (t y : List ℕ) (xs : List (List ℕ)) → not_before y xs → 0 < times t xs → is_before t y ≡ false
found t y [] n h = absurd (omega (arith, h))
found t y (x ∷ xs) n h = by (found t y xs n.1) (bytes_eq x t) refl
  where
    by : (0 < times t xs → is_before t y ≡ false) → (b : Bool) → bytes_eq x t ≡ b → is_before t y ≡ false
    by later true e = let same : x ≡ t = (bytes_eq-Decides x t).0 e in subst (λ z. is_before z y ≡ false) same n.0
    by later false e =
        let none : one (bytes_eq x t) ≡ 0 = ap one e in
        let sum : times t (x ∷ xs) ≡ one (bytes_eq x t) + times t xs = refl in
        later (omega (arith, h, none, sum))

pub unique : (xs ys : List (List ℕ)) → InOrder xs → InOrder ys → ((t : List ℕ) → times t xs ≡ times t ys) → xs ≡ ys
unique [] [] i j same = refl
unique [] (y ∷ ys) i j same = let none : times y [] ≡ 0 = refl in absurd (omega (arith, same y, there y ys, none))
unique (x ∷ xs) [] i j same = let none : times x [] ≡ 0 = refl in absurd (omega (arith, same x, there x xs, none))
unique (x ∷ xs) (y ∷ ys) i j same =
    let first : is_before x y ≡ false = found x y (y ∷ ys) (not-self y, j.0) (omega (arith, same x, there x xs)) in
    let second : is_before y x ≡ false = found y x (x ∷ xs) (not-self x, i.0) (omega (arith, same y, there y ys)) in
    let e : x ≡ y = tied x y first second in
    let rest : xs ≡ ys = unique xs ys i.1 j.1 (λ t.
    let f : one (bytes_eq x t) ≡ one (bytes_eq y t) = ap (λ z. one (bytes_eq z t)) e in
    let g : times t (x ∷ xs) ≡ one (bytes_eq x t) + times t xs = refl in
    let h : times t (y ∷ ys) ≡ one (bytes_eq y t) + times t ys = refl in
    omega (arith, same t, f, g, h)) in
    λ k. e k ∷ rest k

-- ---- what a sort gives

pub up-in-order : {X : Type 0} (v : X → List ℕ) (xs : List X)
    → ((k : ℕ) (d : X) → suc k < length xs → is_before (v (get_or xs (suc k) d)) (v (get_or xs k d)) ≡ false) → InOrder (map v xs)
up-in-order v [] up = tt
up-in-order v (x ∷ []) up = (tt, tt)
up-in-order v (x ∷ y ∷ ys) up =
    let rest : InOrder (v y ∷ map v ys) = up-in-order v (y ∷ ys) (λ k d h. up (suc k) d (omega (arith, h))) in
    let first : is_before (v y) (v x) ≡ false = up 0 x (omega arith) in
    ((first, lower (v x) (v y) (map v ys) first rest.0), rest)

in-order-up : (xs : List (List ℕ)) → InOrder xs → (k : ℕ) (d : List ℕ) → suc k < length xs → is_before (get_or xs (suc k) d) (get_or xs k d) ≡ false
in-order-up [] i k d h = absurd (omega (arith, h))
in-order-up (x ∷ []) i k d h = absurd (omega (arith, h))
in-order-up (x ∷ y ∷ ys) i zero d h = i.0.0
in-order-up (x ∷ y ∷ ys) i (suc k) d h = in-order-up (y ∷ ys) i.1 k d (omega (arith, h))

-- the texts of a sorted list
pub sorted-texts : {X : Type 0} (v : X → List ℕ) (xs ys : List X) → IsPermutation xs ys → IsSortedBy (λ a b. is_before (v a) (v b)) ys → map v ys ≡ in_byte_order (map v xs)
sorted-texts v xs ys p s =
    unique (map v ys) (in_byte_order (map v xs)) (up-in-order v ys (λ k d h. subst (λ n. is_before (v (get_or ys n d)) (v (get_or ys k d)) ≡ false) (add-one k) (s k d (omega arith) (omega (arith, h))))) (in-order (map v xs))
    (λ t. total-map (λ s. one (bytes_eq s t)) v ys ∙ total-permutation (λ x. one (bytes_eq (v x) t)) xs ys p
    ∙ sym (total-map (λ s. one (bytes_eq s t)) v xs) ∙ sym (total-permutation (λ s. one (bytes_eq s t)) (map v xs) (in_byte_order (map v xs)) (permutes (map v xs))))

pub sorted : (xs : List (List ℕ)) → InOrder xs → IsSorted (slice_cmp nat_cmp) xs
sorted xs i = λ k d low high. subst (λ n. is_before (get_or xs n d) (get_or xs k d) ≡ false) (sym (add-one k)) (in-order-up xs i k d (omega (arith, high)))
