-- The variables of sums and rows are among those that are written; and those ascend.
use Rattle.std.proofs.Common.{◌≡◌, ℕ, ◌<◌, Bool, true, false, cond, if◌then◌else◌, ◌==◌, nat_lt, List, [], ◌∷◌, ◌++◌, length, Option, None, Some, ℤ, pos, int_div, refl, subst, inl, inr, arith}
use Rattle.std.specs.List.{Contains, filter, list_all}
use Rattle.std.proofs.lemmas.Bool.{and_from, ltb-true, ltb-false, lt-ltb}
use Rattle.std.proofs.lemmas.List.Elements.{Contains-append_left, Contains-append_right}
use Rattle.scasp_list.specs.Each.{Each}
use Rattle.scasp_list.proofs.EachLemmas.{Each-map, Each-append, Each-filter, test_from-Each}
use Rattle.scasp_list.proofs.MemberLemmas.{Contains-none, Contains-here, Contains-there, Contains-cases, Contains-filter}
use Rattle.scasp_num.specs.declared.linear.Coeff.{Coeff}
use Rattle.scasp_num.specs.declared.linear.Op.{Op}
use Rattle.scasp_num.specs.declared.linear.RatPair.{RatPair}
use Rattle.scasp_num.specs.Number.{Number}
use Rattle.scasp_num.specs.Arithmetic.{◌>>=◌, lowest, sum_of, difference_of}
use Rattle.scasp_num.specs.Linear.{Linear, is_zero, shares, normal_form, negated_if, divisor, is_negated}
use Rattle.scasp_num.specs.Sums.{added, summed, multiple, whole, whole_number, normal_of}
use Rattle.scasp_syntax.specs.WellFormed.{ascends}
use Rattle.scasp_reader_expressions.specs.declared.sums.Operation.{Operation}
use Rattle.scasp_reader_expressions.specs.declared.sums.Operation.TheVariants as operation
use Rattle.scasp_reader_expressions.specs.declared.sums.Sum.{Sum}
use Rattle.scasp_reader_expressions.specs.Sums.{number_by, pair_of, negated_pairs, negated_sum, variable_sum, total, each_pair, each_number, product, worked, row_of}
use Rattle.scasp_reader_expressions.specs.Values.{inserted, united}

-- ---- numbers that ascend

abbrev pub Ascending : List ℕ → Type 0
Ascending [] = Unit {0}
Ascending (x ∷ xs) = Each (λ y. x < y) xs × Ascending xs

pub ascends-from : (xs : List ℕ) → Ascending xs → ascends xs ≡ true
ascends-from [] h = refl
ascends-from (x ∷ xs) h = and_from (list_all (nat_lt x) xs) (ascends xs) (test_from-Each (nat_lt x) (λ y. x < y) (λ y k. lt-ltb x y k) xs h.0) (ascends-from xs h.1)

Ascending-filter : (p : ℕ → Bool) (xs : List ℕ) → Ascending xs → Ascending (filter p xs)
Ascending-filter p [] h = tt
Ascending-filter p (x ∷ xs) h = by (p x) (Ascending-filter p xs h.1)
  where
    by : (b : Bool) → Ascending (filter p xs) → Ascending (cond b (x ∷ filter p xs) (filter p xs))
    by true f = (Each-filter (λ y. x < y) p xs h.0, f)
    by false f = f

Ascending-mid : (xs : List ℕ) (x : ℕ) (ys : List ℕ) → Each (λ y. y < x) xs → Each (λ y. x < y) ys → Ascending xs → Ascending ys → Ascending (xs ++ x ∷ ys)
Ascending-mid [] x ys a b c d = (b, d)
Ascending-mid (z ∷ zs) x ys a b c d =
    let z_below : z < x = a.0 in
    (Each-append (λ y. z < y) zs (x ∷ ys) c.0 (a.0, Each-map (λ y. x < y) (λ y. z < y) (λ y h. omega arith) ys b), Ascending-mid zs x ys a.1 b c.1 d)

Each-of_filter : (p : ℕ → Bool) (P : ℕ → Type 0) → ((y : ℕ) → p y ≡ true → P y) → (xs : List ℕ) → Each P (filter p xs)
Each-of_filter p P f [] = tt
Each-of_filter p P f (x ∷ xs) = by (p x) refl (Each-of_filter p P f xs)
  where
    by : (b : Bool) → p x ≡ b → Each P (filter p xs) → Each P (cond b (x ∷ filter p xs) (filter p xs))
    by true e r = (f x e, r)
    by false e r = r

inserted-Ascending : (x : ℕ) (xs : List ℕ) → Ascending xs → Ascending (inserted x xs)
inserted-Ascending x xs h =
    Ascending-mid (filter (λ y. nat_lt y x) xs) x (filter (λ y. nat_lt x y) xs)
    (Each-of_filter (λ y. nat_lt y x) (λ y. y < x) (λ y e. ltb-true y x e) xs) (Each-of_filter (λ y. nat_lt x y) (λ y. x < y) (λ y e. ltb-true x y e) xs)
    (Ascending-filter (λ y. nat_lt y x) xs h) (Ascending-filter (λ y. nat_lt x y) xs h)

inserted-Each : (P : ℕ → Type 0) (x : ℕ) (xs : List ℕ) → P x → Each P xs → Each P (inserted x xs)
inserted-Each P x xs p h = Each-append P (filter (λ y. nat_lt y x) xs) (x ∷ filter (λ y. nat_lt x y) xs) (Each-filter P (λ y. nat_lt y x) xs h) (p, Each-filter P (λ y. nat_lt x y) xs h)

inserted-here : (x : ℕ) (xs : List ℕ) → Contains (inserted x xs) x
inserted-here x xs = Contains-append_right (filter (λ y. nat_lt y x) xs) (x ∷ filter (λ y. nat_lt x y) xs) x (Contains-here x (filter (λ y. nat_lt x y) xs))

ltb-tight : (x y : ℕ) → nat_lt y x ≡ false → nat_lt x y ≡ false → x ≡ y
ltb-tight x y e f =
    let g = ltb-false y x e in
    let h = ltb-false x y f in
    omega arith

inserted-there : (x : ℕ) (xs : List ℕ) (y : ℕ) → Contains xs y → Contains (inserted x xs) y
inserted-there x xs y h = by (nat_lt y x) (nat_lt x y) refl refl
  where
    by : (b c : Bool) → nat_lt y x ≡ b → nat_lt x y ≡ c → Contains (inserted x xs) y
    by true c e f = Contains-append_left (filter (λ z. nat_lt z x) xs) (x ∷ filter (λ z. nat_lt x z) xs) y (Contains-filter (λ z. nat_lt z x) xs y h e)
    by false true e f =
        Contains-append_right (filter (λ z. nat_lt z x) xs) (x ∷ filter (λ z. nat_lt x z) xs) y (Contains-there x (filter (λ z. nat_lt x z) xs) y (Contains-filter (λ z. nat_lt x z) xs y h f))
    by false false e f =
        let same : x ≡ y = ltb-tight x y e f in
        subst (λ z. Contains (inserted x xs) z) same (inserted-here x xs)

pub united-Ascending : (xs ys : List ℕ) → Ascending xs → Ascending (united xs ys)
united-Ascending xs [] h = h
united-Ascending xs (y ∷ ys) h = united-Ascending (inserted y xs) ys (inserted-Ascending y xs h)

pub united-Each : (P : ℕ → Type 0) (xs ys : List ℕ) → Each P xs → Each P ys → Each P (united xs ys)
united-Each P xs [] h k = h
united-Each P xs (y ∷ ys) h k = united-Each P (inserted y xs) ys (inserted-Each P y xs k.0 h) k.1

pub united-left : (xs ys : List ℕ) (x : ℕ) → Contains xs x → Contains (united xs ys) x
united-left xs [] x h = h
united-left xs (y ∷ ys) x h = united-left (inserted y xs) ys x (inserted-there y xs x h)

pub united-right : (xs ys : List ℕ) (x : ℕ) → Contains ys x → Contains (united xs ys) x
united-right xs [] x h = absurd (Contains-none x h)
united-right xs (y ∷ ys) x h =
    elim (Contains-cases y ys x h) [
      | inl e ↦ united-left (inserted y xs) ys x (subst (λ z. Contains (inserted y xs) z) e (inserted-here y xs))
      | inr k ↦ united-right (inserted y xs) ys x k
    ]

-- ---- the variables of pairs

module _ (P : ℕ → Type 0) where
  -- this holds of the variable of each pair
  abbrev pub Pairs : List RatPair → Type 0
  Pairs ps = Each (λ k. P k.x) ps

  abbrev pub Coeffs : List Coeff → Type 0
  Coeffs ks = Each (λ k. P k.x) ks

  added-Pairs : (x : ℕ) (v : Number) (ks r : List RatPair) → P x → Pairs ks → added x v ks ≡ Some r → Pairs r
  added-Pairs x v [] r p h e = let q : (record { x = x; value = v } ∷ []) ≡ r = cc in subst Pairs q (p, tt)
  added-Pairs x v (k ∷ ks) r p h e = by (nat_lt k.x x) (k.x == x) (added x v ks) (sum_of k.value v) (λ rest f. added-Pairs x v ks rest p h.1 f) e
    where
      by : (b c : Bool) (o : Option (List RatPair)) (s : Option Number) → ((rest : List RatPair) → o ≡ Some rest → Pairs rest)
          → (if b then (o >>= (λ rest. Some (k ∷ rest)))
          else (if c then (s >>= (λ sum. Some (record { x = x; value = sum } ∷ ks))) else Some (record { x = x; value = v } ∷ k ∷ ks))) ≡ Some r
          → Pairs r
      by true c None s f e = cc
      by true c (Some rest) s f e = let q : (k ∷ rest) ≡ r = cc in subst Pairs q (h.0, f rest refl)
      by false true o None f e = cc
      by false true o (Some sum) f e = let q : (record { x = x; value = sum } ∷ ks) ≡ r = cc in subst Pairs q (p, h.1)
      by false false o s f e = let q : (record { x = x; value = v } ∷ k ∷ ks) ≡ r = cc in subst Pairs q (p, (h.0, h.1))

  summed-Pairs : (sums ps r : List RatPair) → Pairs sums → Pairs ps → summed sums ps ≡ Some r → Pairs r
  summed-Pairs sums [] r h k e = let q : sums ≡ r = cc in subst Pairs q h
  summed-Pairs sums (p ∷ ps) r h k e = by (added p.x p.value sums) (λ next f. added-Pairs p.x p.value sums next k.0 h f) (λ next f. summed-Pairs next ps r f k.1) e
    where
      by : (o : Option (List RatPair)) → ((next : List RatPair) → o ≡ Some next → Pairs next) → ((next : List RatPair) → Pairs next → summed next ps ≡ Some r → Pairs r)
          → (o >>= (λ next. summed next ps)) ≡ Some r → Pairs r
      by None f g e = cc
      by (Some next) f g e = g next (f next refl) e

  each_pair-Pairs : (o : Operation) (q : Number) (ps r : List RatPair) → Pairs ps → each_pair o q ps ≡ Some r → Pairs r
  each_pair-Pairs o q [] r h e = let s : [] ≡ r = cc in subst Pairs s tt
  each_pair-Pairs o q (k ∷ ks) r h e = by (number_by o k.value q) (each_pair o q ks) (λ rest f. each_pair-Pairs o q ks rest h.1 f) e
    where
      by : (v : Option Number) (t : Option (List RatPair)) → ((rest : List RatPair) → t ≡ Some rest → Pairs rest)
          → (v >>= (λ w. t >>= (λ rest. Some (pair_of k.x w ∷ rest)))) ≡ Some r → Pairs r
      by None t f e = cc
      by (Some w) None f e = cc
      by (Some w) (Some rest) f e = let s : (pair_of k.x w ∷ rest) ≡ r = cc in subst Pairs s (h.0, f rest refl)

  pub negated-Pairs : (ps : List RatPair) → Pairs ps → Pairs (negated_pairs ps)
  negated-Pairs [] h = tt
  negated-Pairs (k ∷ ks) h = (h.0, negated-Pairs ks h.1)

  whole-Coeffs : (l : ℤ) (ps : List RatPair) (r : List Coeff) → Pairs ps → whole l ps ≡ Some r → Coeffs r
  whole-Coeffs l [] r h e = let s : [] ≡ r = cc in subst Coeffs s tt
  whole-Coeffs l (k ∷ ks) r h e = by (whole_number l k.value) (whole l ks) (λ rest f. whole-Coeffs l ks rest h.1 f) e
    where
      by : (v : Option ℤ) (t : Option (List Coeff)) → ((rest : List Coeff) → t ≡ Some rest → Coeffs rest)
          → (v >>= (λ c. t >>= (λ rest. Some (record { x = k.x; c = c } ∷ rest)))) ≡ Some r → Coeffs r
      by None t f e = cc
      by (Some c) None f e = cc
      by (Some c) (Some rest) f e = let s : (record { x = k.x; c = c } ∷ rest) ≡ r = cc in subst Coeffs s (h.0, f rest refl)

  shares-Coeffs : (negate : Bool) (g : ℕ) (ks : List Coeff) → Coeffs ks → Coeffs (shares negate g ks)
  shares-Coeffs negate g [] h = tt
  shares-Coeffs negate g (k ∷ ks) h = by (is_zero k.c) (shares-Coeffs negate g ks h.1)
    where
      by : (b : Bool) → Coeffs (shares negate g ks) → Coeffs (if b then shares negate g ks else (record { x = k.x; c = negated_if negate (int_div k.c (pos g)) } ∷ shares negate g ks))
      by true f = f
      by false f = (h.0, f)

  normal_of-Coeffs : (pairs : List RatPair) (q : Number) (op : Op) (row : Linear) → Pairs pairs → normal_of pairs q op ≡ Some row → Coeffs row.coeffs
  unfolding normal_of normal_form
  normal_of-Coeffs pairs q op row h e = by (summed [] pairs) (λ sums f. summed-Pairs [] pairs sums tt h f) e
    where
      last : (c : Option ℤ) (ks : List Coeff) → Coeffs ks → (c >>= (λ constant. Some (normal_form (record { coeffs = ks; constant = constant; op = op })))) ≡ Some row → Coeffs row.coeffs
      last None ks h e = cc
      last (Some c) ks h e =
          let r : Linear = record { coeffs = ks; constant = c; op = op } in
          let s : normal_form r ≡ row = cc in
          subst (λ (w : Linear). Coeffs w.coeffs) s (shares-Coeffs (is_negated r) (divisor r) ks h)

      coeffs : (l : ℤ) (sums : List RatPair) (t : Option (List Coeff)) → ((ks : List Coeff) → t ≡ Some ks → Coeffs ks)
          → (t >>= (λ ks. whole_number l q >>= (λ constant. Some (normal_form (record { coeffs = ks; constant = constant; op = op }))))) ≡ Some row → Coeffs row.coeffs
      coeffs l sums None f e = cc
      coeffs l sums (Some ks) f e = last (whole_number l q) ks (f ks refl) e

      multiples : (sums : List RatPair) → Pairs sums → (m : Option ℤ)
          → (m >>= (λ l. whole l sums >>= (λ ks. whole_number l q >>= (λ constant. Some (normal_form (record { coeffs = ks; constant = constant; op = op })))))) ≡ Some row → Coeffs row.coeffs
      multiples sums p None e = cc
      multiples sums p (Some l) e = coeffs l sums (whole l sums) (λ ks f. whole-Coeffs l sums ks p f) e

      by : (o : Option (List RatPair)) → ((sums : List RatPair) → o ≡ Some sums → Pairs sums)
          → (o >>= (λ sums. multiple q.den sums >>= (λ l. whole l sums >>= (λ ks. whole_number l q >>= (λ constant. Some (normal_form (record { coeffs = ks; constant = constant; op = op }))))))) ≡ Some row
          → Coeffs row.coeffs
      by None f e = cc
      by (Some sums) f e = multiples sums (f sums refl) (multiple q.den sums) e

  pub row_of-Coeffs : (op : Op) (a b : Sum) (row : Linear) → Pairs a.pairs → Pairs b.pairs → row_of op a b ≡ Some row → Coeffs row.coeffs
  row_of-Coeffs op a b row h k e = by (difference_of a.constant b.constant) e
    where
      by : (c : Option Number) → (c >>= (λ constant. normal_of (a.pairs ++ negated_pairs b.pairs) constant op)) ≡ Some row → Coeffs row.coeffs
      by None e = cc
      by (Some c) e = normal_of-Coeffs (a.pairs ++ negated_pairs b.pairs) c op row (Each-append (λ (k : RatPair). P k.x) a.pairs (negated_pairs b.pairs) h (negated-Pairs b.pairs k)) e

  total-Pairs : (a b r : Sum) → Pairs a.pairs → Pairs b.pairs → total a b ≡ Some r → Pairs r.pairs
  total-Pairs a b r h k e = by (sum_of a.constant b.constant) (summed a.pairs b.pairs) (λ ps f. summed-Pairs a.pairs b.pairs ps h k f) e
    where
      by : (c : Option Number) (t : Option (List RatPair)) → ((ps : List RatPair) → t ≡ Some ps → Pairs ps)
          → (c >>= (λ constant. t >>= (λ pairs. Some (record { constant = constant; pairs = pairs })))) ≡ Some r → Pairs r.pairs
      by None t f e = cc
      by (Some c) None f e = cc
      by (Some c) (Some ps) f e = let s : record { constant = c; pairs = ps } ≡ r = cc in subst (λ (w : Sum). Pairs w.pairs) s (f ps refl)

  each_number-Pairs : (o : Operation) (q : Number) (a r : Sum) → Pairs a.pairs → each_number o q a ≡ Some r → Pairs r.pairs
  each_number-Pairs o q a r h e = by (number_by o a.constant q) (each_pair o q a.pairs) (λ ps f. each_pair-Pairs o q a.pairs ps h f) e
    where
      by : (c : Option Number) (t : Option (List RatPair)) → ((ps : List RatPair) → t ≡ Some ps → Pairs ps)
          → (c >>= (λ constant. t >>= (λ pairs. Some (record { constant = constant; pairs = pairs })))) ≡ Some r → Pairs r.pairs
      by None t f e = cc
      by (Some c) None f e = cc
      by (Some c) (Some ps) f e = let s : record { constant = c; pairs = ps } ≡ r = cc in subst (λ (w : Sum). Pairs w.pairs) s (f ps refl)

  product-Pairs : (a b r : Sum) → Pairs a.pairs → Pairs b.pairs → product a b ≡ Some r → Pairs r.pairs
  product-Pairs a b r h k e = by (length a.pairs == 0) e
    where
      by : (c : Bool) → (if c then each_number operation.Times a.constant b else each_number operation.Times b.constant a) ≡ Some r → Pairs r.pairs
      by true e = each_number-Pairs operation.Times a.constant b r k e
      by false e = each_number-Pairs operation.Times b.constant a r h e

  pub worked-Pairs : (o : Operation) (a b r : Sum) → Pairs a.pairs → Pairs b.pairs → worked o a b ≡ Some r → Pairs r.pairs
  worked-Pairs operation.Plus a b r h k e = total-Pairs a b r h k e
  worked-Pairs operation.Minus a b r h k e = total-Pairs a (negated_sum b) r h (negated-Pairs b.pairs k) e
  worked-Pairs operation.Times a b r h k e = product-Pairs a b r h k e
  worked-Pairs operation.Over a b r h k e = each_number-Pairs operation.Over b.constant a r h e

  pub variable_sum-Pairs : (x : ℕ) (r : Sum) → P x → variable_sum x ≡ Some r → Pairs r.pairs
  variable_sum-Pairs x r p e = by (lowest (pos 0) (pos 1)) (lowest (pos 1) (pos 1)) e
    where
      by : (c d : Option Number) → (c >>= (λ constant. d >>= (λ one. Some (record { constant = constant; pairs = pair_of x one ∷ [] })))) ≡ Some r → Pairs r.pairs
      by None d e = cc
      by (Some c) None e = cc
      by (Some c) (Some one) e = let s : record { constant = c; pairs = pair_of x one ∷ [] } ≡ r = cc in subst (λ (w : Sum). Pairs w.pairs) s (p, tt)
