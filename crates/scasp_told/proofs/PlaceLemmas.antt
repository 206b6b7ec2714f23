-- Where pieces lie, and the pieces at marks.
use Rattle.std.specs.Prelude.{◌≡◌, ◌≤◌, ◌<◌, ◌+◌, ◌-◌, ℕ, zero, suc, List, [], ◌∷◌, Some, length, take, drop, slice_get, slice_set, sum, refl}
use Rattle.std.proofs.Common.{arith, ap, sym, ◌∙◌}
use Rattle.std.proofs.lemmas.List.{drop-drop, length-drop, length-set, take_all}
use Rattle.std.proofs.lemmas.List.Sums.{sum_by-cons}
use Rattle.scasp_trail.specs.Past.{earlier, is_marked, latest}
use Rattle.scasp_told.specs.Inside.Cuts.{FitEach, cut, cut_each, end_of, total}
use Rattle.scasp_told.specs.Pieces.{last_of, set_last}

pub sums : (ns : List ℕ) → sum ns ≡ total ns
sums [] = refl
sums (n ∷ ns) = sum_by-cons (λ (x : ℕ). x) n ns ∙ ap (λ (k : ℕ). n + k) (sums ns)

pub total_within : (k : ℕ) (ns : List ℕ) → total (take k ns) ≤ total ns
total_within zero ns = omega arith
total_within (suc k) [] = omega arith
total_within (suc k) (n ∷ ns) = let e = total_within k ns in omega (arith, e)

pub end_is : (k : ℕ) (ns : List ℕ) → k < length ns → total (take (k + 1) ns) ≡ end_of k ns
end_is k [] h = absurd (omega (arith, h))
end_is zero (n ∷ ns) h = let e : n + 0 ≡ n = omega arith in e
end_is (suc k) (n ∷ ns) h =
    let m : suc k + 1 ≡ suc (k + 1) = omega arith in
    ap (λ (j : ℕ). total (take j (n ∷ ns))) m ∙ ap (λ (j : ℕ). n + j) (end_is k ns (omega (arith, h)))

pub end_after : (k : ℕ) (ns : List ℕ) → k < length ns → total (take k ns) ≤ end_of k ns
end_after k [] h = absurd (omega (arith, h))
end_after zero (n ∷ ns) h = omega arith
end_after (suc k) (n ∷ ns) h = let e = end_after k ns (omega (arith, h)) in omega (arith, e)

pub count_within : (k n : ℕ) (ns : List ℕ) → slice_get ns k ≡ Some n → n ≤ total ns
count_within k n [] h = absurd (cc h)
count_within zero n (m ∷ ns) h = let e : m ≡ n = cc h in omega (arith, e)
count_within (suc k) n (m ∷ ns) h = let e = count_within k n ns h in omega (arith, e)

-- ---- a piece

pub piece_inside : {T : Type 0} (k : ℕ) (ns : List ℕ) (xs : List T) → k < length ns → slice_get (cut ns xs) k ≡ Some (take (end_of k ns - total (take k ns)) (drop (total (take k ns)) xs))
piece_inside k [] xs h = absurd (omega (arith, h))
piece_inside zero (n ∷ ns) xs h = let m : n ≡ n - 0 = omega arith in ap (λ (j : ℕ). Some (take j xs)) m
piece_inside (suc k) (n ∷ ns) xs h =
    let m : end_of k ns - total (take k ns) ≡ n + end_of k ns - (n + total (take k ns)) = omega arith in
    piece_inside k ns (drop n xs) (omega (arith, h))
    ∙ ap (λ ys. Some (take (end_of k ns - total (take k ns)) ys)) (drop-drop (total (take k ns)) n xs)
    ∙ ap (λ (j : ℕ). Some (take j (drop (n + total (take k ns)) xs))) m

pub piece_last : {T : Type 0} (ns : List ℕ) (xs : List T) → slice_get (cut ns xs) (length ns) ≡ Some (take (length xs - total ns) (drop (total ns) xs))
piece_last [] xs = ap (λ ys. Some ys) (sym (take_all (length xs - 0) xs (omega arith)))
piece_last (n ∷ ns) xs =
    let m : length (drop n xs) - total ns ≡ length xs - (n + total ns) = omega (arith, length-drop n xs) in
    piece_last ns (drop n xs)
    ∙ ap (λ ys. Some (take (length (drop n xs) - total ns) ys)) (drop-drop (total ns) n xs)
    ∙ ap (λ (j : ℕ). Some (take j (drop (n + total ns) xs))) m

-- ---- the last piece

last_at : {T : Type 0} (ns : List ℕ) (xs : List T) → slice_get (cut ns xs) (length ns) ≡ Some (last_of (cut ns xs))
last_at [] xs = refl
last_at (n ∷ []) xs = refl
last_at (n ∷ m ∷ ns) xs = last_at (m ∷ ns) (drop n xs)

pub last_found : {T : Type 0} (ns : List ℕ) (xs p : List T) → slice_get (cut ns xs) (length ns) ≡ Some p → p ≡ last_of (cut ns xs)
last_found ns xs p h = let e : Some p ≡ Some (last_of (cut ns xs)) = sym h ∙ last_at ns xs in cc e

last_is : {T : Type 0} (ns : List ℕ) (xs : List T) → last_of (cut ns xs) ≡ drop (total ns) xs
last_is [] xs = refl
last_is (n ∷ []) xs = ap (λ (k : ℕ). drop k xs) (let e : n ≡ n + 0 = omega arith in e)
last_is (n ∷ m ∷ ns) xs = last_is (m ∷ ns) (drop n xs) ∙ drop-drop (total (m ∷ ns)) n xs

pub within_last : {T : Type 0} (k : ℕ) (ns : List ℕ) (xs : List T) → k < length (last_of (cut ns xs)) → total ns + k < length xs
within_last k ns xs h = omega (arith, h, ap length (last_is ns xs), length-drop (total ns) xs)

take_behind : {T : Type 0} (n k : ℕ) (xs : List T) (x : T) → take n (slice_set xs (n + k) x) ≡ take n xs
take_behind zero k xs x = refl
take_behind (suc n) k [] x = refl
take_behind (suc n) k (y ∷ xs) x =
    let m : suc n + k ≡ suc (n + k) = omega arith in
    ap (λ (j : ℕ). take (suc n) (slice_set (y ∷ xs) j x)) m ∙ ap (λ ys. y ∷ ys) (take_behind n k xs x)

drop_behind : {T : Type 0} (n k : ℕ) (xs : List T) (x : T) → drop n (slice_set xs (n + k) x) ≡ slice_set (drop n xs) k x
drop_behind zero k xs x = let m : 0 + k ≡ k = omega arith in ap (λ (j : ℕ). slice_set xs j x) m
drop_behind (suc n) k [] x = refl
drop_behind (suc n) k (y ∷ xs) x =
    let m : suc n + k ≡ suc (n + k) = omega arith in
    ap (λ (j : ℕ). drop (suc n) (slice_set (y ∷ xs) j x)) m ∙ drop_behind n k xs x

pub set_in_last : {T : Type 0} (ns : List ℕ) (k : ℕ) (xs : List T) (x : T) → cut ns (slice_set xs (total ns + k) x) ≡ set_last k x (cut ns xs)
set_in_last [] k xs x = let m : 0 + k ≡ k = omega arith in ap (λ (j : ℕ). slice_set xs j x ∷ []) m
set_in_last (n ∷ ns) k xs x =
    let m : n + total ns + k ≡ n + (total ns + k) = omega arith in
    ap (λ (j : ℕ). cut (n ∷ ns) (slice_set xs j x)) m
    ∙ ap (λ p. p ∷ cut ns (drop n (slice_set xs (n + (total ns + k)) x))) (take_behind n (total ns + k) xs x)
    ∙ ap (λ ys. take n xs ∷ cut ns ys) (drop_behind n (total ns + k) xs x)
    ∙ ap (λ ps. take n xs ∷ ps) (set_in_last ns k (drop n xs) x)
    ∙ behind ns
  where
    behind : (ns : List ℕ) → take n xs ∷ set_last k x (cut ns (drop n xs)) ≡ set_last k x (take n xs ∷ cut ns (drop n xs))
    behind [] = refl
    behind (m ∷ ns) = refl

pub fits_set : {T : Type 0} (ns : List ℕ) (k : ℕ) (xs : List T) (x : T) → total ns ≤ length xs → total ns ≤ length (slice_set xs k x)
fits_set ns k xs x h = omega (arith, h, length-set xs k x)

-- ---- at the latest mark

pub now_left : {T : Type 0} (ns : List ℕ) (nss : List (List ℕ)) (xs : List T) (xss : List (List T)) → FitEach nss xss → cut (latest ns nss) (latest xs xss) ≡ latest (cut ns xs) (cut_each nss xss)
now_left ns [] xs [] f = refl
now_left ns [] xs (ys ∷ xss) f = absurd f
now_left ns (ms ∷ nss) xs [] f = absurd f
now_left ns (ms ∷ nss) xs (ys ∷ xss) f = refl

pub before_left : {T : Type 0} (nss : List (List ℕ)) (xss : List (List T)) → FitEach nss xss → cut_each (earlier nss) (earlier xss) ≡ earlier (cut_each nss xss)
before_left [] [] f = refl
before_left [] (ys ∷ xss) f = absurd f
before_left (ms ∷ nss) [] f = absurd f
before_left (ms ∷ nss) (ys ∷ xss) f = refl

pub fits_now : {T : Type 0} (ns : List ℕ) (nss : List (List ℕ)) (xs : List T) (xss : List (List T)) → total ns ≤ length xs → FitEach nss xss → total (latest ns nss) ≤ length (latest xs xss)
fits_now ns [] xs [] h f = h
fits_now ns [] xs (ys ∷ xss) h f = absurd f
fits_now ns (ms ∷ nss) xs [] h f = absurd f
fits_now ns (ms ∷ nss) xs (ys ∷ xss) h f = f.0

pub fits_before : {T : Type 0} (nss : List (List ℕ)) (xss : List (List T)) → FitEach nss xss → FitEach (earlier nss) (earlier xss)
fits_before [] [] f = f
fits_before [] (ys ∷ xss) f = absurd f
fits_before (ms ∷ nss) [] f = absurd f
fits_before (ms ∷ nss) (ys ∷ xss) f = f.1

pub still_marked : {T : Type 0} (nss : List (List ℕ)) (xss : List (List T)) → FitEach nss xss → is_marked nss ≡ is_marked (cut_each nss xss)
still_marked [] [] f = refl
still_marked [] (ys ∷ xss) f = absurd f
still_marked (ms ∷ nss) [] f = absurd f
still_marked (ms ∷ nss) (ys ∷ xss) f = refl
