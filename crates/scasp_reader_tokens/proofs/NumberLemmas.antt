-- Numbers that digits spell, up to a largest one.
use Rattle.std.proofs.Common.{◌≡◌, ℕ, ◌+◌, ◌-◌, ◌*◌, ◌^◌, ◌<◌, ◌≤◌, Bool, true, false, nat_lt, List, [], ◌∷◌, ◌++◌, length, drop, get_or, min, pos, refl, sym, ap, ◌∙◌, arith, lit<, lit≤}
use Rattle.std.proofs.lemmas.Bool.Decides.{nat_tests}
use Rattle.std.proofs.lemmas.List.{at_drop_more}
use Rattle.std.proofs.Math.Nat.{one-le-pow}
use Rattle.scasp_num.specs.Arithmetic.{within}
use Rattle.scasp_reader_tokens.specs.Numbers.{digits_value}

pub digits_value-append : (n : ℕ) (xs ys : List ℕ) → digits_value n (xs ++ ys) ≡ digits_value (digits_value n xs) ys
digits_value-append n [] ys = refl
digits_value-append n (x ∷ xs) ys = digits_value-append (10 * n + (x - 48)) xs ys

step-capped : (m n e : ℕ) → min (10 * min n m + e) m ≡ min (10 * n + e) m
step-capped m n e = omega arith

-- a number of which a front was cut down to m is cut down to m so too
pub digits_value-capped : (m n : ℕ) (ds : List ℕ) → min (digits_value (min n m) ds) m ≡ min (digits_value n ds) m
digits_value-capped m n [] = omega arith
digits_value-capped m n (d ∷ ds) =
    let e = d - 48 in
    sym (digits_value-capped m (10 * min n m + e) ds) ∙ ap (λ x. min (digits_value x ds) m) (step-capped m n e) ∙ digits_value-capped m (10 * n + e) ds

-- a digit more
pub digits_value-more : (m n : ℕ) (ds : List ℕ) (i : ℕ) → i < length ds → min (digits_value (min (min (n * 10) m + (get_or ds i 0 - 48)) m) (drop (i + 1) ds)) m ≡ min (digits_value n (drop i ds)) m
digits_value-more m n ds i h =
    let e = get_or ds i 0 - 48 in
    let cut : min (min (n * 10) m + e) m ≡ min (10 * n + e) m = omega arith in
    ap (λ x. min (digits_value x (drop (i + 1) ds)) m) cut ∙ digits_value-capped m (10 * n + e) (drop (i + 1) ds) ∙ sym (at_drop_more (λ r. min (digits_value n r) m) ds i 0 h)

pub power-more : (m x : ℕ) → min (min x m * 10) m ≡ min (x * 10) m
power-more m x = omega arith

below-capped : (v a b : ℕ) → a ≤ b → nat_lt (min v b) a ≡ nat_lt v a
below-capped v a b h = by (nat_lt v a) refl
  where
    by : (t : Bool) → nat_lt v a ≡ t → nat_lt (min v b) a ≡ t
    by true e = grind (arith, nat_tests)
    by false e = grind (arith, nat_tests)

-- what is cut down above M is above M as before
pub within-capped : (v : ℕ) → within (pos (min v (2 ^ 128 - 1))) ≡ within (pos v)
within-capped v = by (nat_lt v (2 ^ 127)) refl
  where
    by : (t : Bool) → nat_lt v (2 ^ 127) ≡ t → within (pos (min v (2 ^ 128 - 1))) ≡ within (pos v)
    by true e = let same : min v (2 ^ 128 - 1) ≡ v = grind (arith, nat_tests) in ap (λ n. within (pos n)) same
    by false e = rw (below-capped v (2 ^ 127) (2 ^ 128 - 1) (lit≤ tt) ∙ e) (rw e refl)

pub power-above : (m k : ℕ) → 0 < m → 0 < min (10 ^ k) m
power-above m k h = let one : 1 ≤ 10 ^ k = one-le-pow k 10 (lit< tt) in omega arith
