-- The ways of giving variables members, by number.
use Rattle.std.proofs.Common.{◌≡◌, ◌∷◌, ◌++◌, ◌∙◌, ℕ, zero, suc, ◌+◌, ◌-◌, ◌*◌, ◌/◌, ◌%◌, ◌^◌, ◌<◌, ◌≤◌, nat_lt, List, [], length, map, slice_get, Option, None, Some, ◌⊎◌, inl, inr, refl, sym, ap, subst, arith, length-append, append_assoc, add-one}
use Rattle.std.specs.Prelude.{slice_index_or, Result, Ok, Err, IfOk}
use Rattle.std.specs.List.{flat_map}
use Rattle.std.specs.Option.{option_map}
use Rattle.std.proofs.lemmas.List.{length-map}
use Rattle.std.proofs.Math.Nat.{div-eq_of_lt, mod-eq_of_lt, mod-lt, add-div_left, add-mod_left, mul-zero, zero-mul, suc-mul, pow-succ', pow-zero, mul_comm, mul-div_cancel_left, one-le-pow, div-lt_iff_lt-mul}
use Rattle.std.proofs.lemmas.Bool.{true≢false, cases_Bool}
use Rattle.std.proofs.lemmas.Bool.Decides.{Decides-ltb}
use Rattle.std.proofs.lemmas.Option.{slice_get-map}
use Rattle.scasp_model.specs.Grounding.{choices}
use Rattle.scasp_syntax.specs.Tm.{Tm, var}
use Rattle.scasp_ground.specs.Inside.Chosen.{chosen}

get-left : {A : Type 0} (xs ys : List A) (i : ℕ) → i < length xs → slice_get (xs ++ ys) i ≡ slice_get xs i
get-left [] ys i h = absurd (omega (arith, h))
get-left (x ∷ xs) ys zero h = refl
get-left (x ∷ xs) ys (suc i) h = get-left xs ys i (omega (arith, h))

get-right : {A : Type 0} (xs ys : List A) (i j : ℕ) → i ≡ length xs + j → slice_get (xs ++ ys) i ≡ slice_get ys j
get-right [] ys i j e = ap (slice_get ys) (omega (arith, e))
get-right (x ∷ xs) ys zero j e = absurd (omega (arith, e))
get-right (x ∷ xs) ys (suc i) j e = get-right xs ys i j (omega (arith, e))

-- ---- lists of blocks of one length

module _ {A B : Type 0} (f : A → List B) (size : ℕ) (each : (t : A) → length (f t) ≡ size) where
  pub blocks-length : (ts : List A) → length (flat_map f ts) ≡ length ts * size
  blocks-length [] = sym (zero-mul size)
  blocks-length (t ∷ ts) =
      let a = length-append (f t) (flat_map f ts) in
      let b = blocks-length ts in
      let c = suc-mul (length ts) size in
      omega (arith, a, b, c, each t)

  pub block-at : (ts : List A) (i : ℕ) (d : A) → 0 < size → i < length ts * size → slice_get (flat_map f ts) i ≡ slice_get (f (slice_index_or ts (i / size) d)) (i % size)
  block-at [] i d p h = absurd (omega (arith, h, zero-mul size))
  block-at (t ∷ ts) i d p h = elim (le_or_gt i) [
    | inl s ↦
        get-left (f t) (flat_map f ts) i (omega (arith, s, each t))
        ∙ (λ j. slice_get (f (slice_index_or (t ∷ ts) (sym (div-eq_of_lt s) j) d)) (sym (mod-eq_of_lt s) j))
    | inr r ↦
        (let k : ℕ = i - size in
        let back : i ≡ size + k = omega (arith, r) in
        let up : (size + k) / size ≡ suc (k / size) = add-div_left k p ∙ add-one (k / size) in
        get-right (f t) (flat_map f ts) i k (omega (arith, back, each t))
        ∙ block-at ts k d p (omega (arith, h, r, suc-mul (length ts) size))
        ∙ (λ j. slice_get (f (slice_index_or (t ∷ ts) (sym up j) d)) (sym (add-mod_left size k) j))
        ∙ (λ j. slice_get (f (slice_index_or (t ∷ ts) (sym back j / size) d)) (sym back j % size)))
  ]
    where
      le_or_gt : (i : ℕ) → (i < size) ⊎ (size ≤ i)
      le_or_gt i = elim (cases_Bool (nat_lt i size)) [
        | inl t ↦ inl ((Decides-ltb i size).0 t)
        | inr f ↦
            (let no : ¬ (i < size) = λ h. true≢false (sym ((Decides-ltb i size).1 h) ∙ f) in
            inr (omega (arith, no)))
      ]

above-zero : (a b i : ℕ) → i < a * b → 0 < b
above-zero a zero i h = absurd (omega (arith, h, mul-zero a))
above-zero a (suc b) i h = omega arith

pub choices-length : (d : List Tm) (n : ℕ) → length (choices d n) ≡ length d ^ n
choices-length d zero = sym (pow-zero (length d))
choices-length d (suc n) =
    blocks-length (λ t. map (λ ts. t ∷ ts) (choices d n)) (length d ^ n) (λ t. length-map (choices d n) (λ ts. t ∷ ts) ∙ choices-length d n) d
    ∙ sym (pow-succ' (length d) n)

pub chosen-at : (d : List Tm) (n i : ℕ) → i < length d ^ n → slice_get (choices d n) i ≡ Some (chosen d n i)
chosen-at d zero zero h = refl
chosen-at d zero (suc i) h = absurd (omega (arith, h, pow-zero (length d)))
chosen-at d (suc n) i h =
    let size : ℕ = length d ^ n in
    let below : i < length d * size = subst (λ z. i < z) (pow-succ' (length d) n) h in
    let some : 0 < size = above-zero (length d) size i below in
    let t : Tm = slice_index_or d (i / size) (var 0) in
    block-at (λ t. map (λ ts. t ∷ ts) (choices d n)) size (λ t. length-map (choices d n) (λ ts. t ∷ ts) ∙ choices-length d n) d i (var 0) some below
    ∙ slice_get-map (λ ts. t ∷ ts) (choices d n) (i % size)
    ∙ ap (option_map (λ ts. t ∷ ts)) (chosen-at d n (i % size) (mod-lt i some))

-- ---- the digits one after the other

pub block-down : (m n v block rest : ℕ) → v < n → block ≡ m ^ (n - v) → rest < block → (block / m ≡ m ^ (n - (v + 1))) × (0 < block / m)
block-down m n v block rest h b r =
    let k : ℕ = n - (v + 1) in
    let up : n - v ≡ suc k = omega (arith, h) in
    let is : block ≡ m * m ^ k = b ∙ ap (λ z. m ^ z) up ∙ pow-succ' m k in
    let below : rest < m ^ k * m = subst (λ z. rest < z) (is ∙ mul_comm m (m ^ k)) r in
    let some : 0 < m = above-zero (m ^ k) m rest below in
    let down : block / m ≡ m ^ k = ap (λ z. z / m) is ∙ mul-div_cancel_left (m ^ k) some in
    let one : 1 ≤ m ^ k = one-le-pow k m some in
    (down, omega (arith, down, one))

pub digit-next : (d : List Tm) (n v block rest : ℕ) (made all : List Tm) → v < n → block ≡ length d ^ (n - v) → rest < block → made ++ chosen d (n - v) rest ≡ all
    → (made ++ slice_index_or d (rest / (block / length d)) (var 0) ∷ []) ++ chosen d (n - (v + 1)) (rest % (block / length d)) ≡ all
digit-next d n v block rest made all h b r e =
    let k : ℕ = n - (v + 1) in
    let up : n - v ≡ suc k = omega (arith, h) in
    let down : block / length d ≡ length d ^ k = (block-down (length d) n v block rest h b r).0 in
    append_assoc made (slice_index_or d (rest / (block / length d)) (var 0) ∷ []) (chosen d k (rest % (block / length d)))
    ∙ (λ j. made ++ slice_index_or d (rest / down j) (var 0) ∷ chosen d k (rest % down j))
    ∙ ap (λ z. made ++ chosen d z rest) (sym up)
    ∙ e

index-got : (d : List Tm) (i : ℕ) (t u : Tm) → slice_get d i ≡ Some t → slice_index_or d i u ≡ t
index-got [] i t u e = cc
index-got (x ∷ d) zero t u e = cc
index-got (x ∷ d) (suc i) t u e = index-got d i t u e

within-got : (d : List Tm) (i : ℕ) → i < length d → slice_get d i ≡ None → ⊥
within-got [] i h e = omega (arith, h)
within-got (x ∷ d) zero h e = cc
within-got (x ∷ d) (suc i) h e = within-got d i (omega (arith, h)) e

-- a digit is the place of a member
pub digit-within : (d : List Tm) (n v m block rest : ℕ) → v < n → m ≡ length d → block ≡ length d ^ (n - v) → rest < block → slice_get d (rest / (block / m)) ≡ None → ⊥
digit-within d n v m block rest h l b r e =
    let k : ℕ = n - (v + 1) in
    let up : n - v ≡ suc k = omega (arith, h) in
    let p = block-down (length d) n v block rest h b r in
    let is : block ≡ length d * (block / length d) = b ∙ ap (λ z. length d ^ z) up ∙ pow-succ' (length d) k ∙ ap (λ z. length d * z) (sym p.0) in
    let below : rest < length d * (block / length d) = subst (λ z. rest < z) is r in
    let place : rest / (block / length d) < length d = (div-lt_iff_lt-mul p.1).1 below in
    within-got d (rest / (block / length d)) place (ap (λ z. slice_get d (rest / (block / z))) (sym l) ∙ e)

pub digit-put : (d : List Tm) (n v m block rest : ℕ) (made new all : List Tm) (t : Tm) → v < n → m ≡ length d → block ≡ length d ^ (n - v) → rest < block
    → made ++ chosen d (n - v) rest ≡ all → slice_get d (rest / (block / m)) ≡ Some t → new ≡ made ++ t ∷ [] → new ++ chosen d (n - (v + 1)) (rest % (block / m)) ≡ all
digit-put d n v m block rest made new all t h l b r e g p =
    let got : slice_index_or d (rest / (block / length d)) (var 0) ≡ t = index-got d (rest / (block / length d)) t (var 0) (ap (λ z. slice_get d (rest / (block / z))) (sym l) ∙ g) in
    let put : new ≡ made ++ slice_index_or d (rest / (block / length d)) (var 0) ∷ [] = p ∙ ap (λ z. made ++ z ∷ []) (sym got) in
    ap (λ z. z ++ chosen d (n - (v + 1)) (rest % (block / m))) put
    ∙ ap (λ z. (made ++ slice_index_or d (rest / (block / length d)) (var 0) ∷ []) ++ chosen d (n - (v + 1)) (rest % (block / z))) l
    ∙ digit-next d n v block rest made all h b r e

pub block-next : (m l n v block rest : ℕ) → v < n → m ≡ l → block ≡ l ^ (n - v) → rest < block → (block / m ≡ l ^ (n - (v + 1))) × (rest % (block / m) < block / m)
block-next m l n v block rest h e b r =
    let p = block-down l n v block rest h b r in
    let some : 0 < block / m = subst (λ z. 0 < block / z) (sym e) p.1 in
    (ap (λ z. block / z) e ∙ p.0, mod-lt rest some)

-- what follows of the value, where there is one
pub told : {A E : Type 0} (r : Result A E) (P Q : A → Type 0) → IfOk r P → ((x : A) → P x → Q x) → IfOk r Q
told (Ok x) P Q h f = f x h
told (Err e) P Q h f = h
