-- The variables that stand for the parts of a term.
use Rattle.std.proofs.Common.{◌≡◌, ◌∙◌, ℕ, zero, suc, ◌+◌, ◌<◌, ◌≤◌, Bool, true, false, not, nat_eq, length, refl, ap, inl, inr, arith}
use Rattle.std.proofs.lemmas.Bool.{cond_both, false≢true, and_parts, and_from, or_cases, or_left, or_right, or_parts, not-true, not_from_false, cond-true, cond-false, cases_Bool}
use Rattle.std.proofs.lemmas.Bool.Decides.{Decides-eqb}
use Rattle.scasp_syntax.specs.Tm.{Tm, Tms, nil, cons, items}
use Rattle.scasp_syntax.specs.Values.{Sub, is_ground, are_ground, all_under}
use Rattle.scasp_lines.specs.Known.{are_known}
use Rattle.scasp_unify.specs.Negations.{new_parts}
use Rattle.scasp_lines.specs.Opened.{is_part, none_known}
use Rattle.scasp_lines.specs.Ways.{set_to, set_all}

pub nat-eq : (x y : ℕ) → nat_eq x y ≡ true → x ≡ y
nat-eq x y h = (Decides-eqb x y).0 h

pub nat-self : (x : ℕ) → nat_eq x x ≡ true
nat-self x = (Decides-eqb x x).1 refl

pub part-above : (k n y : ℕ) → is_part k n y ≡ true → k ≤ y
part-above k zero y h = absurd (false≢true h)
part-above k (suc n) y h =
    elim (or_cases (nat_eq y k) (is_part (suc k) n y) h) [
      | inl e ↦ (let q = nat-eq y k e in omega (arith, q))
      | inr j ↦ (let q = part-above (suc k) n y j in omega (arith, q))
    ]

pub part-unknown : (known : ℕ → Bool) (k n y : ℕ) → none_known known k n ≡ true → is_part k n y ≡ true → known y ≡ false
part-unknown known k zero y h i = absurd (false≢true i)
part-unknown known k (suc n) y h i =
    let p = and_parts (not (known k)) (none_known known (suc k) n) h in
    elim (or_cases (nat_eq y k) (is_part (suc k) n y) i) [
      | inl e ↦ ap known (nat-eq y k e) ∙ not-true (known k) p.0
      | inr j ↦ part-unknown known (suc k) n y p.1 j
    ]

pub set-off : (v : Sub) (k : ℕ) (ts : Tms) (y : ℕ) → is_part k (length (items ts)) y ≡ false → set_all v k ts y ≡ v y
set-off v k nil y h = refl
set-off v k (cons t ts) y h =
    let p = or_parts (nat_eq y k) (is_part (suc k) (length (items ts)) y) h in
    cond-false (nat_eq y k) t (set_all v (suc k) ts y) p.0 ∙ set-off v (suc k) ts y p.1

-- parts from j on do not see what k below j stands for
pub parts-later : (v : Sub) (k : ℕ) (t : Tm) (j n : ℕ) → k < j → all_under (set_to v k t) (new_parts j n) ≡ all_under v (new_parts j n)
parts-later v k t j zero l = refl
parts-later v k t j (suc n) l =
    let other : nat_eq j k ≡ false = (elim (cases_Bool (nat_eq j k)) [ inl e ↦ (let q = nat-eq j k e in absurd (omega (arith, q, l))) | inr e ↦ e ]) in
    let a = cond-false (nat_eq j k) t (v j) other in
    let b = parts-later v k t (suc j) n (omega (arith, l)) in cc

pub set-on : (v : Sub) (k : ℕ) (ts : Tms) → all_under (set_all v k ts) (new_parts k (length (items ts))) ≡ ts
set-on v k nil = refl
set-on v k (cons t ts) =
    let a = cond-true (nat_eq k k) t (set_all v (suc k) ts k) (nat-self k) in
    let b = parts-later (set_all v (suc k) ts) k t (suc k) (length (items ts)) (omega arith) in
    let c = set-on v (suc k) ts in cc

pub long-parts : (w : Sub) (k m : ℕ) → length (items (all_under w (new_parts k m))) ≡ m
long-parts w k zero = refl
long-parts w k (suc m) = ap suc (long-parts w (suc k) m)

pub length-parts : (k m : ℕ) → length (items (new_parts k m)) ≡ m
length-parts k zero = refl
length-parts k (suc m) = ap suc (length-parts (suc k) m)

pub first_of : Tms → Tm → Tm
first_of nil t = t
first_of (cons u us) t = u

pub rest_of : Tms → Tms
rest_of nil = nil
rest_of (cons u us) = us

pub pointwise : (a b : Sub) (k m : ℕ) → all_under a (new_parts k m) ≡ all_under b (new_parts k m) → (y : ℕ) → is_part k m y ≡ true → a y ≡ b y
pointwise a b k zero e y h = absurd (false≢true h)
pointwise a b k (suc m) e y h =
    elim (or_cases (nat_eq y k) (is_part (suc k) m y) h) [
      | inl i ↦ (let q = nat-eq y k i in let first = first-same e in cc)
      | inr j ↦ pointwise a b (suc k) m (rest-same e) y j
    ]
  where
    first-same : all_under a (new_parts k (suc m)) ≡ all_under b (new_parts k (suc m)) → a k ≡ b k
    first-same same = cc

    rest-same : all_under a (new_parts k (suc m)) ≡ all_under b (new_parts k (suc m)) → all_under a (new_parts (suc k) m) ≡ all_under b (new_parts (suc k) m)
    rest-same same = cc

pub parts-pass : (j : ℕ → Bool) (k m : ℕ) → ((y : ℕ) → is_part k m y ≡ true → j y ≡ true) → are_known j (new_parts k m) ≡ true
parts-pass j k zero h = refl
parts-pass j k (suc m) h =
    and_from (j k) (are_known j (new_parts (suc k) m)) (h k (or_left (nat_eq k k) (is_part (suc k) m k) (nat-self k)))
    (parts-pass j (suc k) m (λ y i. h y (or_right (nat_eq y k) (is_part (suc k) m y) i)))

pub new-parts : (j : ℕ → Bool) (k m : ℕ) → ((y : ℕ) → k ≤ y → j y ≡ false) → none_known j k m ≡ true
new-parts j k zero h = refl
new-parts j k (suc m) h =
    and_from (not (j k)) (none_known j (suc k) m) (not_from_false (j k) (h k (omega arith)))
    (new-parts j (suc k) m (λ y l. h y (omega (arith, l))))

pub part-below : (k m y : ℕ) → is_part k m y ≡ true → y < k + m
part-below k zero y h = absurd (false≢true h)
part-below k (suc m) y h =
    elim (or_cases (nat_eq y k) (is_part (suc k) m y) h) [
      | inl e ↦ (let q = nat-eq y k e in omega (arith, q))
      | inr j ↦ (let q = part-below (suc k) m y j in omega (arith, q))
    ]

pub length-under : (v : Sub) (ts : Tms) → length (items (all_under v ts)) ≡ length (items ts)
length-under v nil = refl
length-under v (cons t ts) = ap suc (length-under v ts)

-- values stay ground where ground terms are put in
pub set_to-ground : (v : Sub) (x : ℕ) (t : Tm) → is_ground t ≡ true → ((y : ℕ) → is_ground (v y) ≡ true) → (y : ℕ) → is_ground (set_to v x t y) ≡ true
set_to-ground v x t g h y = cond_both (nat_eq y x) t (v y) (λ z. is_ground z ≡ true) (λ _. g) (λ _. h y)

pub set_all-ground : (v : Sub) (k : ℕ) (ts : Tms) → are_ground ts ≡ true → ((y : ℕ) → is_ground (v y) ≡ true) → (y : ℕ) → is_ground (set_all v k ts y) ≡ true
set_all-ground v k nil g h y = h y
set_all-ground v k (cons t ts) g h y =
    let p = and_parts (is_ground t) (are_ground ts) g in
    set_to-ground (set_all v (suc k) ts) k t p.0 (set_all-ground v (suc k) ts p.1 h) y
