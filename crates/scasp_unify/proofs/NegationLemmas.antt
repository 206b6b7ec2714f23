-- A list entails a constraint exactly where the list with its negation has no valuation.
use Rattle.std.proofs.Common.{◌≡◌, ◌↔◌, ℕ, zero, suc, ◌==◌, ◌<◌, Bool, true, false, not, nat_eq, nat_lt, if◌then◌else◌, IsTrue, ℤ, ◌+ℤ◌, ◌*ℤ◌, List, [], ◌∷◌, ◌++◌, length, refl, sym, ap, ◌∙◌, arith}
use Rattle.std.specs.List.{list_all}
use Rattle.std.proofs.lemmas.Bool.{and_from, and_parts, eqb-true, ltb-true, true≢false}
use Rattle.std.proofs.lemmas.Bool.Decides.{Decides-eqb}
use Rattle.scasp_num.specs.declared.linear.Coeff.{Coeff}
use Rattle.scasp_num.specs.Linear.{negation}
use Rattle.scasp_num.proofs.Valuations.{negation-holds}
use Rattle.scasp_syntax.specs.Same.{same_tm}
use Rattle.scasp_syntax.specs.Tm.{Tm, Tms, var, num, app, nil, cons, items}
use Rattle.scasp_syntax.specs.Values.{Sub, Valuation, under, all_under, is_ground, are_ground}
use Rattle.scasp_syntax.specs.View.{tm_of}
use Rattle.scasp_syntax.specs.Constraints.{holds, is_number, has_shape, Meets, Sat, Entails}
use Rattle.scasp_syntax.specs.WellFormed.{is_below, are_below}
use Rattle.scasp_syntax.specs.RowTruth.{number_of, point}
use Rattle.scasp_num.specs.Values.{row_sum}
use Rattle.scasp_num.specs.Linear.{compares}
use Rattle.scasp_unify.specs.Negations.{new_parts, negated, is_con_below}
use Rattle.scasp_syntax.specs.declared.con.Con.{Con}
use Rattle.scasp_syntax.specs.declared.con.Con.TheVariants as con
use Rattle.scasp_syntax.proofs.SameLemmas.{tm_decided}
use Rattle.scasp_unify.proofs.PointLemmas.{bridge}

-- ---- values for variables from k on

abbrev set_from : ℕ → Tms → Sub → Sub
set_from k nil v = v
set_from k (cons t ts) v = λ y. if y == k then t else set_from (suc k) ts v y

set-below : (k : ℕ) (ts : Tms) (v : Sub) (y : ℕ) → y < k → set_from k ts v y ≡ v y
set-below k nil v y h = refl
set-below k (cons t ts) v y h = by (y == k) refl (set-below (suc k) ts v y (omega (arith, h)))
  where
    by : (b : Bool) → (y == k) ≡ b → set_from (suc k) ts v y ≡ v y → (if b then t else set_from (suc k) ts v y) ≡ v y
    by true e rest = let same = eqb-true y k e in absurd (omega (arith, h, same))
    by false e rest = rest

-- one variable below all of them does not count
parts-above : (k m n : ℕ) (t : Tm) (w : Sub) → k < m → all_under (λ y. if y == k then t else w y) (new_parts m n) ≡ all_under w (new_parts m n)
parts-above k m zero t w h = refl
parts-above k m (suc n) t w h = let a = by (m == k) refl in let b = parts-above k (suc m) n t w (omega (arith, h)) in cc
  where
    by : (b : Bool) → (m == k) ≡ b → (if b then t else w m) ≡ w m
    by true e = let same = eqb-true m k e in absurd (omega (arith, h, same))
    by false e = refl

set-parts : (k n : ℕ) (ts : Tms) (v : Sub) → length (items ts) ≡ n → all_under (set_from k ts v) (new_parts k n) ≡ ts
set-parts k zero nil v e = refl
set-parts k zero (cons t ts) v e = cc
set-parts k (suc n) nil v e = cc
set-parts k (suc n) (cons t ts) v e =
    let a = first (k == k) ((Decides-eqb k k).1 refl) in
    let b = parts-above k (suc k) n t (set_from (suc k) ts v) (omega arith) ∙ set-parts (suc k) n ts v (let f : length (items ts) ≡ n = cc in f) in
    cc
  where
    first : (b : Bool) → b ≡ true → (if b then t else set_from (suc k) ts v k) ≡ t
    first true f = refl
    first false f = cc

set-ground : (k : ℕ) (ts : Tms) (v : Sub) → are_ground ts ≡ true → ((y : ℕ) → is_ground (v y) ≡ true) → (y : ℕ) → is_ground (set_from k ts v y) ≡ true
set-ground k nil v g h y = h y
set-ground k (cons t ts) v g h y = by (y == k) (set-ground (suc k) ts v parts.1 h y)
  where
    parts : (is_ground t ≡ true) × (are_ground ts ≡ true)
    parts = and_parts (is_ground t) (are_ground ts) g

    by : (b : Bool) → is_ground (set_from (suc k) ts v y) ≡ true → is_ground (if b then t else set_from (suc k) ts v y) ≡ true
    by true rest = parts.0
    by false rest = rest

-- ---- what is below k does not see them

mutual
  under-below : (k : ℕ) (w v : Sub) (t : Tm) → ((y : ℕ) → y < k → w y ≡ v y) → is_below k t ≡ true → under w t ≡ under v t
  under-below k w v (var y) h e = h y (ltb-true y k e)
  under-below k w v (num q) h e = refl
  under-below k w v (app f ts) h e = ap (app f) (all-under-below k w v ts h e)

  all-under-below : (k : ℕ) (w v : Sub) (ts : Tms) → ((y : ℕ) → y < k → w y ≡ v y) → are_below k ts ≡ true → all_under w ts ≡ all_under v ts
  all-under-below k w v nil h e = refl
  all-under-below k w v (cons t ts) h e =
      let p = and_parts (is_below k t) (are_below k ts) e in
      let a = under-below k w v t h p.0 in
      let b = all-under-below k w v ts h p.1 in cc

sum-below : (k : ℕ) (w v : Sub) (ks : List Coeff) → ((y : ℕ) → y < k → w y ≡ v y) → list_all (λ j. nat_lt j.x k) ks ≡ true → row_sum (point w) ks ≡ row_sum (point v) ks
sum-below k w v [] h e = refl
sum-below k w v (j ∷ js) h e =
    let p = and_parts (nat_lt j.x k) (list_all (λ j. nat_lt j.x k) js) e in
    let value = ap number_of (h j.x (ltb-true j.x k p.0)) in
    let rest = sum-below k w v js h p.1 in
    λ i. (j.c *ℤ (value i).num *ℤ (rest i).1 +ℤ (rest i).0 *ℤ (value i).den, (value i).den *ℤ (rest i).1)

holds-below : (k : ℕ) (w v : Sub) (c : Con) → ((y : ℕ) → y < k → w y ≡ v y) → is_con_below k c ≡ true → holds v c ≡ true → holds w c ≡ true
holds-below k w v (con.Eq t u) h e f =
    let p = and_parts (is_below k (tm_of t)) (is_below k (tm_of u)) e in
    rw (under-below k w v (tm_of t) h p.0, under-below k w v (tm_of u) h p.1) f
holds-below k w v (con.Neq t u) h e f =
    let p = and_parts (is_below k (tm_of t)) (is_below k (tm_of u)) e in
    rw (under-below k w v (tm_of t) h p.0, under-below k w v (tm_of u) h p.1) f
holds-below k w v (con.NotShape x g n) h e f = rw (h x (ltb-true x k e)) f
holds-below k w v (con.Num t) h e f = rw (under-below k w v (tm_of t) h e) f
holds-below k w v (con.NotNum t) h e f = rw (under-below k w v (tm_of t) h e) f
holds-below k w v (con.Row r) h e f = ap (λ (z : ℤ × ℤ). compares r.op (z.0 +ℤ r.constant *ℤ z.1)) (sum-below k w v r.coeffs h e) ∙ f

all-below : (k : ℕ) (w v : Sub) (cs : List Con) → ((y : ℕ) → y < k → w y ≡ v y) → list_all (is_con_below k) cs ≡ true → list_all (holds v) cs ≡ true → list_all (holds w) cs ≡ true
all-below k w v [] h e f = refl
all-below k w v (c ∷ cs) h e f =
    let p = and_parts (is_con_below k c) (list_all (is_con_below k) cs) e in
    let q = and_parts (holds v c) (list_all (holds v) cs) f in
    and_from (holds w c) (list_all (holds w) cs) (holds-below k w v c h p.0 q.0) (all-below k w v cs h p.1 q.1)

-- ---- a constraint and its negation

all-append : (p : Con → Bool) (cs : List Con) (c : Con) → list_all p (cs ++ c ∷ []) ≡ true → (list_all p cs ≡ true) × (p c ≡ true)
all-append p [] c e = (refl, (and_parts (p c) true e).0)
all-append p (d ∷ ds) c e =
    let a = and_parts (p d) (list_all p (ds ++ c ∷ [])) e in
    let b = all-append p ds c a.1 in
    (and_from (p d) (list_all p ds) a.0 b.0, b.1)

append-all : (p : Con → Bool) (cs : List Con) (c : Con) → list_all p cs ≡ true → p c ≡ true → list_all p (cs ++ c ∷ []) ≡ true
append-all p [] c e f = and_from (p c) true f refl
append-all p (d ∷ ds) c e f =
    let a = and_parts (p d) (list_all p ds) e in
    and_from (p d) (list_all p (ds ++ c ∷ [])) a.0 (append-all p ds c a.1 f)

not-true : (b : Bool) → not b ≡ true → b ≡ true → ⊥
not-true true e f = cc
not-true false e f = cc

parts-length : (v : Sub) (k n : ℕ) → length (items (all_under v (new_parts k n))) ≡ n
parts-length v k zero = refl
parts-length v k (suc n) = ap suc (parts-length v (suc k) n)

not-both : (v : Sub) (k : ℕ) (c : Con) → holds v (negated k c) ≡ true → holds v c ≡ true → ⊥
not-both v k (con.Eq t u) e f = not-true (same_tm (under v (tm_of t)) (under v (tm_of u))) e f
not-both v k (con.Neq t u) e f = not-true (same_tm (under v (tm_of t)) (under v (tm_of u))) f e
not-both v k (con.NotShape x g n) e f =
    let value : v x ≡ app g (all_under v (new_parts k n)) = (tm_decided (v x) (app g (all_under v (new_parts k n)))).0 e in
    let shaped : has_shape g n (v x) ≡ true = ap (has_shape g n) value ∙ and_from (nat_eq g g) (nat_eq (length (items (all_under v (new_parts k n)))) n) ((Decides-eqb g g).1 refl) ((Decides-eqb (length (items (all_under v (new_parts k n)))) n).1 (parts-length v k n)) in
    not-true (has_shape g n (v x)) f shaped
not-both v k (con.Num t) e f = not-true (is_number (under v (tm_of t))) e f
not-both v k (con.NotNum t) e f = not-true (is_number (under v (tm_of t))) f e
not-both v k (con.Row r) e f = (negation-holds r (negation r) refl (point v)).0 ((bridge v (negation r)).0 e) ((bridge v r).0 f)

flip : (b : Bool) → b ≡ false → not b ≡ true
flip true e = cc
flip false e = refl

flip-back : (b : Bool) → not b ≡ false → b ≡ true
flip-back true e = refl
flip-back false e = cc

-- the term has the shape
shape-of : (g n : ℕ) (t : Tm) → has_shape g n t ≡ true → (ts : Tms) × (t ≡ app g ts) × (length (items ts) ≡ n)
shape-of g n (var x) e = cc
shape-of g n (num q) e = cc
shape-of g n (app f ts) e =
    let p = and_parts (nat_eq f g) (nat_eq (length (items ts)) n) e in
    (ts, ap (λ h. app h ts) (eqb-true f g p.0), eqb-true (length (items ts)) n p.1)

-- a valuation that meets the list and makes the constraint false gives one of the list with the negation
with-negation : (cs : List Con) (c : Con) (k : ℕ) (v : Valuation) → list_all (is_con_below k) cs ≡ true → is_con_below k c ≡ true → Meets v.of cs → holds v.of c ≡ false → Sat (cs ++ negated k c ∷ [])
with-negation cs (con.Eq t u) k v b d m e = record { by = v; meets = append-all (holds v.of) cs (con.Neq t u) m (flip (same_tm (under v.of (tm_of t)) (under v.of (tm_of u))) e) }
with-negation cs (con.Neq t u) k v b d m e = record { by = v; meets = append-all (holds v.of) cs (con.Eq t u) m (flip-back (same_tm (under v.of (tm_of t)) (under v.of (tm_of u))) e) }
with-negation cs (con.Num t) k v b d m e = record { by = v; meets = append-all (holds v.of) cs (con.NotNum t) m (flip (is_number (under v.of (tm_of t))) e) }
with-negation cs (con.NotNum t) k v b d m e = record { by = v; meets = append-all (holds v.of) cs (con.Num t) m (flip-back (is_number (under v.of (tm_of t))) e) }
with-negation cs (con.Row r) k v b d m e =
    record { by = v; meets = append-all (holds v.of) cs (con.Row (negation r)) m ((bridge v.of (negation r)).1 ((negation-holds r (negation r) refl (point v.of)).1 (λ h. true≢false (sym ((bridge v.of r).1 h) ∙ e)))) }
with-negation cs (con.NotShape x g n) k v b d m e = record { by = other; meets = append-all (holds w) cs (con.Eq _ _) (all-below k w v.of cs below b m) equal }
  where
    shaped : (ts : Tms) × (v.of x ≡ app g ts) × (length (items ts) ≡ n)
    shaped = shape-of g n (v.of x) (flip-back (has_shape g n (v.of x)) e)

    w : Sub
    w = set_from k shaped.0 v.of

    other : Valuation
    other = record { of = set_from k shaped.0 v.of; ground = set-ground k shaped.0 v.of (ap is_ground (sym shaped.1) ∙ v.ground x) v.ground }

    below : (y : ℕ) → y < k → w y ≡ v.of y
    below y h = set-below k shaped.0 v.of y h

    equal : same_tm (w x) (app g (all_under w (new_parts k n))) ≡ true
    equal = (tm_decided (w x) (app g (all_under w (new_parts k n)))).1 (below x (ltb-true x k d) ∙ shaped.1 ∙ ap (app g) (sym (set-parts k n shaped.0 v.of shaped.2)))

pub entailed : (cs : List Con) (c : Con) (k : ℕ) → list_all (is_con_below k) cs ≡ true → is_con_below k c ≡ true → Entails cs c ↔ (Sat (cs ++ negated k c ∷ []) → ⊥)
entailed cs c k b d = (to, from)
  where
    to : Entails cs c → Sat (cs ++ negated k c ∷ []) → ⊥
    to h s = let p = all-append (holds s.by.of) cs (negated k c) s.meets in not-both s.by.of k c p.1 (h s.by p.0)

    from : (Sat (cs ++ negated k c ∷ []) → ⊥) → Entails cs c
    from none v m = by (holds v.of c) refl
      where
        by : (a : Bool) → holds v.of c ≡ a → IsTrue (holds v.of c)
        by true e = e
        by false e = absurd (none (with-negation cs c k v b d m e))

-- what is entailed holds of each valuation anyway
pub adds-nothing : (cs : List Con) (c : Con) → Entails cs c → (v : Valuation) → Meets v.of (cs ++ c ∷ []) ↔ Meets v.of cs
adds-nothing cs c h v = ((λ m. (all-append (holds v.of) cs c m).0), (λ m. append-all (holds v.of) cs c m (h v m)))
