-- What a variable reads as, by the place of its first binding from a place on.
use Rattle.std.specs.Prelude.{◌≡◌, ◌≤◌, ◌+◌, ℕ, zero, suc, Bool, true, false, nat_eq, if◌then◌else◌, List, [], ◌∷◌, drop, Option, None, Some, refl}
use Rattle.std.proofs.Common.{arith, ap, sym, subst, ◌∙◌}
use Rattle.std.proofs.lemmas.Bool.{true≢false}
use Rattle.std.proofs.lemmas.Bool.Decides.{Decides-eqb}
use Rattle.scasp_syntax.specs.Tm.{var}
use Rattle.scasp_syntax.specs.Values.{under}
use Rattle.scasp_syntax.specs.View.{tm_of}
use Rattle.scasp_unify.specs.Solving.{sub_of}
use Rattle.scasp_unify.specs.declared.bindings.Binding.{Binding}
use Rattle.scasp_bound.specs.Inside.Gaps.{first_from, is_of, item, present}

-- ---- from a place on

none_later : (from j x : ℕ) (os : List (Option Binding)) → first_from j x os ≡ None → first_from (j + from) x (drop from os) ≡ None
none_later zero j x os h = let n : j ≡ j + 0 = omega arith in subst (λ (m : ℕ). first_from m x os ≡ None) n h
none_later (suc from) j x [] h = refl
none_later (suc from) j x (o ∷ os) h = by (is_of x o) h (none_later from (suc j) x os)
  where
    by : (c : Bool) → (if c then Some j else first_from (suc j) x os) ≡ None → (first_from (suc j) x os ≡ None → first_from (suc j + from) x (drop from os) ≡ None) → first_from (j + suc from) x (drop from os) ≡ None
    by true e r = absurd (cc e)
    by false e r = let n : suc j + from ≡ j + suc from = omega arith in subst (λ (m : ℕ). first_from m x (drop from os) ≡ None) n (r e)

some_later : (from j k x : ℕ) (os : List (Option Binding)) → first_from j x os ≡ Some k → j + from ≤ k → first_from (j + from) x (drop from os) ≡ Some k
some_later zero j k x os h l = let n : j ≡ j + 0 = omega arith in subst (λ (m : ℕ). first_from m x os ≡ Some k) n h
some_later (suc from) j k x [] h l = absurd (cc h)
some_later (suc from) j k x (o ∷ os) h l = by (is_of x o) h (some_later from (suc j) k x os)
  where
    by : (c : Bool) → (if c then Some j else first_from (suc j) x os) ≡ Some k → (first_from (suc j) x os ≡ Some k → suc j + from ≤ k → first_from (suc j + from) x (drop from os) ≡ Some k) → first_from (j + suc from) x (drop from os) ≡ Some k
    by true e r = let m : j ≡ k = cc e in absurd (omega (arith, m, l))
    by false e r = let n : suc j + from ≡ j + suc from = omega arith in subst (λ (m : ℕ). first_from m x (drop from os) ≡ Some k) n (r e (omega (arith, l)))

pub none_after : (from x : ℕ) (os : List (Option Binding)) → first_from 0 x os ≡ None → None ≡ first_from from x (drop from os)
none_after from x os h = let n : 0 + from ≡ from = omega arith in sym (subst (λ (m : ℕ). first_from m x (drop from os) ≡ None) n (none_later from 0 x os h))

pub some_after : (from k x : ℕ) (os : List (Option Binding)) → first_from 0 x os ≡ Some k → from ≤ k → Some k ≡ first_from from x (drop from os)
some_after from k x os h l = let n : 0 + from ≡ from = omega arith in sym (subst (λ (m : ℕ). first_from m x (drop from os) ≡ Some k) n (some_later from 0 k x os h (omega (arith, l))))

pub at_least : (j k x : ℕ) (os : List (Option Binding)) → first_from j x os ≡ Some k → j ≤ k
at_least j k x [] h = absurd (cc h)
at_least j k x (o ∷ os) h = by (is_of x o) h (at_least (suc j) k x os)
  where
    by : (c : Bool) → (if c then Some j else first_from (suc j) x os) ≡ Some k → (first_from (suc j) x os ≡ Some k → suc j ≤ k) → j ≤ k
    by true e r = let m : j ≡ k = cc e in omega (arith, m)
    by false e r = omega (arith, r e)

-- ---- what the variable reads as

turned : (x y : ℕ) (c : Bool) → nat_eq x y ≡ c → nat_eq y x ≡ c
turned x y true h = (Decides-eqb y x).1 (sym ((Decides-eqb x y).0 h))
turned x y false h = by (nat_eq y x) refl
  where
    by : (c : Bool) → nat_eq y x ≡ c → c ≡ false
    by true e = absurd (true≢false (sym ((Decides-eqb x y).1 (sym ((Decides-eqb y x).0 e))) ∙ h))
    by false e = refl

pub passed_by : (b : Binding) (bs : List Binding) (x : ℕ) → nat_eq b.x x ≡ false → sub_of (b ∷ bs) x ≡ sub_of bs x
passed_by b bs x h = ap (λ (c : Bool). under (sub_of bs) (if c then tm_of b.term else var x)) (turned b.x x false h)

pub bound_by : (b : Binding) (bs : List Binding) (x : ℕ) → nat_eq b.x x ≡ true → sub_of (b ∷ bs) x ≡ under (sub_of bs) (tm_of b.term)
bound_by b bs x h = ap (λ (c : Bool). under (sub_of bs) (if c then tm_of b.term else var x)) (turned b.x x true h)

-- an item that is not of the variable changes nothing of what it reads as
missed : (o : Option Binding) (os : List (Option Binding)) (x : ℕ) → is_of x o ≡ false → sub_of (present (o ∷ os)) x ≡ sub_of (present os) x
missed None os x h = refl
missed (Some b) os x h = passed_by b (present os) x h

read_none_from : (j x : ℕ) (os : List (Option Binding)) → first_from j x os ≡ None → sub_of (present os) x ≡ var x
read_none_from j x [] h = refl
read_none_from j x (o ∷ os) h = by (is_of x o) refl h (read_none_from (suc j) x os)
  where
    by : (c : Bool) → is_of x o ≡ c → (if c then Some j else first_from (suc j) x os) ≡ None → (first_from (suc j) x os ≡ None → sub_of (present os) x ≡ var x) → sub_of (present (o ∷ os)) x ≡ var x
    by true m e r = absurd (cc e)
    by false m e r = missed o os x m ∙ r e

read_next_from : (j k x : ℕ) (os : List (Option Binding)) (b : Binding) → first_from j x os ≡ Some (j + k) → item os k ≡ Some b → sub_of (present os) x ≡ under (sub_of (present (drop (suc k) os))) (tm_of b.term)
read_next_from j k x [] b h g = absurd (cc h)
read_next_from j zero x (o ∷ os) b h g = by (is_of x o) refl h
  where
    hit : (p : Option Binding) → p ≡ Some b → is_of x p ≡ true → sub_of (present (p ∷ os)) x ≡ under (sub_of (present os)) (tm_of b.term)
    hit None e m = absurd (cc e)
    hit (Some c) e m = let s : c ≡ b = cc e in subst (λ (d : Binding). sub_of (c ∷ present os) x ≡ under (sub_of (present os)) (tm_of d.term)) s (bound_by c (present os) x m)

    by : (c : Bool) → is_of x o ≡ c → (if c then Some j else first_from (suc j) x os) ≡ Some (j + 0) → sub_of (present (o ∷ os)) x ≡ under (sub_of (present os)) (tm_of b.term)
    by true m e = hit o g m
    by false m e = let l = at_least (suc j) (j + 0) x os e in absurd (omega (arith, l))
read_next_from j (suc k) x (o ∷ os) b h g = by (is_of x o) refl h (read_next_from (suc j) k x os b)
  where
    by : (c : Bool) → is_of x o ≡ c → (if c then Some j else first_from (suc j) x os) ≡ Some (j + suc k) → (first_from (suc j) x os ≡ Some (suc j + k) → item os k ≡ Some b → sub_of (present os) x ≡ under (sub_of (present (drop (suc k) os))) (tm_of b.term)) → sub_of (present (o ∷ os)) x ≡ under (sub_of (present (drop (suc k) os))) (tm_of b.term)
    by true m e r = let n : j ≡ j + suc k = cc e in absurd (omega (arith, n))
    by false m e r = let n : j + suc k ≡ suc j + k = omega arith in missed o os x m ∙ r (e ∙ ap (λ (i : ℕ). Some i) n) g

read_next_later : (from j k x : ℕ) (os : List (Option Binding)) (b : Binding) → first_from (j + from) x (drop from os) ≡ Some (j + k) → item os k ≡ Some b → sub_of (present (drop from os)) x ≡ under (sub_of (present (drop (suc k) os))) (tm_of b.term)
read_next_later zero j k x os b h g = let n : j + 0 ≡ j = omega arith in read_next_from j k x os b (subst (λ (m : ℕ). first_from m x os ≡ Some (j + k)) n h) g
read_next_later (suc from) j k x [] b h g = absurd (cc h)
read_next_later (suc from) j zero x (o ∷ os) b h g = let l = at_least (j + suc from) (j + 0) x (drop from os) h in absurd (omega (arith, l))
read_next_later (suc from) j (suc k) x (o ∷ os) b h g =
    let n : j + suc from ≡ suc j + from = omega arith in
    let m : j + suc k ≡ suc j + k = omega arith in
    read_next_later from (suc j) k x os b (subst (λ (i : ℕ). first_from i x (drop from os) ≡ Some (suc j + k)) n (h ∙ ap (λ (i : ℕ). Some i) m)) g

pub read_none : (from x : ℕ) (os : List (Option Binding)) → first_from from x (drop from os) ≡ None → sub_of (present (drop from os)) x ≡ var x
read_none from x os h = read_none_from from x (drop from os) h

pub read_next : (from k x : ℕ) (os : List (Option Binding)) (b : Binding) → first_from from x (drop from os) ≡ Some k → item os k ≡ Some b → sub_of (present (drop from os)) x ≡ under (sub_of (present (drop (k + 1) os))) (tm_of b.term)
read_next from k x os b h g =
    let n : from ≡ 0 + from = omega arith in
    let m : k ≡ 0 + k = omega arith in
    let s : suc k ≡ k + 1 = omega arith in
    subst (λ (i : ℕ). sub_of (present (drop from os)) x ≡ under (sub_of (present (drop i os))) (tm_of b.term)) s
    (read_next_later from 0 k x os b (subst (λ (i : ℕ). first_from i x (drop from os) ≡ Some (0 + k)) n (h ∙ ap (λ (i : ℕ). Some i) m)) g)

-- ---- a place that is found is no gap

stands : (from j k x : ℕ) (os : List (Option Binding)) → first_from (j + from) x (drop from os) ≡ Some (j + k) → is_of x (item os k) ≡ true
stands zero j k x [] h = absurd (cc h)
stands zero j zero x (o ∷ os) h = by (is_of x o) h
  where
    by : (c : Bool) → (if c then Some (j + 0) else first_from (suc (j + 0)) x os) ≡ Some (j + 0) → c ≡ true
    by true e = refl
    by false e = let l = at_least (suc (j + 0)) (j + 0) x os e in absurd (omega (arith, l))
stands zero j (suc k) x (o ∷ os) h = by (is_of x o) h (stands zero (suc j) k x os)
  where
    by : (c : Bool) → (if c then Some (j + 0) else first_from (suc (j + 0)) x os) ≡ Some (j + suc k) → (first_from (suc j + 0) x os ≡ Some (suc j + k) → is_of x (item os k) ≡ true) → is_of x (item os k) ≡ true
    by true e r = let n : j + 0 ≡ j + suc k = cc e in absurd (omega (arith, n))
    by false e r =
        let n : suc (j + 0) ≡ suc j + 0 = omega arith in
        let m : j + suc k ≡ suc j + k = omega arith in
        r (subst (λ (i : ℕ). first_from i x os ≡ Some (suc j + k)) n (e ∙ ap (λ (i : ℕ). Some i) m))
stands (suc from) j k x [] h = absurd (cc h)
stands (suc from) j zero x (o ∷ os) h = let l = at_least (j + suc from) (j + 0) x (drop from os) h in absurd (omega (arith, l))
stands (suc from) j (suc k) x (o ∷ os) h =
    let n : j + suc from ≡ suc j + from = omega arith in
    let m : j + suc k ≡ suc j + k = omega arith in
    stands from (suc j) k x os (subst (λ (i : ℕ). first_from i x (drop from os) ≡ Some (suc j + k)) n (h ∙ ap (λ (i : ℕ). Some i) m))

pub read_gap : (from k x : ℕ) (os : List (Option Binding)) → first_from from x (drop from os) ≡ Some k → item os k ≡ None → sub_of (present (drop from os)) x ≡ var x
read_gap from k x os h g =
    let n : from ≡ 0 + from = omega arith in
    let m : k ≡ 0 + k = omega arith in
    let t = stands from 0 k x os (subst (λ (i : ℕ). first_from i x (drop from os) ≡ Some (0 + k)) n (h ∙ ap (λ (i : ℕ). Some i) m)) in
    absurd (true≢false (sym (ap (is_of x) (sym g) ∙ t)))
