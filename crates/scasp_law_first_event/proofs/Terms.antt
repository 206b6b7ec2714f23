-- What holds of each variable of a term, and what substitutions keep of it.
use Rattle.std.specs.Prelude.{◌≡◌, ◌≢◌, ℕ, ◌+◌, ◌<◌, nat_eq, Bool, true, false, if◌then◌else◌, ⊤}
use Rattle.std.proofs.Common.{refl, ap, sym, arith}
use Rattle.std.proofs.lemmas.Bool.{and_parts, or_from, or_parts, eqb-false, ltb-true, ne_eqb}
use Rattle.scasp_syntax.specs.Tm.{Tm, Tms, var, num, app, nil, cons, weight, weight_s}
use Rattle.scasp_syntax.specs.Values.{Sub, under, all_under}
use Rattle.scasp_syntax.specs.WellFormed.{is_below, are_below}
use Rattle.scasp_unify.specs.Parts.{occurs, occurs_among}
use Rattle.scasp_unify.specs.Unification.{single}

abbrev mutual
  pub EachVar : (ℕ → Type 0) → Tm → Type 0
  EachVar P (var x) = P x
  EachVar P (num q) = ⊤
  EachVar P (app f ts) = EachVars P ts

  pub EachVars : (ℕ → Type 0) → Tms → Type 0
  EachVars P nil = ⊤
  EachVars P (cons t ts) = EachVar P t × EachVars P ts

mutual
  pub each-weaker : (P Q : ℕ → Type 0) → ((x : ℕ) → P x → Q x) → (t : Tm) → EachVar P t → EachVar Q t
  each-weaker P Q f (var x) h = f x h
  each-weaker P Q f (num q) h = tt
  each-weaker P Q f (app g ts) h = all-weaker P Q f ts h

  pub all-weaker : (P Q : ℕ → Type 0) → ((x : ℕ) → P x → Q x) → (ts : Tms) → EachVars P ts → EachVars Q ts
  all-weaker P Q f nil h = tt
  all-weaker P Q f (cons t ts) h = (each-weaker P Q f t h.0, all-weaker P Q f ts h.1)

mutual
  pub each-both : (P Q : ℕ → Type 0) (t : Tm) → EachVar P t → EachVar Q t → EachVar (λ x. P x × Q x) t
  each-both P Q (var x) h k = (h, k)
  each-both P Q (num q) h k = tt
  each-both P Q (app f ts) h k = all-both P Q ts h k

  pub all-both : (P Q : ℕ → Type 0) (ts : Tms) → EachVars P ts → EachVars Q ts → EachVars (λ x. P x × Q x) ts
  all-both P Q nil h k = tt
  all-both P Q (cons t ts) h k = (each-both P Q t h.0 k.0, all-both P Q ts h.1 k.1)

-- ---- substitutions

mutual
  pub each-under : (P Q : ℕ → Type 0) (v : Sub) → ((x : ℕ) → P x → EachVar Q (v x)) → (t : Tm) → EachVar P t → EachVar Q (under v t)
  each-under P Q v f (var x) h = f x h
  each-under P Q v f (num q) h = tt
  each-under P Q v f (app g ts) h = all-under P Q v f ts h

  pub all-under : (P Q : ℕ → Type 0) (v : Sub) → ((x : ℕ) → P x → EachVar Q (v x)) → (ts : Tms) → EachVars P ts → EachVars Q (all_under v ts)
  all-under P Q v f nil h = tt
  all-under P Q v f (cons t ts) h = (each-under P Q v f t h.0, all-under P Q v f ts h.1)

mutual
  pub under-self : (v : Sub) (t : Tm) → EachVar (λ x. v x ≡ var x) t → under v t ≡ t
  under-self v (var x) h = h
  under-self v (num q) h = refl
  under-self v (app f ts) h = ap (app f) (all-self v ts h)

  pub all-self : (v : Sub) (ts : Tms) → EachVars (λ x. v x ≡ var x) ts → all_under v ts ≡ ts
  all-self v nil h = refl
  all-self v (cons t ts) h = let a = under-self v t h.0 in let b = all-self v ts h.1 in cc

mutual
  pub weight-under : (v : Sub) → ((x : ℕ) → weight (v x) ≡ 1) → (t : Tm) → weight (under v t) ≡ weight t
  weight-under v h (var x) = h x
  weight-under v h (num q) = refl
  weight-under v h (app f ts) = ap (λ n. 1 + n) (weights-under v h ts)

  weights-under : (v : Sub) → ((x : ℕ) → weight (v x) ≡ 1) → (ts : Tms) → weight_s (all_under v ts) ≡ weight_s ts
  weights-under v h nil = refl
  weights-under v h (cons t ts) = let a = weight-under v h t in let b = weights-under v h ts in cc

pub weight-some : (t : Tm) → 0 < weight t
weight-some (var x) = omega arith
weight-some (num q) = omega arith
weight-some (app f ts) = omega arith

-- ---- one variable replaced

pub single-each : (P : ℕ → Type 0) (x : ℕ) (u : Tm) → EachVar P u → (y : ℕ) → (y ≢ x → P y) → EachVar P (single x u y)
single-each P x u h y k = by (nat_eq y x) refl
  where
    by : (b : Bool) → nat_eq y x ≡ b → EachVar P (if b then u else var y)
    by true e = h
    by false e = k (eqb-false y x e)

pub single-other : (x : ℕ) (u : Tm) (y : ℕ) → y ≢ x → single x u y ≡ var y
single-other x u y n = rw (ne_eqb y x n) refl

pub single-weight : (x : ℕ) (u : Tm) → weight u ≡ 1 → (y : ℕ) → weight (single x u y) ≡ 1
single-weight x u h y = by (nat_eq y x)
  where
    by : (b : Bool) → weight (if b then u else var y) ≡ 1
    by true = h
    by false = refl

pub single-self : (x : ℕ) (u t : Tm) → EachVar (λ y. y ≢ x) t → under (single x u) t ≡ t
single-self x u t h = under-self (single x u) t (each-weaker (λ y. y ≢ x) (λ y. single x u y ≡ var y) (λ y n. single-other x u y n) t h)

pub all-single-self : (x : ℕ) (u : Tm) (ts : Tms) → EachVars (λ y. y ≢ x) ts → all_under (single x u) ts ≡ ts
all-single-self x u ts h = all-self (single x u) ts (all-weaker (λ y. y ≢ x) (λ y. single x u y ≡ var y) (λ y n. single-other x u y n) ts h)

-- ---- tests

mutual
  pub below-each : (n : ℕ) (t : Tm) → is_below n t ≡ true → EachVar (λ x. x < n) t
  below-each n (var x) e = ltb-true x n e
  below-each n (num q) e = tt
  below-each n (app f ts) e = below-all n ts e

  pub below-all : (n : ℕ) (ts : Tms) → are_below n ts ≡ true → EachVars (λ x. x < n) ts
  below-all n nil e = tt
  below-all n (cons t ts) e = let p = and_parts (is_below n t) (are_below n ts) e in (below-each n t p.0, below-all n ts p.1)

mutual
  pub absent-each : (x : ℕ) (t : Tm) → occurs x t ≡ false → EachVar (λ y. y ≢ x) t
  absent-each x (var y) e = λ p. eqb-false x y e (sym p)
  absent-each x (num q) e = tt
  absent-each x (app f ts) e = absent-all x ts e

  pub absent-all : (x : ℕ) (ts : Tms) → occurs_among x ts ≡ false → EachVars (λ y. y ≢ x) ts
  absent-all x nil e = tt
  absent-all x (cons t ts) e = let p = or_parts (occurs x t) (occurs_among x ts) e in (absent-each x t p.0, absent-all x ts p.1)

mutual
  pub each-absent : (x : ℕ) (t : Tm) → EachVar (λ y. y ≢ x) t → occurs x t ≡ false
  each-absent x (var y) h = ne_eqb x y (λ e. h (sym e))
  each-absent x (num q) h = refl
  each-absent x (app f ts) h = all-absent x ts h

  pub all-absent : (x : ℕ) (ts : Tms) → EachVars (λ y. y ≢ x) ts → occurs_among x ts ≡ false
  all-absent x nil h = refl
  all-absent x (cons t ts) h = or_from (occurs x t) (occurs_among x ts) (each-absent x t h.0) (all-absent x ts h.1)
