-- Bindings applied again and again.
use Rattle.std.proofs.Common.{◌≡◌, ℕ, zero, suc, ◌+◌, ◌<◌, Bool, true, false, ◌||◌, nat_eq, Option, None, Some, is_none, eqb-true, subst, ◌⊎◌, inl, inr, refl, sym, ap, ◌∙◌, arith}
use Rattle.std.proofs.lemmas.Bool.{and_parts}
use Rattle.scasp_syntax.specs.Tm.{Tm, Tms, var, num, app, nil, cons}
use Rattle.scasp_syntax.specs.Values.{Sub, under, all_under}
use Rattle.scasp_syntax.specs.WellFormed.{is_below}
use Rattle.scasp_unify.specs.Parts.{occurs, occurs_among}
use Rattle.scasp_bind.specs.Resolving.{Binding, is_free, are_free, under_bound, applied}
use Rattle.scasp_bind.specs.Inside.Soundness.{bound_to}

-- ---- from variables to terms

mutual
  pub lifted : (b : Binding) (s r : Sub) → ((x : ℕ) → is_free b (s x) ≡ true → r x ≡ s x) → (t : Tm) → is_free b (under s t) ≡ true → under r t ≡ under s t
  lifted b s r h (var x) e = h x e
  lifted b s r h (num q) e = refl
  lifted b s r h (app f ts) e = ap (app f) (lifted-each b s r h ts e)

  lifted-each : (b : Binding) (s r : Sub) → ((x : ℕ) → is_free b (s x) ≡ true → r x ≡ s x) → (ts : Tms) → are_free b (all_under s ts) ≡ true → all_under r ts ≡ all_under s ts
  lifted-each b s r h nil e = refl
  lifted-each b s r h (cons t ts) e =
      let p = and_parts (is_free b (under s t)) (are_free b (all_under s ts)) e in
      rw (lifted b s r h t p.0, lifted-each b s r h ts p.1) refl

mutual
  pub freed : (b d : Binding) (s r : Sub) → ((x : ℕ) → is_free b (s x) ≡ true → is_free d (r x) ≡ true) → (t : Tm) → is_free b (under s t) ≡ true → is_free d (under r t) ≡ true
  freed b d s r h (var x) e = h x e
  freed b d s r h (num q) e = refl
  freed b d s r h (app f ts) e = freed-each b d s r h ts e

  freed-each : (b d : Binding) (s r : Sub) → ((x : ℕ) → is_free b (s x) ≡ true → is_free d (r x) ≡ true) → (ts : Tms) → are_free b (all_under s ts) ≡ true → are_free d (all_under r ts) ≡ true
  freed-each b d s r h nil e = refl
  freed-each b d s r h (cons t ts) e =
      let p = and_parts (is_free b (under s t)) (are_free b (all_under s ts)) e in
      rw (freed b d s r h t p.0, freed-each b d s r h ts p.1) refl

mutual
  pub all_free : (b : Binding) (s : Sub) → ((x : ℕ) → is_free b (s x) ≡ true) → (t : Tm) → is_free b (under s t) ≡ true
  all_free b s h (var x) = h x
  all_free b s h (num q) = refl
  all_free b s h (app f ts) = each_free b s h ts

  each_free : (b : Binding) (s : Sub) → ((x : ℕ) → is_free b (s x) ≡ true) → (ts : Tms) → are_free b (all_under s ts) ≡ true
  each_free b s h nil = refl
  each_free b s h (cons t ts) = rw (all_free b s h t, each_free b s h ts) refl

pub neither : (p q : Bool) → (p || q) ≡ false → (p ≡ false) × (q ≡ false)
neither false q e = (refl, e)
neither true q e = cc

mutual
  pub without : (x : ℕ) (s r : Sub) → ((y : ℕ) → occurs x (s y) ≡ false → r y ≡ s y) → (t : Tm) → occurs x (under s t) ≡ false → under r t ≡ under s t
  without x s r h (var y) e = h y e
  without x s r h (num q) e = refl
  without x s r h (app f ts) e = ap (app f) (without-each x s r h ts e)

  without-each : (x : ℕ) (s r : Sub) → ((y : ℕ) → occurs x (s y) ≡ false → r y ≡ s y) → (ts : Tms) → occurs_among x (all_under s ts) ≡ false → all_under r ts ≡ all_under s ts
  without-each x s r h nil e = refl
  without-each x s r h (cons t ts) e =
      let p = neither (occurs x (under s t)) (occurs_among x (all_under s ts)) e in
      rw (without x s r h t p.0, without-each x s r h ts p.1) refl

mutual
  pub free_still : (b d : Binding) (x : ℕ) → ((y : ℕ) → nat_eq x y ≡ false → d y ≡ b y) → (u : Tm) → is_free b u ≡ true → occurs x u ≡ false → is_free d u ≡ true
  free_still b d x h (var y) e o = ap is_none (h y o) ∙ e
  free_still b d x h (num q) e o = refl
  free_still b d x h (app f ts) e o = each_free_still b d x h ts e o

  each_free_still : (b d : Binding) (x : ℕ) → ((y : ℕ) → nat_eq x y ≡ false → d y ≡ b y) → (us : Tms) → are_free b us ≡ true → occurs_among x us ≡ false → are_free d us ≡ true
  each_free_still b d x h nil e o = refl
  each_free_still b d x h (cons t ts) e o =
      let p = and_parts (is_free b t) (are_free b ts) e in
      let q = neither (occurs x t) (occurs_among x ts) o in
      rw (free_still b d x h t p.0 q.0, each_free_still b d x h ts p.1 q.1) refl

-- ---- once more

once-more : (b : Binding) (s r : Sub) → ((y : ℕ) → is_free b (s y) ≡ true → r y ≡ s y) → (x : ℕ) (o : Option Tm) → is_free b (under_bound s x o) ≡ true → under_bound r x o ≡ under_bound s x o
once-more b s r h x None e = refl
once-more b s r h x (Some t) e = lifted b s r h t e

unbound-once : (b : Binding) (x : ℕ) (o : Option Tm) → is_none o ≡ true → under_bound (applied 0 b) x o ≡ var x
unbound-once b x None e = refl
unbound-once b x (Some t) e = cc

pub stable : (n : ℕ) (b : Binding) (x : ℕ) → is_free b (applied n b x) ≡ true → applied (suc n) b x ≡ applied n b x
stable zero b x e = unbound-once b x (b x) e
stable (suc n) b x e = once-more b (applied n b) (applied (suc n) b) (stable n b) x (b x) e

pub stable_term : (n : ℕ) (b : Binding) (t : Tm) → is_free b (under (applied n b) t) ≡ true → under (applied (suc n) b) t ≡ under (applied n b) t
stable_term n b t e = lifted b (applied n b) (applied (suc n) b) (stable n b) t e

pub stable_more : (m n : ℕ) (b : Binding) (x : ℕ) → is_free b (applied n b x) ≡ true → applied (m + n) b x ≡ applied n b x
stable_more zero n b x e = ap (λ k. applied k b x) same
  where
    same : 0 + n ≡ n
    same = omega arith
stable_more (suc m) n b x e =
    let before = stable_more m n b x e in
    let same : suc m + n ≡ suc (m + n) = omega arith in
    ap (λ k. applied k b x) same ∙ stable (m + n) b x (ap (is_free b) before ∙ e) ∙ before

pub stable_term_more : (m n : ℕ) (b : Binding) (t : Tm) → is_free b (under (applied n b) t) ≡ true → under (applied (m + n) b) t ≡ under (applied n b) t
stable_term_more m n b t e = lifted b (applied n b) (applied (m + n) b) (stable_more m n b) t e

-- ---- a term resolves in one way

pub one_way : (m n : ℕ) (b : Binding) (t : Tm) → is_free b (under (applied m b) t) ≡ true → is_free b (under (applied n b) t) ≡ true → under (applied m b) t ≡ under (applied n b) t
one_way m n b t e f =
    let same : n + m ≡ m + n = omega arith in
    sym (stable_term_more n m b t e) ∙ ap (λ k. under (applied k b) t) same ∙ stable_term_more m n b t f

-- ---- fewer bindings

fewer-under : (b d : Binding) (s r : Sub) → ((y : ℕ) → is_free b (s y) ≡ true → is_free d (r y) ≡ true) → (x : ℕ) (o : Option Tm) → d x ≡ o
    → is_free b (under_bound s x o) ≡ true → is_free d (under_bound r x o) ≡ true
fewer-under b d s r h x None e f = ap is_none e
fewer-under b d s r h x (Some t) e f = freed b d s r h t f

pub fewer : (b d : Binding) → ((x : ℕ) → (d x ≡ None) ⊎ (d x ≡ b x)) → (n x : ℕ) → is_free b (applied n b x) ≡ true → is_free d (applied n d x) ≡ true
fewer b d h zero x e = by (h x)
  where
    by : (d x ≡ None) ⊎ (d x ≡ b x) → is_none (d x) ≡ true
    by (inl p) = ap is_none p
    by (inr p) = ap is_none p ∙ e
fewer b d h (suc n) x e = by (fewer b d h n) (h x)
  where
    by : ((y : ℕ) → is_free b (applied n b y) ≡ true → is_free d (applied n d y) ≡ true) → (d x ≡ None) ⊎ (d x ≡ b x) → is_free d (under_bound (applied n d) x (d x)) ≡ true
    by g (inl p) = rw p (ap is_none p)
    by g (inr p) = rw p (fewer-under b d (applied n b) (applied n d) g x (b x) p e)

-- ---- one more binding, of a variable x to a term in which it does not stand

pub record Binds (b d : Binding) (x : ℕ) (t : Tm) : Type 0 where
  pub unbound : b x ≡ None
  pub bound : d x ≡ Some t
  pub others : (y : ℕ) → nat_eq x y ≡ false → d y ≡ b y

untouched-under : (x : ℕ) (s r : Sub) → ((y : ℕ) → occurs x (s y) ≡ false → r y ≡ s y) → (y : ℕ) (o : Option Tm) → occurs x (under_bound s y o) ≡ false → under_bound r y o ≡ under_bound s y o
untouched-under x s r h y None e = refl
untouched-under x s r h y (Some t) e = without x s r h t e

still-unbound : (x y : ℕ) (s : Sub) (o : Option Tm) → o ≡ None → occurs x (under_bound s y o) ≡ false → nat_eq x y ≡ false
still-unbound x y s o e f = subst (λ p. occurs x (under_bound s y p) ≡ false) e f

pub untouched : (b d : Binding) (x : ℕ) (t : Tm) → Binds b d x t → (n y : ℕ) → occurs x (applied n b y) ≡ false → applied n d y ≡ applied n b y
untouched b d x t h zero y e = refl
untouched b d x t h (suc n) y e = by (untouched b d x t h n) (nat_eq x y) refl
  where
    by : ((z : ℕ) → occurs x (applied n b z) ≡ false → applied n d z ≡ applied n b z) → (q : Bool) → nat_eq x y ≡ q → under_bound (applied n d) y (d y) ≡ under_bound (applied n b) y (b y)
    by g false p = rw (h.others y p) (untouched-under x (applied n b) (applied n d) g y (b y) e)
    by g true p =
        let same : x ≡ y = eqb-true x y p in
        let none : b y ≡ None = ap b (sym same) ∙ h.unbound in
        let no = still-unbound x y (applied n b) (b y) none e in
        cc

-- the term that x is bound to resolves as before
pub bound_resolves : (b d : Binding) (x : ℕ) (t : Tm) → Binds b d x t → (n : ℕ) → is_free b (under (applied n b) t) ≡ true → occurs x (under (applied n b) t) ≡ false → is_free d (under (applied n d) t) ≡ true
bound_resolves b d x t h n e o =
    ap (is_free d) (without x (applied n b) (applied n d) (untouched b d x t h n) t o)
    ∙ free_still b d x h.others (under (applied n b) t) e o

bound-ends : (d : Binding) (x : ℕ) (t : Tm) (o : Option Tm) → o ≡ Some t → (n : ℕ) → is_free d (under (applied n d) t) ≡ true → is_free d (under_bound (applied n d) x o) ≡ true
bound-ends d x t o e n f = subst (λ p. is_free d (under_bound (applied n d) x p) ≡ true) (sym e) f

free-var : (d : Binding) (s : Sub) (y : ℕ) (o : Option Tm) → d y ≡ o → is_none o ≡ true → is_free d (under_bound s y o) ≡ true
free-var d s y None e f = ap is_none e
free-var d s y (Some t) e f = cc

-- m times at most before x, once at x, and n times behind it
pub ends_longer : (b d : Binding) (x : ℕ) (t : Tm) → Binds b d x t → (n : ℕ) → is_free d (under (applied n d) t) ≡ true
    → (m y : ℕ) → is_free b (applied m b y) ≡ true → is_free d (applied (suc m + n) d y) ≡ true
ends_longer b d x t h n f zero y e = ap (λ k. is_free d (applied k d y)) one ∙ by (nat_eq x y) refl
  where
    one : suc zero + n ≡ suc n
    one = omega arith

    by : (q : Bool) → nat_eq x y ≡ q → is_free d (under_bound (applied n d) y (d y)) ≡ true
    by true p = bound-ends d y t (d y) (ap d (sym (eqb-true x y p)) ∙ h.bound) n f
    by false p = free-var d (applied n d) y (d y) refl (ap is_none (h.others y p) ∙ e)
ends_longer b d x t h n f (suc m) y e = ap (λ k. is_free d (applied k d y)) one ∙ by (ends_longer b d x t h n f m) (nat_eq x y) refl
  where
    one : suc (suc m) + n ≡ suc (suc m + n)
    one = omega arith

    by : ((z : ℕ) → is_free b (applied m b z) ≡ true → is_free d (applied (suc m + n) d z) ≡ true) → (q : Bool) → nat_eq x y ≡ q → is_free d (under_bound (applied (suc m + n) d) y (d y)) ≡ true
    by g true p = bound-ends d y t (d y) (ap d (sym (eqb-true x y p)) ∙ h.bound) (suc m + n) (ap (is_free d) (stable_term_more (suc m) n d t f) ∙ f)
    by g false p = ap (λ o. is_free d (under_bound (applied (suc m + n) d) y o)) (h.others y p) ∙ fewer-under b d (applied m b) (applied (suc m + n) d) g y (b y) (h.others y p) e

-- ---- from a bound variable to what it is bound to

abbrev pub hop : (Tm → ℕ) → Option Tm → ℕ
hop h None = 0
hop h (Some u) = suc (h u)

abbrev pub hops : ℕ → Binding → Tm → ℕ
hops zero b t = 0
hops (suc n) b t = hop (hops n b) (bound_to b t)

pub one_step : (n : ℕ) (b : Binding) (t u : Tm) → bound_to b t ≡ Some u → under (applied (suc n) b) t ≡ under (applied n b) u
one_step n b (var x) u e = ap (under_bound (applied n b) x) e
one_step n b (num q) u e = cc
one_step n b (app f ts) u e = cc

pub none-is : (o : Option Tm) → is_none o ≡ true → o ≡ None
none-is None e = refl
none-is (Some t) e = cc

first-none : (b : Binding) (t : Tm) → is_free b (under (applied 0 b) t) ≡ true → bound_to b t ≡ None
first-none b (var x) e = none-is (b x) e
first-none b (num q) e = refl
first-none b (app f ts) e = refl

hops-under : (n : ℕ) (b : Binding) (t : Tm) (o : Option Tm) → bound_to b t ≡ o → ((u : Tm) → is_free b (under (applied n b) u) ≡ true → hops (suc n) b u ≡ hops n b u)
    → is_free b (under (applied (suc n) b) t) ≡ true → hop (hops (suc n) b) o ≡ hop (hops n b) o
hops-under n b t None e h f = refl
hops-under n b t (Some u) e h f = ap suc (h u (ap (is_free b) (sym (one_step n b t u e)) ∙ f))

hops-stable : (n : ℕ) (b : Binding) (t : Tm) → is_free b (under (applied n b) t) ≡ true → hops (suc n) b t ≡ hops n b t
hops-stable zero b t f = ap (hop (hops 0 b)) (first-none b t f)
hops-stable (suc n) b t f = hops-under n b t (bound_to b t) refl (hops-stable n b) f

pub hops_fall : (n : ℕ) (b : Binding) (t u : Tm) → is_free b (under (applied n b) t) ≡ true → bound_to b t ≡ Some u → hops n b u < hops n b t
hops_fall zero b t u f e = absurd (some-none u (sym e ∙ first-none b t f))
  where
    some-none : (u : Tm) → Some u ≡ None → ⊥
    some-none u p = cc
hops_fall (suc n) b t u f e =
    let free = ap (is_free b) (sym (one_step n b t u e)) ∙ f in
    let here : hops (suc n) b t ≡ suc (hops n b u) = ap (hop (hops n b)) e in
    omega (arith, here, hops-stable n b u free)

pub same_further : (n : ℕ) (b : Binding) (t u : Tm) → is_free b (under (applied n b) t) ≡ true → bound_to b t ≡ Some u → under (applied n b) u ≡ under (applied n b) t
same_further zero b t u f e = absurd (some-none u (sym e ∙ first-none b t f))
  where
    some-none : (u : Tm) → Some u ≡ None → ⊥
    some-none u p = cc
same_further (suc n) b t u f e =
    let free = ap (is_free b) (sym (one_step n b t u e)) ∙ f in
    stable_term n b u free ∙ sym (one_step n b t u e)

-- an unbound variable stands for itself
pub stays : (n : ℕ) (b : Binding) (x : ℕ) → b x ≡ None → applied n b x ≡ var x
stays zero b x e = refl
stays (suc n) b x e = ap (under_bound (applied n b) x) e

pub bound_below : (n : ℕ) (b : Binding) (t u : Tm) → ((x : ℕ) (v : Tm) → b x ≡ Some v → is_below n v ≡ true) → bound_to b t ≡ Some u → is_below n u ≡ true
bound_below n b (var x) u h e = h x u e
bound_below n b (num q) u h e = cc
bound_below n b (app f ts) u h e = cc
