-- Equations may be taken apart first and resolved later: a term against a part of it, at any depth, never comes apart.
use Rattle.std.proofs.Common.{◌≡◌, ◌⊎◌, inl, inr, ℕ, Bool, true, false, nat_eq, if◌then◌else◌, List, [], ◌∷◌, ◌++◌, Option, None, Some, refl, sym, ap, subst, ◌∙◌, append_assoc, append-nil}
use Rattle.std.specs.Prelude.{⊤}
use Rattle.std.proofs.lemmas.Bool.{or_cases, eqb-true, true≢false}
use Rattle.std.proofs.lemmas.Bool.Decides.{Decides-eqb}
use Rattle.scasp_num.specs.Arithmetic.{◌>>=◌}
use Rattle.scasp_syntax.specs.Same.{same_number}
use Rattle.scasp_syntax.specs.Tm.{Tm, Tms, var, num, app, nil, cons}
use Rattle.scasp_syntax.specs.Values.{Sub, under, all_under}
use Rattle.scasp_syntax.proofs.SameLemmas.{tm_decided}
use Rattle.scasp_unify.specs.Parts.{Part, occurs, occurs_among, both_parts, parts, parts_each, left_side, right_side}
use Rattle.scasp_unify.specs.Unification.{parts_under}
use Rattle.scasp_unify.proofs.Members.{or-left, or-right}

-- ---- proper parts of a term

abbrev mutual
  pub Inside : Tm → Tm → Type 0
  Inside z (var y) = ⊥
  Inside z (num q) = ⊥
  Inside z (app f us) = InsideSome z us

  pub InsideSome : Tm → Tms → Type 0
  InsideSome z nil = ⊥
  InsideSome z (cons u us) = (z ≡ u) ⊎ (Inside z u ⊎ InsideSome z us)

mutual
  inside-trans : (a b c : Tm) → Inside a b → Inside b c → Inside a c
  inside-trans a b (var y) h k = absurd k
  inside-trans a b (num q) h k = absurd k
  inside-trans a b (app f cs) h k = some-trans a b cs h k

  some-trans : (a b : Tm) (cs : Tms) → Inside a b → InsideSome b cs → InsideSome a cs
  some-trans a b nil h k = absurd k
  some-trans a b (cons c cs) h (inl e) = inr (inl (subst (Inside a) e h))
  some-trans a b (cons c cs) h (inr (inl k)) = inr (inl (inside-trans a b c h k))
  some-trans a b (cons c cs) h (inr (inr k)) = inr (inr (some-trans a b cs h k))

abbrev AllInside : Tms → Tm → Type 0
AllInside nil z = ⊤
AllInside (cons t ts) z = Inside t z × AllInside ts z

all-inside : (ts : Tms) (z : Tm) → ((x : Tm) → InsideSome x ts → Inside x z) → AllInside ts z
all-inside nil z h = tt
all-inside (cons t ts) z h = (h t (inl refl), all-inside ts z (λ x k. h x (inr (inr k))))

mutual
  inside-occurs : (x : ℕ) (u : Tm) → Inside (var x) u → occurs x u ≡ true
  inside-occurs x (var y) h = absurd h
  inside-occurs x (num q) h = absurd h
  inside-occurs x (app f us) h = some-occurs x us h

  some-occurs : (x : ℕ) (us : Tms) → InsideSome (var x) us → occurs_among x us ≡ true
  some-occurs x nil h = absurd h
  some-occurs x (cons u us) (inl e) = or-left (occurs x u) (occurs_among x us) (subst (λ (v : Tm). occurs x v ≡ true) e ((Decides-eqb x x).1 refl))
  some-occurs x (cons u us) (inr (inl h)) = or-left (occurs x u) (occurs_among x us) (inside-occurs x u h)
  some-occurs x (cons u us) (inr (inr h)) = or-right (occurs x u) (occurs_among x us) (some-occurs x us h)

at-first : (g : Sub) (x : ℕ) (u : Tm) (us : Tms) → (g x ≡ under g u) ⊎ Inside (g x) (under g u) → InsideSome (g x) (all_under g (cons u us))
at-first g x u us (inl e) = inl e
at-first g x u us (inr h) = inr (inl h)

mutual
  occurs-inside : (g : Sub) (x : ℕ) (u : Tm) → occurs x u ≡ true → (g x ≡ under g u) ⊎ Inside (g x) (under g u)
  occurs-inside g x (var y) e = inl (ap g (eqb-true x y e))
  occurs-inside g x (num q) e = absurd (true≢false (sym e))
  occurs-inside g x (app f us) e = inr (occurs-some g x us e)

  occurs-some : (g : Sub) (x : ℕ) (us : Tms) → occurs_among x us ≡ true → InsideSome (g x) (all_under g us)
  occurs-some g x nil e = absurd (true≢false (sym e))
  occurs-some g x (cons u us) e = elim (or_cases (occurs x u) (occurs_among x us) e) [
    | inl h ↦ at-first g x u us (occurs-inside g x u h)
    | inr h ↦ inr (inr (occurs-some g x us h))
  ]

-- ---- they clash with it

pub both-none : (o : Option (List Part)) → both_parts o None ≡ None
both-none None = refl
both-none (Some ps) = refl

abbrev Clash : Tm → Tm → Type 0
Clash t u = (parts t u ≡ None) × (parts u t ≡ None)

abbrev ClashEach : Tms → Tms → Type 0
ClashEach ts us = (parts_each ts us ≡ None) × (parts_each us ts ≡ None)

if-none : (b : Bool) (o : Option (List Part)) → o ≡ None → (if b then o else None) ≡ None
if-none true o e = e
if-none false o e = refl

occurs-none : (b : Bool) (p : Part) → b ≡ true → (if b then None else Some (p ∷ [])) ≡ None
occurs-none true p e = refl
occurs-none false p e = absurd (true≢false (sym e))

mutual
  inside-clash : (z u : Tm) → Inside z u → Clash z u
  inside-clash z (var y) h = absurd h
  inside-clash z (num q) h = absurd h
  inside-clash (var x) (app g us) h =
      let e = inside-occurs x (app g us) h in
      (occurs-none (occurs x (app g us)) _ e, occurs-none (occurs x (app g us)) _ e)
  inside-clash (num q) (app g us) h = (refl, refl)
  inside-clash (app f ts) (app g us) h =
      let k = some-clash (app f ts) ts us (all-inside ts (app f ts) (λ x k. k)) h in
      (if-none (nat_eq f g) (parts_each ts us) k.0, if-none (nat_eq g f) (parts_each us ts) k.1)

  some-clash : (z : Tm) (ts us : Tms) → AllInside ts z → InsideSome z us → ClashEach ts us
  some-clash z nil nil a h = absurd h
  some-clash z nil (cons u us) a h = (refl, refl)
  some-clash z (cons t ts) nil a h = absurd h
  some-clash z (cons t ts) (cons u us) a (inl e) = first (inside-clash t u (subst (Inside t) e a.0))
    where
      first : Clash t u → ClashEach (cons t ts) (cons u us)
      first (k, l) = (ap (λ o. both_parts o (parts_each ts us)) k, ap (λ o. both_parts o (parts_each us ts)) l)
  some-clash z (cons t ts) (cons u us) a (inr (inl h)) = first (inside-clash t u (inside-trans t z u a.0 h))
    where
      first : Clash t u → ClashEach (cons t ts) (cons u us)
      first (k, l) = (ap (λ o. both_parts o (parts_each ts us)) k, ap (λ o. both_parts o (parts_each us ts)) l)
  some-clash z (cons t ts) (cons u us) a (inr (inr h)) = rest (some-clash z ts us a.1 h)
    where
      rest : ClashEach ts us → ClashEach (cons t ts) (cons u us)
      rest (k, l) = (ap (both_parts (parts t u)) k ∙ both-none (parts t u), ap (both_parts (parts u t)) l ∙ both-none (parts u t))

variable-clash : (g : Sub) (x f : ℕ) (us : Tms) → occurs x (app f us) ≡ true → Clash (g x) (under g (app f us))
variable-clash g x f us e = inside-clash (g x) (under g (app f us)) (occurs-some g x us e)

-- ---- parts of parts

pub both-nil : (o : Option (List Part)) → o ≡ both_parts o (Some [])
both-nil None = refl
both-nil (Some ps) = ap Some (sym (append-nil ps))

mutual
  pub parts-same : (t : Tm) → parts t t ≡ Some []
  parts-same (var x) = ap (λ b. if b then Some [] else Some (record { at = x; term = var x; turned = false } ∷ [])) ((Decides-eqb x x).1 refl)
  parts-same (num q) = ap (λ b. if b then Some [] else None) ((tm_decided (num q) (num q)).1 refl)
  parts-same (app f ts) = ap (λ b. if b then parts_each ts ts else None) ((Decides-eqb f f).1 refl) ∙ all-same ts

  all-same : (ts : Tms) → parts_each ts ts ≡ Some []
  all-same nil = refl
  all-same (cons t ts) = ap (λ o. both_parts o (parts_each ts ts)) (parts-same t) ∙ ap (both_parts (Some [])) (all-same ts)

pub both-assoc : (a b c : Option (List Part)) → both_parts a (both_parts b c) ≡ both_parts (both_parts a b) c
both-assoc None b c = refl
both-assoc (Some ps) None c = refl
both-assoc (Some ps) (Some qs) None = refl
both-assoc (Some ps) (Some qs) (Some rs) = ap Some (sym (append_assoc ps qs rs))

pub both-first : (o : Option (List Part)) → both_parts (Some []) o ≡ o
both-first None = refl
both-first (Some ps) = refl

pub under-append : (g : Sub) (ps qs : List Part) → both_parts (parts_under g ps) (parts_under g qs) ≡ parts_under g (ps ++ qs)
under-append g [] qs = both-first (parts_under g qs)
under-append g (p ∷ ps) qs =
    sym (both-assoc (parts (under g (left_side p)) (under g (right_side p))) (parts_under g ps) (parts_under g qs))
    ∙ ap (both_parts (parts (under g (left_side p)) (under g (right_side p)))) (under-append g ps qs)

both-later : (g : Sub) (a b : Option (List Part)) → both_parts (a >>= parts_under g) (b >>= parts_under g) ≡ (both_parts a b >>= parts_under g)
both-later g None b = refl
both-later g (Some ps) None = both-none (parts_under g ps)
both-later g (Some ps) (Some qs) = under-append g ps qs

-- a part alone, which stands where a variable does not occur in the other side
alone : (g : Sub) (b : Bool) (p : Part) (o : Option (List Part)) → o ≡ parts (under g (left_side p)) (under g (right_side p)) → (b ≡ true → o ≡ None) → o ≡ ((if b then None else Some (p ∷ [])) >>= parts_under g)
alone g true p o e none = none refl
alone g false p o e none = e ∙ both-nil (parts (under g (left_side p)) (under g (right_side p)))

mutual
  -- what stands where is taken apart, is the parts of what was taken apart before
  pub parts-later : (g : Sub) (t u : Tm) → parts (under g t) (under g u) ≡ (parts t u >>= parts_under g)
  parts-later g (var x) (var y) = by (nat_eq x y) refl
    where
      by : (b : Bool) → nat_eq x y ≡ b → parts (g x) (g y) ≡ ((if b then Some [] else Some (record { at = x; term = var y; turned = false } ∷ [])) >>= parts_under g)
      by true e = ap (λ z. parts (g x) (g z)) (sym (eqb-true x y e)) ∙ parts-same (g x)
      by false e = both-nil (parts (g x) (g y))
  parts-later g (var x) (num r) = both-nil (parts (g x) (num r))
  parts-later g (var x) (app f us) = alone g (occurs x (app f us)) (record { at = x; term = app f us; turned = false }) (parts (g x) (under g (app f us))) refl (λ e. (variable-clash g x f us e).0)
  parts-later g (num q) (var y) = both-nil (parts (num q) (g y))
  parts-later g (num q) (num r) = by (same_number q r)
    where
      by : (b : Bool) → (if b then Some [] else None) ≡ ((if b then Some [] else None) >>= parts_under g)
      by true = refl
      by false = refl
  parts-later g (num q) (app f us) = refl
  parts-later g (app f ts) (var y) = alone g (occurs y (app f ts)) (record { at = y; term = app f ts; turned = true }) (parts (under g (app f ts)) (g y)) refl (λ e. (variable-clash g y f ts e).1)
  parts-later g (app f ts) (num r) = refl
  parts-later g (app f ts) (app h us) = by (nat_eq f h) (each-later g ts us)
    where
      by : (b : Bool) → parts_each (all_under g ts) (all_under g us) ≡ (parts_each ts us >>= parts_under g) → (if b then parts_each (all_under g ts) (all_under g us) else None) ≡ ((if b then parts_each ts us else None) >>= parts_under g)
      by true e = e
      by false e = refl

  each-later : (g : Sub) (ts us : Tms) → parts_each (all_under g ts) (all_under g us) ≡ (parts_each ts us >>= parts_under g)
  each-later g nil nil = refl
  each-later g nil (cons u us) = refl
  each-later g (cons t ts) nil = refl
  each-later g (cons t ts) (cons u us) =
      (λ i. both_parts (parts-later g t u i) (each-later g ts us i)) ∙ both-later g (parts t u) (parts_each ts us)
