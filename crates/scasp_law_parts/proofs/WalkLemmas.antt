-- A closed walk over an index finds a part.
use Rattle.std.proofs.Common.{◌≡◌, ℕ, zero, suc, ◌<◌, Bool, true, false, ◌&&◌, ◌||◌, not, nat_eq, List, [], ◌∷◌, ◌++◌, Option, Some, None, refl, ap, sym, subst, ◌∙◌, ◌⊎◌, inl, inr, arith}
use Rattle.std.specs.List.{list_all, flat_map}
use Rattle.std.proofs.Math.Bool.{or-false}
use Rattle.std.proofs.lemmas.Bool.{and_from, or_cases}
use Rattle.std.proofs.lemmas.Bool.Decides.{Decides-eqb}
use Rattle.std.proofs.lemmas.List.Folds.{list_any-append}
use Rattle.scasp_num.specs.declared.linear.Coeff.{Coeff}
use Rattle.scasp_list.specs.Each.{Each}
use Rattle.scasp_search_rules.specs.Successors.Reading.{among, con_vars}
use Rattle.scasp_syntax.specs.Tm.{Tm, Tms, var, num, app, nil, cons}
use Rattle.scasp_syntax.specs.Values.{Sub, under, all_under}
use Rattle.scasp_syntax.specs.View.{tm_of}
use Rattle.scasp_syntax.specs.declared.con.Con.{Con}
use Rattle.scasp_syntax.specs.declared.con.Con.TheVariants as con
use Rattle.scasp_unify.specs.Parts.{occurs, occurs_among}
use Rattle.scasp_unify.specs.Unification.{term_vars, terms_vars}
use Rattle.scasp_unify.proofs.Members.{or-left, or-right}
use Rattle.scasp_unify.proofs.SolvingLemmas.{under-var}
use Rattle.scasp_law_parts.specs.Index.{HasNumber, read_by, Carries, watched, used, IsIndex, IsWalk}
use Rattle.scasp_law_parts.specs.Parts.{lies_within, are_parted}

-- ---- where a variable of a reading comes from

among-itself : (x : ℕ) → among x (x ∷ []) ≡ true
among-itself x = or-left (nat_eq x x) false ((Decides-eqb x x).1 refl)

among-left : (x : ℕ) (xs ys : List ℕ) → among x xs ≡ true → among x (xs ++ ys) ≡ true
among-left x xs ys e = list_any-append (nat_eq x) xs ys ∙ or-left (among x xs) (among x ys) e

among-right : (x : ℕ) (xs ys : List ℕ) → among x ys ≡ true → among x (xs ++ ys) ≡ true
among-right x xs ys e = list_any-append (nat_eq x) xs ys ∙ or-right (among x xs) (among x ys) e

among-either : (x : ℕ) (xs ys : List ℕ) → among x (xs ++ ys) ≡ true → (among x xs ≡ true) ⊎ (among x ys ≡ true)
among-either x xs ys e = or_cases (among x xs) (among x ys) (sym (list_any-append (nat_eq x) xs ys) ∙ e)

mutual
  among-vars : (x : ℕ) (t : Tm) → among x (term_vars t) ≡ occurs x t
  among-vars x (var y) = or-false (nat_eq x y)
  among-vars x (num q) = refl
  among-vars x (app f ts) = among-terms_vars x ts

  among-terms_vars : (x : ℕ) (ts : Tms) → among x (terms_vars ts) ≡ occurs_among x ts
  among-terms_vars x nil = refl
  among-terms_vars x (cons t ts) = list_any-append (nat_eq x) (term_vars t) (terms_vars ts) ∙ (λ i. among-vars x t i || among-terms_vars x ts i)

-- y is a variable of what some variable of the list stands for
abbrev pub Through : Sub → ℕ → List ℕ → Type 0
Through s y zs = (z : ℕ) × (among z zs ≡ true) × (among y (term_vars (s z)) ≡ true)

through-either : (s : Sub) (y : ℕ) (xs ys : List ℕ) → Through s y xs ⊎ Through s y ys → Through s y (xs ++ ys)
through-either s y xs ys (inl k) = (k.0, among-left k.0 xs ys k.1, k.2)
through-either s y xs ys (inr k) = (k.0, among-right k.0 xs ys k.1, k.2)

through-parts : (s : Sub) (y : ℕ) (os us xs ys : List ℕ) → (among y os ≡ true → Through s y xs) → (among y us ≡ true → Through s y ys) → among y (os ++ us) ≡ true → Through s y (xs ++ ys)
through-parts s y os us xs ys f g e = elim (among-either y os us e) [
  | inl p ↦ through-either s y xs ys (inl (f p))
  | inr p ↦ through-either s y xs ys (inr (g p))
]

mutual
  pub term-through : (s : Sub) (y : ℕ) (t : Tm) → among y (term_vars (under s t)) ≡ true → Through s y (term_vars t)
  term-through s y (var x) e = (x, among-itself x, e)
  term-through s y (num q) e = cc
  term-through s y (app f ts) e = terms-through s y ts e

  terms-through : (s : Sub) (y : ℕ) (ts : Tms) → among y (terms_vars (all_under s ts)) ≡ true → Through s y (terms_vars ts)
  terms-through s y nil e = cc
  terms-through s y (cons t ts) e = through-parts s y (term_vars (under s t)) (terms_vars (all_under s ts)) (term_vars t) (terms_vars ts) (term-through s y t) (terms-through s y ts) e

put-through : (s : Sub) (y : ℕ) (t : Tm) → among y (term_vars (under s t)) ≡ true → Through s y (term_vars (under var t))
put-through s y t e = subst (λ (u : Tm). Through s y (term_vars u)) (sym (under-var t)) (term-through s y t e)

row-through : (s : Sub) (y : ℕ) (ks : List Coeff) → among y (flat_map (λ k. term_vars (s k.x)) ks) ≡ true → Through s y (flat_map (λ k. term_vars (var k.x)) ks)
row-through s y [] e = cc
row-through s y (j ∷ js) e = through-parts s y (term_vars (s j.x)) (flat_map (λ k. term_vars (s k.x)) js) (j.x ∷ []) (flat_map (λ k. term_vars (var k.x)) js) (λ f. (j.x, among-itself j.x, f)) (row-through s y js) e

con-through : (s : Sub) (y : ℕ) (c : Con) → among y (con_vars s c) ≡ true → Through s y (con_vars var c)
con-through s y (con.Eq t u) e = through-parts s y (term_vars (under s (tm_of t))) (term_vars (under s (tm_of u))) (term_vars (under var (tm_of t))) (term_vars (under var (tm_of u))) (put-through s y (tm_of t)) (put-through s y (tm_of u)) e
con-through s y (con.Neq t u) e = through-parts s y (term_vars (under s (tm_of t))) (term_vars (under s (tm_of u))) (term_vars (under var (tm_of t))) (term_vars (under var (tm_of u))) (put-through s y (tm_of t)) (put-through s y (tm_of u)) e
con-through s y (con.NotShape x f n) e = (x, among-itself x, e)
con-through s y (con.Num t) e = put-through s y (tm_of t) e
con-through s y (con.NotNum t) e = put-through s y (tm_of t) e
con-through s y (con.Row r) e = row-through s y r.coeffs e

-- ---- the walk

-- of some variables that do not all fail the test, one passes
one-passes : (p : ℕ → Bool) (ys : List ℕ) → list_all (λ x. not (p x)) ys ≡ false → (y : ℕ) × (among y ys ≡ true) × (p y ≡ true)
one-passes p [] e = cc
one-passes p (y ∷ ys) e = by (p y) refl e (one-passes p ys)
  where
    by : (b : Bool) → p y ≡ b → (not b && list_all (λ x. not (p x)) ys) ≡ false → (list_all (λ x. not (p x)) ys ≡ false → (x : ℕ) × (among x ys ≡ true) × (p x ≡ true)) → (x : ℕ) × (among x (y ∷ ys) ≡ true) × (p x ≡ true)
    by true f e rest = (y, or-left (nat_eq y y) (among y ys) ((Decides-eqb y y).1 refl), f)
    by false f e rest = let k = rest e in (k.0, or-right (nat_eq k.0 y) (among k.0 ys) k.1, k.2)

only-itself : (y x : ℕ) → among y (x ∷ []) ≡ true → y ≡ x
only-itself y x e = (Decides-eqb y x).0 (sym (or-false (nat_eq y x)) ∙ e)

-- whatever reads as something with y, and carries something, is met by a walk that meets y
reached : (s : Sub) (bound : ℕ → Option Tm) (at : ℕ → Option Con) (watch users : ℕ → ℕ → Bool) (p q : ℕ → Bool) → (d : IsIndex s bound at watch users) → IsWalk s at watch users p q
    → (y : ℕ) → q y ≡ true → (n x : ℕ) → d.rank x < n → among y (term_vars (s x)) ≡ true → Carries watch users x → q x ≡ true
reached s bound at watch users p q d k y met zero x h e c = absurd (omega (arith, h))
reached s bound at watch users p q d k y met (suc n) x h e c = by (bound x) refl (reached s bound at watch users p q d k y met n)
  where
    by : (o : Option Tm) → bound x ≡ o → ((z : ℕ) → d.rank z < n → among y (term_vars (s z)) ≡ true → Carries watch users z → q z ≡ true) → q x ≡ true
    by None f rest =
        let here : among y (x ∷ []) ≡ true = subst (λ (t : Tm). among y (term_vars t) ≡ true) (d.reads x ∙ ap (read_by s x) f) e in
        subst (λ (z : ℕ). q z ≡ true) (only-itself y x here) met
    by (Some t) f rest =
        let there : among y (term_vars (under s t)) ≡ true = subst (λ (u : Tm). among y (term_vars u) ≡ true) (d.reads x ∙ ap (read_by s x) f) e in
        let z = term-through s y t there in
        let inside : occurs z.0 t ≡ true = sym (among-vars z.0 t) ∙ z.1 in
        let up : users z.0 x ≡ true = d.used x z.0 t f inside c in
        let below : d.rank z.0 < d.rank x = d.falls x z.0 t f inside in
        k.rises z.0 x (rest z.0 (omega (arith, h, below)) z.2 (used x up)) up

-- each constraint lies among the variables that the walk began with, or among the others
one-parts : (s : Sub) (bound : ℕ → Option Tm) (at : ℕ → Option Con) (watch users : ℕ → ℕ → Bool) (p q : ℕ → Bool) → IsIndex s bound at watch users → IsWalk s at watch users p q → (i : ℕ) (c : Con) → at i ≡ Some c → (lies_within s p c || lies_within s (λ x. not (p x)) c) ≡ true
one-parts s bound at watch users p q d k i c here = by (lies_within s (λ x. not (p x)) c) refl
  where
    by : (b : Bool) → lies_within s (λ x. not (p x)) c ≡ b → (lies_within s p c || lies_within s (λ x. not (p x)) c) ≡ true
    by true e = or-right (lies_within s p c) (lies_within s (λ x. not (p x)) c) e
    by false e =
        let y = one-passes p (con_vars s c) e in
        let x = con-through s y.0 c y.1 in
        let noted : watch x.0 i ≡ true = d.watched i x.0 c here x.1 in
        let met : q x.0 ≡ true = reached s bound at watch users p q d k y.0 (k.begins y.0 y.2) (suc (d.rank x.0)) x.0 (omega arith) x.2 (watched i noted) in
        or-left (lies_within s p c) (lies_within s (λ x. not (p x)) c) (k.closed x.0 i c met noted here)

pub walk-parts : (s : Sub) (bound : ℕ → Option Tm) (at : ℕ → Option Con) (watch users : ℕ → ℕ → Bool) (p q : ℕ → Bool) (cs : List Con) → IsIndex s bound at watch users → IsWalk s at watch users p q → Each (HasNumber at) cs → are_parted s p cs ≡ true
walk-parts s bound at watch users p q [] d k h = refl
walk-parts s bound at watch users p q (c ∷ cs) d k h =
    and_from (lies_within s p c || lies_within s (λ x. not (p x)) c) (are_parted s p cs) (one-parts s bound at watch users p q d k h.0.0 c h.0.1) (walk-parts s bound at watch users p q cs d k h.1)
