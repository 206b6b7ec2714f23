-- Bindings of unbound variables to terms of unbound variables.
use Rattle.std.proofs.Common.{◌≡◌, ℕ, Bool, true, false, ◌&&◌, ◌||◌, not, nat_eq, List, [], ◌∷◌, refl, sym, ap, ◌∙◌}
use Rattle.std.specs.List.{list_all}
use Rattle.std.proofs.lemmas.Bool.{and_from, and_parts, eqb-true, true≢false}
use Rattle.std.proofs.lemmas.Bool.Decides.{Decides-eqb}
use Rattle.scasp_list.specs.Each.{Each}
use Rattle.scasp_bound.specs.Bounds.{is_bound_in}
use Rattle.scasp_law_parts.specs.Bound.{IsFree}
use Rattle.scasp_law_parts.proofs.AgreeLemmas.{split-all}
use Rattle.scasp_syntax.specs.Tm.{Tm, Tms, var, num, app, nil, cons}
use Rattle.scasp_syntax.specs.View.{tm_of}
use Rattle.scasp_unify.specs.Parts.{occurs, occurs_among}
use Rattle.scasp_unify.specs.Unification.{term_vars, terms_vars}
use Rattle.scasp_unify.specs.declared.bindings.Binding.{Binding}
use Rattle.scasp_store.specs.Inside.Open.{IsNew, is_unbound}

is-false : (b : Bool) → not b ≡ true → b ≡ false
is-false true e = absurd (true≢false (sym e))
is-false false e = refl

mutual
  occurs-not : (x : ℕ) (t : Tm) → list_all (λ y. not (nat_eq x y)) (term_vars t) ≡ true → occurs x t ≡ false
  occurs-not x (var y) e = is-false (nat_eq x y) (and_parts (not (nat_eq x y)) true e).0
  occurs-not x (num q) e = refl
  occurs-not x (app f ts) e = occurs-none x ts e

  occurs-none : (x : ℕ) (ts : Tms) → list_all (λ y. not (nat_eq x y)) (terms_vars ts) ≡ true → occurs_among x ts ≡ false
  occurs-none x nil e = refl
  occurs-none x (cons t ts) e =
      let k = split-all (λ y. not (nat_eq x y)) (term_vars t) (terms_vars ts) e in
      let one = occurs-not x t k.0 in
      let rest = occurs-none x ts k.1 in
      λ i. one i || rest i

neither : (a b : Bool) → not (a || b) ≡ true → (not a ≡ true) × (not b ≡ true)
neither true b e = absurd (true≢false (sym e))
neither false b e = (refl, e)

all-neither : (f g : ℕ → Bool) (ys : List ℕ) → list_all (λ y. not (f y || g y)) ys ≡ true → (list_all (λ y. not (f y)) ys ≡ true) × (list_all (λ y. not (g y)) ys ≡ true)
all-neither f g [] e = (refl, refl)
all-neither f g (y ∷ ys) e =
    let k = and_parts (not (f y || g y)) (list_all (λ y. not (f y || g y)) ys) e in
    let one = neither (f y) (g y) k.0 in
    let rest = all-neither f g ys k.1 in
    (and_from (not (f y)) (list_all (λ y. not (f y)) ys) one.0 rest.0, and_from (not (g y)) (list_all (λ y. not (g y)) ys) one.1 rest.1)

all-both : (f g : ℕ → Bool) (ys : List ℕ) → list_all (λ y. f y && g y) ys ≡ true → (list_all f ys ≡ true) × (list_all g ys ≡ true)
all-both f g [] e = (refl, refl)
all-both f g (y ∷ ys) e =
    let k = and_parts (f y && g y) (list_all (λ y. f y && g y) ys) e in
    let one = and_parts (f y) (g y) k.0 in
    let rest = all-both f g ys k.1 in
    (and_from (f y) (list_all f ys) one.0 rest.0, and_from (g y) (list_all g ys) one.1 rest.1)

pub turned : (x y : ℕ) → nat_eq x y ≡ false → nat_eq y x ≡ false
turned x y e = by (nat_eq y x) refl
  where
    by : (b : Bool) → nat_eq y x ≡ b → b ≡ false
    by false k = refl
    by true k = let p : x ≡ y = sym (eqb-true y x k) in absurd (true≢false (sym ((Decides-eqb x y).1 p) ∙ e))

each-free : (bs : List Binding) (b : Binding) → is_bound_in bs b.x ≡ false → list_all (λ y. not (is_bound_in bs y)) (term_vars (tm_of b.term)) ≡ true → Each (λ a. IsFree a.x b) bs
each-free [] b e f = tt
each-free (a ∷ bs) b e f =
    let here = neither (nat_eq a.x b.x) (is_bound_in bs b.x) (ap not e) in
    let vars = all-neither (nat_eq a.x) (is_bound_in bs) (term_vars (tm_of b.term)) f in
    ((turned a.x b.x (is-false (nat_eq a.x b.x) here.0), occurs-not a.x (tm_of b.term) vars.0), each-free bs b (is-false (is_bound_in bs b.x) here.1) vars.1)

pub new_binding : (bs : List Binding) (b : Binding) → is_bound_in bs b.x ≡ false → list_all (is_unbound bs b.x) (term_vars (tm_of b.term)) ≡ true → IsNew bs b
new_binding bs b e f =
    let k = all-both (λ y. not (nat_eq b.x y)) (λ y. not (is_bound_in bs y)) (term_vars (tm_of b.term)) f in
    (occurs-not b.x (tm_of b.term) k.0, each-free bs b e k.1)
