-- A variable that stands in a term.
use Rattle.std.proofs.Common.{◌≡◌, ℕ, ◌||◌, nat_eq, refl, ap, ◌∙◌}
use Rattle.scasp_syntax.specs.Tm.{Tm, Tms, var, num, app, nil, cons}
use Rattle.scasp_unify.specs.Parts.{occurs, occurs_among}
use Rattle.scasp_checker_rules.specs.Splits.{has_any, have_any}

mutual
  pub single_occurs : (x : ℕ) (t : Tm) → has_any (λ y. nat_eq x y) t ≡ occurs x t
  single_occurs x (var y) = refl
  single_occurs x (num q) = refl
  single_occurs x (app f ts) = single-occurs_among x ts

  single-occurs_among : (x : ℕ) (ts : Tms) → have_any (λ y. nat_eq x y) ts ≡ occurs_among x ts
  single-occurs_among x nil = refl
  single-occurs_among x (cons t ts) = let e = single_occurs x t in let f = single-occurs_among x ts in rw (e, f) refl
