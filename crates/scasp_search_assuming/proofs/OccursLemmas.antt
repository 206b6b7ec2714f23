-- A variable that occurs in terms is among their variables.
use Rattle.std.specs.Prelude.{◌≡◌, ℕ, ◌||◌, nat_eq, refl}
use Rattle.std.proofs.Common.{◌∙◌}
use Rattle.std.proofs.Math.Bool.{or-false}
use Rattle.std.proofs.lemmas.List.Folds.{list_any-append}
use Rattle.scasp_search_rules.specs.Successors.Reading.{among}
use Rattle.scasp_syntax.specs.Tm.{Tm, Tms, var, num, app, nil, cons}
use Rattle.scasp_unify.specs.Parts.{occurs, occurs_among}
use Rattle.scasp_unify.specs.Unification.{term_vars, terms_vars}

mutual
  pub among-vars : (x : ℕ) (t : Tm) → among x (term_vars t) ≡ occurs x t
  among-vars x (var y) = or-false (nat_eq x y)
  among-vars x (num q) = refl
  among-vars x (app f ts) = among_all_vars x ts

  pub among_all_vars : (x : ℕ) (ts : Tms) → among x (terms_vars ts) ≡ occurs_among x ts
  among_all_vars x nil = refl
  among_all_vars x (cons t ts) =
      list_any-append (nat_eq x) (term_vars t) (terms_vars ts) ∙ rw (among-vars x t, among_all_vars x ts) refl
