-- Unification of two terms (Robinson 1965).
use Rattle.std.specs.Prelude.{◌≡◌, ℕ, zero, suc, nat_eq, if◌then◌else◌, List, [], ◌∷◌, ◌++◌, length, Option, None, Some}
use Rattle.scasp_num.specs.Arithmetic.{◌>>=◌}
use Rattle.scasp_syntax.specs.Tm.{Tm, Tms, var, num, app, nil, cons}
use Rattle.scasp_syntax.specs.Values.{Sub, under}
use Rattle.scasp_unify.specs.Parts.{Part, both_parts, parts, left_side, right_side}

-- the term for x, and each other variable itself
abbrev pub single : ℕ → Tm → Sub
single x t y = if nat_eq y x then t else var y

-- one substitution behind another
abbrev pub then_by : Sub → Sub → Sub
then_by s r x = under r (s x)

-- the parts of all these where each stands under the substitution
abbrev pub parts_under : Sub → List Part → Option (List Part)
parts_under s [] = Some []
parts_under s (p ∷ ps) = both_parts (parts (under s (left_side p)) (under s (right_side p))) (parts_under s ps)

-- the first part binds its variable in all the others; n is at least the number of variables
abbrev pub solved : ℕ → List Part → Option Sub
solved n [] = Some var
solved zero (p ∷ ps) = None
solved (suc n) (p ∷ ps) =
    parts_under (single p.at p.term) ps >>= (λ qs. solved n qs >>= (λ s. Some (then_by (single p.at p.term) s)))

-- the variables of a term, each as often as it stands there
abbrev mutual
  pub term_vars : Tm → List ℕ
  term_vars (var x) = x ∷ []
  term_vars (num q) = []
  term_vars (app f ts) = terms_vars ts

  pub terms_vars : Tms → List ℕ
  terms_vars nil = []
  terms_vars (cons t ts) = term_vars t ++ terms_vars ts

unfoldable pub unifier : Tm → Tm → Option Sub
unifier t s = parts t s >>= solved (length (term_vars t ++ term_vars s))

-- v goes on from s
abbrev pub Absorbs : Sub → Sub → Type 0
Absorbs v s = (y : ℕ) → under v (s y) ≡ v y
