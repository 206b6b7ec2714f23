-- Terms without variables read as they stand, and pairs that terms come to at once.
use Rattle.std.specs.Prelude.{◌≡◌, ℕ, Bool, true, List, [], ◌∷◌, ◌++◌, refl}
use Rattle.std.proofs.Common.{ap, sym, ◌∙◌}
use Rattle.std.proofs.lemmas.Bool.{and_parts}
use Rattle.scasp_search_rules.specs.declared.states.tasks.Pair.{Pair}
use Rattle.scasp_search_rules.specs.Successors.Pairs.{pair, pairs_of}
use Rattle.scasp_syntax.specs.Tm.{Tm, Tms, var, num, app, nil, cons}
use Rattle.scasp_syntax.specs.Values.{Sub, all_under, are_ground, is_ground, under}
use Rattle.scasp_syntax.specs.View.{tm_of}
use Rattle.scasp_syntax.specs.declared.term.Term.{Term}
use Rattle.scasp_syntax.specs.declared.term.Term.TheVariants.{Var, Num, App}
use Rattle.scasp_unify.specs.SimpleForm.{term_with}

-- ---- terms without variables

mutual
  stays : (v : Sub) (t : Tm) → is_ground t ≡ true → under v t ≡ t
  stays v (var x) h = absurd (cc h)
  stays v (num q) h = refl
  stays v (app f ts) h = ap (app f) (all-stay v ts h)

  all-stay : (v : Sub) (ts : Tms) → are_ground ts ≡ true → all_under v ts ≡ ts
  all-stay v nil h = refl
  all-stay v (cons t ts) h =
      let p = and_parts (is_ground t) (are_ground ts) h in
      λ i. cons (stays v t p.0 i) (all-stay v ts p.1 i)

pub reads_as_itself : (v : Sub) (t : Tm) (b : Bool) → b ≡ is_ground t → b ≡ true → t ≡ under v t
reads_as_itself v t b e h = sym (stays v t (sym e ∙ h))

-- ---- a variable and a name

pub variable_and_name : (x f : ℕ) (ts : Tms) (t u : Tm) → t ≡ var x → u ≡ app f ts → pairs_of t u ≡ pair t u ∷ []
variable_and_name x f ts t u e h = rw (e, h) refl

pub name_and_variable : (x f : ℕ) (ts : Tms) (t u : Tm) → t ≡ app f ts → u ≡ var x → pairs_of t u ≡ pair t u ∷ []
name_and_variable x f ts t u e h = rw (e, h) refl

with-view : (t : Term) → term_with (tm_of t) ≡ t
with-view (Var x) = refl
with-view (Num q) = refl
with-view (App f ts) = refl

pub one_pair : (ps : List Pair) (t u : Term) (b : Bool) → (b ≡ true → pairs_of (tm_of t) (tm_of u) ≡ pair (tm_of t) (tm_of u) ∷ []) → b ≡ true → ps ≡ record { left = t; right = u } ∷ []
    → ps ≡ pairs_of (tm_of t) (tm_of u)
one_pair ps t u b h e n = n ∙ (λ i. record { left = sym (with-view t) i; right = sym (with-view u) i } ∷ []) ∙ sym (h e)
