-- The walk over terms that gathers their variables, with a list of what is still to be seen.
use Rattle.std.proofs.Common.{◌≡◌, ℕ, Bool, true, false, List, [], ◌∷◌, ◌++◌, Bor, refl, ap, ◌∙◌}
use Rattle.std.specs.Prelude.{◌||◌}
use Rattle.std.specs.List.{list_any}
use Rattle.std.proofs.lemmas.List.Folds.{list_any-append}
use Rattle.scasp_syntax.specs.View.{tms_of}
use Rattle.scasp_syntax.specs.declared.term.Term.{Term}
use Rattle.scasp_unify.specs.Unification.{terms_vars}

abbrev pub list_has : (ℕ → Bool) → Bor (List Term) → Bool
list_has test l = list_any test (terms_vars (tms_of l.now))

pub or-false : (b : Bool) → (b || false) ≡ b
or-false true = refl
or-false false = refl

pub any-pushed : {A : Type 0} (p : A → Bool) (xs : List A) (x : A) → list_any p (xs ++ x ∷ []) ≡ (list_any p xs || p x)
any-pushed p xs x = list_any-append p xs (x ∷ []) ∙ ap (λ b. list_any p xs || b) (or-false (p x))

-- what was found f, what is still to be seen u, and the rest r of a list of which one item x was seen
pub found-more : (f u x r : Bool) → ((f || x) || (u || r)) ≡ (f || (u || (x || r)))
found-more true u x r = refl
found-more false true true r = refl
found-more false true false r = refl
found-more false false true r = refl
found-more false false false r = refl

-- the item was put to what is still to be seen
pub unseen-more : (f u x r : Bool) → (f || ((u || x) || r)) ≡ (f || (u || (x || r)))
unseen-more true u x r = refl
unseen-more false true x r = refl
unseen-more false false x r = refl
