-- Small stores, computed.
use Rattle.std.specs.Prelude.{◌≡◌, false, [], ◌∷◌, None, Some}
use Rattle.std.proofs.Common.{refl}
use Rattle.scasp_syntax.specs.Tm.{var, app, nil, cons}
use Rattle.scasp_syntax.specs.declared.term.Term.TheVariants.{App}
use Rattle.scasp_bind.specs.Kept.{Kept, variables_at}
use Rattle.scasp_bind.specs.Resolving.{Resolves, applied, binding, is_free}
use Rattle.scasp_bind.specs.declared.variable.Change.TheVariants as change
use Rattle.scasp_bind.specs.declared.variable.Sort.TheVariants as sort
use Rattle.scasp_bind.specs.declared.variable.Variable.{Variable}

-- an existential of depth 2, unbound or bound
abbrev plain : Variable
plain = record { sort = sort.Existential; depth = 2; term = None }

-- x is bound to f(y), and then y to a
abbrev store : Kept
store = record {
  variables =
      record { sort = sort.Existential; depth = 2; term = Some (App 6 (cons (var 1) nil)) }
      ∷ record { sort = sort.Existential; depth = 2; term = Some (App 5 nil) } ∷ [];
  changes = change.Made ∷ change.Made ∷ change.Term 0 None ∷ change.Term 1 None ∷ [];
}

-- applied once it is f(y), applied twice f(a)
once : applied 1 (binding store.variables) 0 ≡ app 6 (cons (var 1) nil)
once = refl

twice : applied 2 (binding store.variables) 0 ≡ app 6 (cons (app 5 nil) nil)
twice = refl

-- f(y) is not resolved yet
bound_inside : is_free (binding store.variables) (app 6 (cons (var 1) nil)) ≡ false
bound_inside = refl

resolved : Resolves (binding store.variables) (var 0) (app 6 (cons (app 5 nil) nil))
resolved = record { times = 2; value = refl; free = refl }

-- before both bindings x resolves to itself
undone : variables_at 2 store ≡ plain ∷ plain ∷ []
undone = refl

one_made : variables_at 1 store ≡ plain ∷ []
one_made = refl
