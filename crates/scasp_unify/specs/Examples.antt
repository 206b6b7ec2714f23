-- Small unifications and lists of constraints, computed.
use Rattle.std.specs.Prelude.{◌≡◌, true, false, List, [], ◌∷◌, None, Some, option_map}
use Rattle.std.proofs.Common.{refl}
use Rattle.scasp_syntax.specs.Tm.{Tm, var, app, nil, cons}
use Rattle.scasp_syntax.specs.Values.{Sub}
use Rattle.scasp_syntax.specs.declared.con.Con.TheVariants as con
use Rattle.scasp_syntax.specs.declared.term.Term.TheVariants.{App, Var}
use Rattle.scasp_unify.specs.Parts.{parts}
use Rattle.scasp_unify.specs.SimpleForm.{simple}
use Rattle.scasp_unify.specs.TermFailures.{fails_by_terms}
use Rattle.scasp_unify.specs.Unification.{unifier}

-- names 5 to 7, without arguments, with one and with two
abbrev a : Tm
a = app 5 nil

abbrev f : Tm → Tm
f t = app 6 (cons t nil)

abbrev g : Tm → Tm → Tm
g t u = app 7 (cons t (cons u nil))

-- what the variables 0 to 2 become
abbrev first_three : Sub → List Tm
first_three s = s 0 ∷ s 1 ∷ s 2 ∷ []

-- ---- unifiers

-- a variable on the left stands for the right side, whatever that is
bound : option_map first_three (unifier (var 0) (var 1)) ≡ Some (var 1 ∷ var 1 ∷ var 2 ∷ [])
unfolding unifier
bound = refl

-- a variable on the right stands for the left side
turned : option_map first_three (unifier (f (var 0)) (var 1)) ≡ Some (var 0 ∷ f (var 0) ∷ var 2 ∷ [])
unfolding unifier
turned = refl

-- g(V0,V0) = g(V1,f(V2)): V0 stands for V1 first, and V1 then for f(V2)
shared : option_map first_three (unifier (g (var 0) (var 0)) (g (var 1) (f (var 2))))
    ≡ Some (f (var 2) ∷ f (var 2) ∷ var 2 ∷ [])
unfolding unifier
shared = refl

-- g(V0,V1) = g(f(V1),f(V0)): the second part has V0 inside its own value
inside : unifier (g (var 0) (var 1)) (g (f (var 1)) (f (var 0))) ≡ None
unfolding unifier
inside = refl

-- V0 = f(V0), and a name against another one
itself : unifier (var 0) (f (var 0)) ≡ None
unfolding unifier
itself = refl

clash : unifier (g a (var 0)) (g (f (var 1)) a) ≡ None
unfolding unifier
clash = refl

-- ---- parts and simple forms

-- g(f(V0),V1) against g(V1,V1): identical parts are dropped, and the first part is turned
dropped : parts (g (f (var 0)) (var 1)) (g (var 1) (var 1)) ≡ Some (record { at = 1; term = f (var 0); turned = true } ∷ [])
dropped = refl

-- f(V0) \= f(a) is V0 \= a, said as an excluded shape
excluded : simple (con.Neq (App 6 (cons (var 0) nil)) (App 6 (cons a nil))) ≡ con.NotShape 0 5 0
excluded = refl

-- g(V0,a) \= g(V1,V2) is the disequation of two lists
listed : simple (con.Neq (App 7 (cons (var 0) (cons a nil))) (App 7 (cons (var 1) (cons (var 2) nil))))
    ≡ con.Neq (App 1 (cons (var 0) (cons (app 1 (cons a (cons (app 0 nil) nil))) nil)))
    (App 1 (cons (var 1) (cons (app 1 (cons (var 2) (cons (app 0 nil) nil))) nil)))
listed = refl

-- ---- lists that fail by terms

-- V0 = f(V1), and V0 is not f of one argument
shaped : fails_by_terms (con.NotShape 0 6 1 ∷ con.Eq (Var 0) (App 6 (cons (var 1) nil)) ∷ []) ≡ true
unfolding unifier
shaped = refl

-- V0 and V1 are equal, and one is a number and the other none
sorts : fails_by_terms (con.Num (Var 0) ∷ con.NotNum (Var 1) ∷ con.Eq (Var 0) (Var 1) ∷ []) ≡ true
unfolding unifier
sorts = refl

-- an equation that does not unify fails, and the ones behind it are still resolved
passed : fails_by_terms (con.Eq (App 5 nil) (App 6 (cons (var 0) nil)) ∷ con.Eq (Var 0) (Var 1) ∷ []) ≡ true
unfolding unifier
passed = refl

-- two variables without a num may be told apart by names
free : fails_by_terms (con.Neq (Var 0) (Var 1) ∷ con.NotNum (Var 0) ∷ []) ≡ false
unfolding unifier
free = refl
