-- Worked cases of what opens at a literal and at a split, and of simple forms.
use Rattle.std.specs.Prelude.{◌≡◌, [], ◌∷◌, None, Some}
use Rattle.std.proofs.Common.{refl}
use Rattle.scasp_syntax.specs.Tm.{Tm, var, num, app, nil, cons}
use Rattle.scasp_syntax.specs.declared.con.Con.TheVariants as con
use Rattle.scasp_syntax.specs.declared.term.Term.TheVariants.{Var, Num, App}
use Rattle.scasp_lines.specs.Opened.{ranges, shaped, assumed}
use Rattle.scasp_lines.specs.Openings.{open_terms, unopened, number_zero, number_one}
use Rattle.scasp_lines.specs.Places.{start, with_opened}
use Rattle.scasp_lines.specs.Samples.{one, constant}
use Rattle.scasp_lines.specs.Sides.{Sides, sides, shape_of}
use Rattle.scasp_unify.specs.SimpleForm.{simple, differ}

abbrev a : Tm
a = constant 5

abbrev b : Tm
b = constant 6

abbrev f2 : Tm → Tm → Tm
f2 t u = app 7 (cons t (cons u nil))

-- f(f(Y, Y), Z) of a head against a variable: two parts, then two more for the first, which are equal
names_against_a_variable :
    (open_terms (one (f2 (f2 (var 0) (var 0)) (var 1))) (one (var 3)) (unopened [] 9)).opened
    ≡ assumed (con.Eq (Var 11) (Var 12)) ∷ shaped 9 7 11 2 ∷ shaped 3 7 9 2 ∷ []
names_against_a_variable = refl

bound_to_parts :
    (open_terms (one (f2 (f2 (var 0) (var 0)) (var 1))) (one (var 3)) (unopened [] 9)).bound ≡ (1, var 10) ∷ (0, var 11) ∷ []
bound_to_parts = refl

-- a head variable that is met twice
met_twice :
    (open_terms (cons (var 0) (cons (var 0) nil)) (cons a (cons (var 3) nil)) (unopened [] 9)).opened
    ≡ assumed (con.Eq (App 5 nil) (Var 3)) ∷ []
met_twice = refl

number_against_a_variable :
    (open_terms (one (num number_one)) (one (var 3)) (unopened [] 9)).opened
    ≡ assumed (con.Eq (Var 3) (Num number_one)) ∷ assumed (con.Num (Var 3)) ∷ []
number_against_a_variable = refl

-- a name against another opens 0 = 1, and the arguments behind it are still taken
clash :
    (open_terms (cons a (cons (var 0) nil)) (cons b (cons b nil)) (unopened [] 9)).opened
    ≡ assumed (con.Eq (Num number_zero) (Num number_one)) ∷ []
clash = refl

behind_a_clash : (open_terms (cons a (cons (var 0) nil)) (cons b (cons b nil)) (unopened [] 9)).bound ≡ (0, b) ∷ []
behind_a_clash = refl

-- X = f(V4, V5) with the next variables is a shape, in an equation and in a disequation; with others it is none
shape : shape_of 4 (con.Neq (Var 0) (App 7 (cons (var 4) (cons (var 5) nil)))) ≡ Some (record { of = 0; name = 7; size = 2 })
shape = refl

no_shape : shape_of 5 (con.Neq (Var 0) (App 7 (cons (var 4) (cons (var 5) nil)))) ≡ None
no_shape = refl

-- of a split by the universal X \= f(V4, V5) the second side has the parts, and there they stand for X
abbrev by_shape : Sides
by_shape = sides 0 6 (con.Neq (Var 0) (App 7 (cons (var 4) (cons (var 5) nil)))) (with_opened (ranges 0 ∷ []) 6 (start 6)) 4

first_side : by_shape.first.opened ≡ assumed (con.NotShape 0 7 2) ∷ ranges 0 ∷ []
first_side = refl

second_side : by_shape.second.opened ≡ shaped 0 7 4 2 ∷ ranges 0 ∷ []
second_side = refl

stands_on_the_first : by_shape.first.replaced 0 ≡ var 0
stands_on_the_first = refl

stands_on_the_second : by_shape.second.replaced 0 ≡ f2 (var 4) (var 5)
stands_on_the_second = refl

-- simple forms: a variable against a constant, a clash, and two parts
simple_constant : simple (differ (f2 (var 0) a) (f2 b a)) ≡ con.NotShape 0 6 0
simple_constant = refl

simple_clash :
    simple (differ (f2 (var 0) a) (f2 (var 1) b))
    ≡ con.Neq (App 7 (cons (var 0) (cons a nil))) (App 7 (cons (var 1) (cons b nil)))
simple_clash = refl

simple_two :
    simple (differ (f2 (var 0) (var 1)) (f2 (var 2) b))
    ≡ con.Neq (App 1 (cons (var 0) (cons (app 1 (cons (var 1) (cons (app 0 nil) nil))) nil)))
    (App 1 (cons (var 2) (cons (app 1 (cons b (cons (app 0 nil) nil))) nil)))
simple_two = refl
