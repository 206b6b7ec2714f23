-- Remarks, written out.
use Rattle.std.proofs.Common.{lit<}
use Rattle.std.specs.Prelude.{◌≡◌, ℕ, false, List, [], ◌∷◌, None, Some, codes, decimal, refl}
use Rattle.std.proofs.lemmas.Fmt.{decimal_digit}
use Rattle.scasp_project.specs.declared.projecting.Projected.TheVariants as projected
use Rattle.scasp_rows.specs.Elimination.{elimination}
use Rattle.scasp_syntax.specs.Tm.{Tms, var, app, nil, cons}
use Rattle.scasp_syntax.specs.declared.con.Con.{Con}
use Rattle.scasp_syntax.specs.declared.con.Con.TheVariants as con
use Rattle.scasp_syntax.specs.declared.term.Term.TheVariants as term
use Rattle.scasp_cert.specs.Certificate.{Certificate}
use Rattle.scasp_unify.specs.Unification.{unifier}
use Rattle.scasp_print_remarks.specs.Remarks.{remarks_text, where_text}

-- digits
d0 : decimal 0 ≡ 48 ∷ []
d0 = decimal_digit 0 (lit< tt)

d1 : decimal 1 ≡ 49 ∷ []
d1 = decimal_digit 1 (lit< tt)

d2 : decimal 2 ≡ 50 ∷ []
d2 = decimal_digit 2 (lit< tt)

d3 : decimal 3 ≡ 51 ∷ []
d3 = decimal_digit 3 (lit< tt)

-- the lists' names, two variables, two constants and a name with arguments
abbrev texts : List (List ℕ)
texts = codes "[]" ∷ codes "[|]" ∷ codes "X" ∷ codes "Y" ∷ codes "tweety" ∷ codes "sam" ∷ codes "f" ∷ []

-- an answer with these terms and given constraints
abbrev answer : Tms → List Con → Certificate
answer terms given = record { query = 1; terms = terms; given = given; sample = nil; trees = []; checks = []; clashes = []; map = [] }

abbrev is_number : ℕ → Con
is_number x = con.Num (term.Var x)

-- ---- values

-- a term without variables
ground : remarks_text texts (Some 2 ∷ []) (answer (cons (app 4 nil) nil) []) ≡ codes "% X = tweety\n% domain any\n"
unfolding unifier elimination
ground = refl

-- a variable that is written `_` has no remark, and what is given of it is not told
unnamed : remarks_text texts (None ∷ Some 3 ∷ []) (answer (cons (var 0) (cons (app 6 (cons (var 1) nil)) nil)) (con.NotShape 0 4 0 ∷ con.NotShape 1 5 0 ∷ []))
    ≡ codes "% Y = f(V1)\n% where V1 \\= sam\n% domain any\n"
unfolding unifier elimination
unnamed = simp (d1) refl

-- no named variable: nothing but the domain
unnamed_alone : remarks_text texts (None ∷ []) (answer (cons (var 0) nil) (con.NotShape 0 4 0 ∷ [])) ≡ codes "% domain any\n"
unfolding unifier elimination
unnamed_alone = refl

-- a default over a variable
two_shapes : remarks_text texts (Some 2 ∷ []) (answer (cons (var 0) nil) (con.NotShape 0 4 0 ∷ con.NotShape 0 5 0 ∷ []))
    ≡ codes "% X = V0\n% where V0 \\= tweety, V0 \\= sam\n% domain any\n"
unfolding unifier elimination
two_shapes = simp (d0) refl

-- ---- alternatives

none_left : where_text texts [] (Some (projected.Alternatives [])) ≡ codes "% where false\n"
none_left = refl

one_without_constraints : where_text texts [] (Some (projected.Alternatives ([] ∷ []))) ≡ []
one_without_constraints = refl

some_without_constraints : where_text texts [] (Some (projected.Alternatives ((is_number 0 ∷ []) ∷ [] ∷ []))) ≡ []
some_without_constraints = refl

many : where_text texts [] (Some projected.TooMany) ≡ codes "% where more\n"
many = refl

too_large : where_text texts [] None ≡ codes "% where overflow\n"
too_large = refl

four : where_text texts [] (Some (projected.Alternatives ((is_number 0 ∷ []) ∷ (is_number 1 ∷ []) ∷ (is_number 2 ∷ []) ∷ (is_number 3 ∷ []) ∷ [])))
    ≡ codes "% where num(V0)\n% or num(V1)\n% or num(V2)\n% or num(V3)\n"
four = simp (d0, d1, d2, d3) refl
