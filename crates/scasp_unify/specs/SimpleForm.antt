-- The simple form of a disequation: that of its parts.
use Rattle.std.specs.Prelude.{List, [], ◌∷◌, map, Option, None, Some}
use Rattle.scasp_syntax.specs.Tm.{Tm, var, num, app, nil, cons}
use Rattle.scasp_syntax.specs.View.{tm_of}
use Rattle.scasp_unify.specs.Parts.{Part, parts, left_side, right_side}
use Rattle.scasp_syntax.specs.declared.con.Con.{Con}
use Rattle.scasp_syntax.specs.declared.con.Con.TheVariants as con
use Rattle.scasp_syntax.specs.declared.term.Term.{Term}
use Rattle.scasp_syntax.specs.declared.term.Term.TheVariants.{Var, Num, App}

-- the term with this view
abbrev pub term_with : Tm → Term
term_with (var x) = Var x
term_with (num q) = Num q
term_with (app f ts) = App f ts

-- the list of these terms, by the names 0 for the empty list and 1 for the others
abbrev pub list_term : List Tm → Tm
list_term [] = app 0 nil
list_term (t ∷ ts) = app 1 (cons t (cons (list_term ts) nil))

abbrev pub differ : Tm → Tm → Con
differ t u = con.Neq (term_with t) (term_with u)

-- a variable against a name is an excluded shape
abbrev pub one_part : Part → Tm → Con
one_part p (app f nil) = con.NotShape p.at f 0
one_part p (app f (cons t ts)) = differ (left_side p) (right_side p)
one_part p (num q) = differ (left_side p) (right_side p)
one_part p (var y) = differ (left_side p) (right_side p)

abbrev pub by_parts : Con → Option (List Part) → Con
by_parts c None = c
by_parts c (Some []) = c
by_parts c (Some (p ∷ [])) = one_part p p.term
by_parts c (Some (p ∷ q ∷ ps)) = differ (list_term (map left_side (p ∷ q ∷ ps))) (list_term (map right_side (p ∷ q ∷ ps)))

abbrev pub simple : Con → Con
simple (con.Neq t u) = by_parts (con.Neq t u) (parts (tm_of t) (tm_of u))
simple (con.Eq t u) = con.Eq t u
simple (con.NotShape x f n) = con.NotShape x f n
simple (con.Num t) = con.Num t
simple (con.NotNum t) = con.NotNum t
simple (con.Row r) = con.Row r
