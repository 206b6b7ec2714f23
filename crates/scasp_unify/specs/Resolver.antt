-- The equations of a list of constraints, unified in the order of the list, and what they make of each variable.
use Rattle.std.specs.Prelude.{◌≡◌, Bool, List, [], ◌∷◌, Option, None, Some, is_some, ⊤}
use Rattle.scasp_num.specs.Arithmetic.{◌>>=◌}
use Rattle.scasp_syntax.specs.Tm.{var}
use Rattle.scasp_syntax.specs.Values.{Sub, under}
use Rattle.scasp_syntax.specs.View.{tm_of}
use Rattle.scasp_syntax.specs.declared.con.Con.{Con}
use Rattle.scasp_syntax.specs.declared.con.Con.TheVariants as con
use Rattle.scasp_unify.specs.Unification.{then_by, unifier}

-- the equations of a list are taken in order, each as those before it resolve it
abbrev pub taken : Sub → List Con → Option Sub
taken s [] = Some s
taken s (con.Eq t u ∷ cs) = unifier (under s (tm_of t)) (under s (tm_of u)) >>= (λ r. taken (then_by s r) cs)
taken s (con.Neq t u ∷ cs) = taken s cs
taken s (con.NotShape x f n ∷ cs) = taken s cs
taken s (con.Num t ∷ cs) = taken s cs
taken s (con.NotNum t ∷ cs) = taken s cs
taken s (con.Row r ∷ cs) = taken s cs

abbrev pub unifies : List Con → Bool
unifies cs = is_some (taken var cs)

-- an equation that does not unify is passed over
abbrev pub extended : Sub → Option Sub → Sub
extended s None = s
extended s (Some r) = then_by s r

abbrev pub resolver_after : Sub → List Con → Sub
resolver_after s [] = s
resolver_after s (con.Eq t u ∷ cs) = resolver_after (extended s (unifier (under s (tm_of t)) (under s (tm_of u)))) cs
resolver_after s (con.Neq t u ∷ cs) = resolver_after s cs
resolver_after s (con.NotShape x f n ∷ cs) = resolver_after s cs
resolver_after s (con.Num t ∷ cs) = resolver_after s cs
resolver_after s (con.NotNum t ∷ cs) = resolver_after s cs
resolver_after s (con.Row r ∷ cs) = resolver_after s cs

-- what the equations of the list make of a variable
abbrev pub resolver : List Con → Sub
resolver cs = resolver_after var cs

-- the equations of the list hold
abbrev pub Equal : Sub → Con → Type 0
Equal v (con.Eq t u) = under v (tm_of t) ≡ under v (tm_of u)
Equal v (con.Neq t u) = ⊤
Equal v (con.NotShape x f n) = ⊤
Equal v (con.Num t) = ⊤
Equal v (con.NotNum t) = ⊤
Equal v (con.Row r) = ⊤
