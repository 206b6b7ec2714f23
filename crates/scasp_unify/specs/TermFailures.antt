-- When a list of constraints fails by its terms, whatever its rows say.
use Rattle.std.specs.Prelude.{Bool, true, false, ◌||◌, not, List, [], ◌∷◌, Option, None, Some}
use Rattle.std.specs.List.{list_any}
use Rattle.scasp_syntax.specs.Constraints.{has_shape}
use Rattle.scasp_syntax.specs.Tm.{Tm, var, num, app}
use Rattle.scasp_syntax.specs.Values.{under}
use Rattle.scasp_syntax.specs.View.{tm_of}
use Rattle.scasp_syntax.specs.declared.con.Con.{Con}
use Rattle.scasp_syntax.specs.declared.con.Con.TheVariants as con
use Rattle.scasp_unify.specs.Numbers.{is_number_term}
use Rattle.scasp_unify.specs.Parts.{Part, parts}
use Rattle.scasp_unify.specs.Resolver.{resolver, unifies}

abbrev pub is_compound : Tm → Bool
is_compound (var x) = false
is_compound (num q) = false
is_compound (app f ts) = true

abbrev pub is_identity : Option (List Part) → Bool
is_identity None = false
is_identity (Some []) = true
is_identity (Some (p ∷ ps)) = false

-- the constraint fails by what it is about, resolved
abbrev pub is_refuted : List Con → Con → Bool
is_refuted cs (con.Eq t u) = false
is_refuted cs (con.Neq t u) = is_identity (parts (under (resolver cs) (tm_of t)) (under (resolver cs) (tm_of u)))
is_refuted cs (con.NotShape x f n) = has_shape f n (resolver cs x)
is_refuted cs (con.Num t) = is_compound (under (resolver cs) (tm_of t))
is_refuted cs (con.NotNum t) = is_number_term cs (under (resolver cs) (tm_of t))
is_refuted cs (con.Row r) = false

abbrev pub fails_by_terms : List Con → Bool
fails_by_terms cs = not (unifies cs) || list_any (is_refuted cs) cs
