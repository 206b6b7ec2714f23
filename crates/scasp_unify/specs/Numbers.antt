-- Which variables and terms a list of constraints says to be numbers.
use Rattle.std.specs.Prelude.{ℕ, Bool, true, false, ◌&&◌, ◌||◌, List, [], ◌∷◌}
use Rattle.std.specs.List.{list_any}
use Rattle.scasp_syntax.specs.Constraints.{is_number}
use Rattle.scasp_syntax.specs.Same.{same_tm}
use Rattle.scasp_syntax.specs.Tm.{Tm, var, num, app}
use Rattle.scasp_syntax.specs.Values.{Sub, under}
use Rattle.scasp_syntax.specs.View.{tm_of}
use Rattle.scasp_syntax.specs.declared.con.Con.{Con}
use Rattle.scasp_syntax.specs.declared.con.Con.TheVariants as con
use Rattle.scasp_unify.specs.Parts.{Part}
use Rattle.scasp_unify.specs.Resolver.{resolver}

-- the constraint says that this term, resolved, is a number
abbrev pub is_num_of : Sub → Tm → Con → Bool
is_num_of s u (con.Num t) = same_tm (under s (tm_of t)) u
is_num_of s u (con.Eq t w) = false
is_num_of s u (con.Neq t w) = false
is_num_of s u (con.NotShape x f n) = false
is_num_of s u (con.NotNum t) = false
is_num_of s u (con.Row r) = false

-- an unbound variable has a num
abbrev pub number_var : List Con → ℕ → Bool
number_var cs y = list_any (is_num_of (resolver cs) (var y)) cs

-- the variable counts as a number in the list
abbrev pub counts : List Con → ℕ → Bool
counts cs x = is_number (resolver cs x) || list_any (is_num_of (resolver cs) (resolver cs x)) cs

-- the term, resolved, cannot be said to be no number
abbrev pub is_number_term : List Con → Tm → Bool
is_number_term cs (var y) = number_var cs y
is_number_term cs (num q) = true
is_number_term cs (app f ts) = false

-- each part is between two numbers
abbrev pub is_among_numbers : List Con → List Part → Bool
is_among_numbers cs [] = true
is_among_numbers cs (p ∷ ps) = (number_var cs p.at && is_number_term cs p.term) && is_among_numbers cs ps
