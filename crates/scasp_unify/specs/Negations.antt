-- The negation of a constraint. That of an excluded shape has new variables for the parts.
use Rattle.std.specs.Prelude.{ℕ, zero, suc, Bool, ◌&&◌, nat_lt}
use Rattle.std.specs.List.{list_all}
use Rattle.scasp_num.specs.Linear.{negation}
use Rattle.scasp_syntax.specs.Tm.{Tms, var, nil, cons}
use Rattle.scasp_syntax.specs.View.{tm_of}
use Rattle.scasp_syntax.specs.WellFormed.{is_below}
use Rattle.scasp_syntax.specs.declared.con.Con.{Con}
use Rattle.scasp_syntax.specs.declared.con.Con.TheVariants as con
use Rattle.scasp_syntax.specs.declared.term.Term.TheVariants.{Var, App}

-- so many variables, from k on
abbrev pub new_parts : ℕ → ℕ → Tms
new_parts k zero = nil
new_parts k (suc n) = cons (var k) (new_parts (suc k) n)

abbrev pub negated : ℕ → Con → Con
negated k (con.Eq t u) = con.Neq t u
negated k (con.Neq t u) = con.Eq t u
negated k (con.NotShape x f n) = con.Eq (Var x) (App f (new_parts k n))
negated k (con.Num t) = con.NotNum t
negated k (con.NotNum t) = con.Num t
negated k (con.Row r) = con.Row (negation r)

-- every variable of the constraint is below k
abbrev pub is_con_below : ℕ → Con → Bool
is_con_below k (con.Eq t u) = is_below k (tm_of t) && is_below k (tm_of u)
is_con_below k (con.Neq t u) = is_below k (tm_of t) && is_below k (tm_of u)
is_con_below k (con.NotShape x f n) = nat_lt x k
is_con_below k (con.Num t) = is_below k (tm_of t)
is_con_below k (con.NotNum t) = is_below k (tm_of t)
is_con_below k (con.Row r) = list_all (λ j. nat_lt j.x k) r.coeffs
