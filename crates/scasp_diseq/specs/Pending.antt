-- The disequations in which a variable stands.
use Rattle.std.specs.Prelude.{ℕ, Bool, false, ◌||◌}
use Rattle.scasp_syntax.specs.View.{tm_of}
use Rattle.scasp_syntax.specs.declared.con.Con.{Con}
use Rattle.scasp_syntax.specs.declared.con.Con.TheVariants as con
use Rattle.scasp_unify.specs.Parts.{occurs}

-- a disequation with the variable in one of its terms, at whatever depth
abbrev pub is_pending_on : ℕ → Con → Bool
is_pending_on x (con.Neq t s) = occurs x (tm_of t) || occurs x (tm_of s)
is_pending_on x (con.NotShape y f n) = false
is_pending_on x (con.Eq t s) = false
is_pending_on x (con.Num t) = false
is_pending_on x (con.NotNum t) = false
is_pending_on x (con.Row r) = false
