-- Tests that are assumed, whatever variables they have.
use Rattle.std.specs.Prelude.{Bool, true, false}
use Rattle.scasp_syntax.specs.declared.con.Con.{Con}
use Rattle.scasp_syntax.specs.declared.con.Con.TheVariants as con

abbrev pub is_assumed : Con → Bool
is_assumed (con.Eq t u) = false
is_assumed (con.Neq t u) = false
is_assumed (con.NotShape x f n) = true
is_assumed (con.Num t) = true
is_assumed (con.NotNum t) = true
is_assumed (con.Row r) = false
