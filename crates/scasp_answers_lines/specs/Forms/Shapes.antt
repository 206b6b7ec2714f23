-- The shape of a constant.
use Rattle.std.specs.Prelude.{Option, None, Some}
use Rattle.scasp_syntax.specs.Tm.{Tm, var, app, nil}
use Rattle.scasp_syntax.specs.declared.con.Con.{Con}
use Rattle.scasp_syntax.specs.declared.con.Con.TheVariants as con

-- the shape that a variable has not which differs from a constant
abbrev pub constant_shape : Tm → Tm → Option Con
constant_shape (var x) (app f nil) = Some (con.NotShape x f 0)
constant_shape t s = None
