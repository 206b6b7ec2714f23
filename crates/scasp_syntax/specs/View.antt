-- Terms of the code, as plain values.
use Rattle.std.specs.Prelude.{List, [], ◌∷◌}
use Rattle.scasp_syntax.specs.Tm.{Tm, Tms, var, num, app, nil, cons}
use Rattle.scasp_syntax.specs.declared.term.Term.{Term}
use Rattle.scasp_syntax.specs.declared.term.Term.TheVariants.{Var, Num, App}

abbrev pub tm_of : Term → Tm
tm_of (Var x) = var x
tm_of (Num q) = num q
tm_of (App f ts) = app f ts

abbrev pub tms_of : List Term → Tms
tms_of [] = nil
tms_of (t ∷ ts) = cons (tm_of t) (tms_of ts)
