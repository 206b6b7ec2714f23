-- A list of terms is heavier than each list of arguments in it.
use Rattle.std.specs.Prelude.{◌≤◌, List, [], ◌∷◌, max}
use Rattle.std.proofs.Common.{arith}
use denote.Param.Weighed.{most}
use Rattle.scasp_syntax.specs.Tm.{weight_s}
use Rattle.scasp_syntax.specs.View.{tms_of}
use Rattle.scasp_syntax.specs.declared.term.Term.{Term}
use Rattle.scasp_syntax.specs.declared.term.Term.TheVariants.{Var, Num, App}
use Rattle.scasp_syntax.specs.declared.term.Terms.TheDeep.{deep-Term}

most_falls : (ts : List Term) → most deep-Term ts ≤ weight_s (tms_of ts)
most_falls [] = omega arith
most_falls (Var x ∷ ts) = omega (arith, most_falls ts)
most_falls (Num q ∷ ts) = omega (arith, most_falls ts)
most_falls (App f us ∷ ts) = omega (arith, most_falls ts)

pub falls : (ts : List Term) → max (most deep-Term ts) 0 ≤ weight_s (tms_of ts)
falls ts = omega (arith, most_falls ts)
