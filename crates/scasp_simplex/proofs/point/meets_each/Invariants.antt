use Rattle.std.proofs.Common.{take}
use Rattle.scasp_list.specs.Each.{Each}
use Rattle.scasp_num.specs.Linear.{Meets}
use Rattle.scasp_simplex.specs.Inside.Numerators.{numerator}
use Rattle.scasp_simplex.proofs.point.meets_each.Given as goal

abbrev pub invariant-loop-row : goal.invariant-loop-row
invariant-loop-row l = Each (Meets (numerator l.point) l.point.denominator) (take l.row-index l.rows)
