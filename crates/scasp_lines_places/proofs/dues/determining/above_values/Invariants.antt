use Rattle.std.proofs.Common.{◌≡◌, max, drop}
use Rattle.scasp_lines.specs.Determined.{above_values}
use Rattle.scasp_lines_places.proofs.dues.determining.above_values.Given as goal

abbrev pub invariant-loop-k : goal.invariant-loop-k
invariant-loop-k g l =
    max l.above (above_values (g.S.Substitution.gives l.by) (drop l.k-index l.coeffs)) ≡ above_values (g.S.Substitution.gives l.by) l.coeffs
