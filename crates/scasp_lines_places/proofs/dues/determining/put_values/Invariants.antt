use Rattle.std.proofs.Common.{◌≡◌, drop}
use Rattle.scasp_lines.specs.Determined.{put_values}
use Rattle.scasp_lines_places.proofs.dues.determining.put_values.Given as goal

abbrev pub invariant-loop-k : goal.invariant-loop-k
invariant-loop-k g l =
    put_values (g.S.Substitution.gives l.by) l.raised (drop l.k-index l.coeffs) l.row ≡ put_values (g.S.Substitution.gives l.by) l.raised l.coeffs l.fn.row
