use Rattle.std.proofs.Common.{◌≡◌, map, take}
use Rattle.scasp_lines_places.specs.Dues.Wholes.{pair_of}
use Rattle.scasp_answers_lines.proofs.rows.rows.pairs_of.Given as goal

abbrev pub invariant-loop-k : goal.invariant-loop-k
invariant-loop-k l = l.pairs ≡ map pair_of (take l.k-index l.coeffs)
