use Rattle.std.proofs.Common.{◌≡◌, map, take}
use Rattle.scasp_lines_places.specs.Dues.Wholes.{raised_pair}
use Rattle.scasp_lines_places.proofs.dues.raised.raised_pairs.Given as goal

abbrev pub invariant-loop-k : goal.invariant-loop-k
invariant-loop-k l = l.pairs ≡ map (raised_pair l.free l.by) (take l.k-index l.coeffs)
