use Rattle.std.proofs.Common.{◌≡◌, drop}
use Rattle.scasp_rows.specs.Samples.{sum_with}
use Rattle.scasp_rows.proofs.backward.sum_with.Given as goal

abbrev pub invariant-loop-k : goal.invariant-loop-k
invariant-loop-k l = sum_with l.x l.point (drop l.k-index l.terms) l.sum ≡ sum_with l.x l.point l.terms l.initial.sum
