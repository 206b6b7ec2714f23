use Rattle.std.proofs.Common.{◌≡◌, drop, ◌++◌, Some}
use Rattle.scasp_num.specs.Arithmetic.{◌>>=◌}
use Rattle.scasp_rows.specs.Steps.{times}
use Rattle.scasp_rows.proofs.steps.push_times.Given as goal

abbrev pub invariant-loop-k : goal.invariant-loop-k
invariant-loop-k l = (times l.a (drop l.k-index l.terms) >>= (λ rest. Some (l.pairs ++ rest))) ≡ (times l.a l.terms >>= (λ rest. Some (l.initial.pairs ++ rest)))
