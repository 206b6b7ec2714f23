use Rattle.std.proofs.Common.{◌≡◌, ◌++◌, Some, drop}
use Rattle.scasp_num.specs.Arithmetic.{◌>>=◌}
use Rattle.scasp_sample.specs.Sampling.{all_differ}
use Rattle.scasp_sample.proofs.differing.all_differ.Given as goal

abbrev pub invariant-loop-constraint : goal.invariant-loop-constraint
invariant-loop-constraint l =
    (all_differ l.constraints (drop l.constraint-index l.constraints) >>= (λ more. Some (l.made ++ more))) ≡ all_differ l.constraints l.constraints
