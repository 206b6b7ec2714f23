use Rattle.std.proofs.Common.{◌≡◌, ◌++◌, Some, drop}
use Rattle.scasp_num.specs.Arithmetic.{◌>>=◌}
use Rattle.scasp_unify.specs.Solving.{sub_of}
use Rattle.scasp_sample.specs.Sampling.{all_plain}
use Rattle.scasp_sample.proofs.plain.all_plain.Given as goal

abbrev pub invariant-loop-constraint : goal.invariant-loop-constraint
invariant-loop-constraint l =
    (all_plain (sub_of l.bindings) (drop l.constraint-index l.constraints) >>= (λ more. Some (l.made ++ more))) ≡ all_plain (sub_of l.bindings) l.constraints
