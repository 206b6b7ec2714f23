use Rattle.std.proofs.Common.{◌≡◌, ◌++◌, drop, map}
use Rattle.scasp_test_samples.specs.Samples.{query_of}
use Rattle.scasp_test_samples.proofs.programs.queries.Given as goal

abbrev pub invariant-loop-literals : goal.invariant-loop-literals
invariant-loop-literals l = l.all ++ map (λ b. query_of b.now) (drop l.literals-index l.bodies) ≡ map (λ b. query_of b.now) l.bodies
