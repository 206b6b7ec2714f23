use Rattle.std.proofs.Common.{◌≡◌, ◌++◌, drop, map}
use Rattle.scasp_test_samples.specs.Samples.{clause_of}
use Rattle.scasp_test_samples.proofs.programs.clauses.Given as goal

abbrev pub invariant-loop-name : goal.invariant-loop-name
invariant-loop-name l = l.all ++ map (λ r. clause_of r.0 r.1.now) (drop l.name-index l.rules) ≡ map (λ r. clause_of r.0 r.1.now) l.rules
