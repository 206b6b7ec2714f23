use Rattle.std.proofs.Common.{◌≡◌, ◌++◌, drop}
use Rattle.scasp_test_samples.specs.Samples.{body_of}
use Rattle.scasp_test_samples.proofs.programs.body.Given as goal

abbrev pub invariant-loop-written : goal.invariant-loop-written
invariant-loop-written l = l.items ++ body_of (drop l.written-index l.literals) ≡ body_of l.literals
