use Rattle.std.proofs.Common.{ap}
use Rattle.scasp_syntax.specs.WellFormed.{are_abducible}
use Rattle.scasp_test_samples.proofs.WellFormedLemmas.{made-below}
use Rattle.scasp_test_samples.proofs.programs.program.Goals as goal

pub invariant_of-result : goal.invariant_of-result
invariant_of-result c = record { well_formed = made-below (λ r. r.0) (λ r. r.1.now) (λ b. b.now) c.args.rules.now c.args.bodies.now _ _ c.in_ok-clauses.ensures c.in_ok-queries.ensures; choices = ap are_abducible c.new-abducibles.ensures }
