use Rattle.std.proofs.Common.{ap}
use Rattle.scasp_written.specs.Written.Rests.{problem_in}
use Rattle.scasp_search.proofs.slices.advance_all.Goals as goal

pub returns-clause-same : goal.returns-clause-same
returns-clause-same c = record {
  problem = ap problem_in c.advance_all.ensures.same;
  queried = ap (λ g. g.queried) c.advance_all.ensures.same;
  budget = c.advance_all.ensures.budget;
}
