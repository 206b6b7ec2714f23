use Rattle.std.proofs.Common.{ap}
use Rattle.scasp_written.specs.Written.Rests.{problem_in}
use Rattle.scasp_search.proofs.search.Search.advance.Goals as goal

pub returns-clause-event : goal.returns-clause-event
returns-clause-event c = λ goes. record { gives = c.advance_by.ensures.gives goes; keeps = c.advance_by.ensures.keeps goes }

pub returns-clause-same : goal.returns-clause-same
returns-clause-same c = record {
  problem = ap problem_in c.advance_by.ensures.same;
  queried = ap (λ g. g.queried) c.advance_by.ensures.same;
  budget = c.advance_by.ensures.budget;
}
