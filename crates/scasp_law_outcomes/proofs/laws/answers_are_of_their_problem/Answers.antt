use Rattle.scasp_law_outcomes.proofs.Walking.{answers-are-of-problem}
use Rattle.scasp_law_outcomes.proofs.laws.answers_are_of_their_problem.Goals as goal

pub returns : goal.returns
returns c = answers-are-of-problem
