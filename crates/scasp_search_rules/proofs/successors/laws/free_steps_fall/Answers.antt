use Rattle.scasp_search_rules.proofs.SuccessorsLemmas.FallLemmas.{free_step_falls, close_keeps_work}
use Rattle.scasp_search_rules.proofs.successors.laws.free_steps_fall.Goals as goal

pub returns-clause-falls : goal.returns-clause-falls
returns-clause-falls c = free_step_falls

pub returns-clause-closing : goal.returns-clause-closing
returns-clause-closing c = close_keeps_work
