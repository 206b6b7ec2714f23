use Rattle.scasp_law_first_event.proofs.Ending.{finds-or-not_solved}
use Rattle.scasp_law_first_event.proofs.laws.solved_searches_have_events.Goals as goal

pub returns : goal.returns
returns c = finds-or-not_solved
