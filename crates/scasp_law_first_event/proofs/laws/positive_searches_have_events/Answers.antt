use Rattle.scasp_law_first_event.proofs.Unnegated.{finds-positive}
use Rattle.scasp_law_first_event.proofs.laws.positive_searches_have_events.Goals as goal

pub returns : goal.returns
returns c = finds-positive
