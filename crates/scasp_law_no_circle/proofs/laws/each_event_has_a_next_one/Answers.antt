use Rattle.scasp_law_no_circle.proofs.Behind.{goes-on}
use Rattle.scasp_law_no_circle.proofs.laws.each_event_has_a_next_one.Goals as goal

pub returns : goal.returns
returns c = goes-on
