use Rattle.scasp_law_no_circle.proofs.Reaching.{event-comes}
use Rattle.scasp_law_no_circle.proofs.laws.each_search_has_an_event.Goals as goal

pub returns : goal.returns
returns c = λ p q budget calls states fits l h. event-comes p q fits budget calls states l h
