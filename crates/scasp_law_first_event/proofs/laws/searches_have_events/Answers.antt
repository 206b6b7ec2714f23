use Rattle.scasp_law_first_event.proofs.Following.{finds-or-replaces}
use Rattle.scasp_law_first_event.proofs.laws.searches_have_events.Goals as goal

pub returns : goal.returns
returns c = λ p q budget calls states fits l h. finds-or-replaces p q fits budget calls states l h
