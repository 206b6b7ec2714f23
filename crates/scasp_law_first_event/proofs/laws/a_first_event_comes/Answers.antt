use Rattle.scasp_law_first_event.proofs.Growing.{finds-or-grows}
use Rattle.scasp_law_first_event.proofs.laws.a_first_event_comes.Goals as goal

pub returns : goal.returns
returns c = λ p q budget calls states l n. finds-or-grows p q n budget calls states l
