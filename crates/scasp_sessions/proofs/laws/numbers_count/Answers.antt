use Rattle.scasp_sessions.proofs.CountLemmas.{numbers-counted}
use Rattle.scasp_sessions.proofs.laws.numbers_count.Goals as goal

pub returns : goal.returns
returns c = numbers-counted
