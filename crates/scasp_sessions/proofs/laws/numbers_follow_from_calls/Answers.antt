use Rattle.scasp_sessions.proofs.NumberLemmas.{numbers-follow}
use Rattle.scasp_sessions.proofs.laws.numbers_follow_from_calls.Goals as goal

pub returns : goal.returns
returns c = numbers-follow
