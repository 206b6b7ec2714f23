use Rattle.scasp_cert.specs.Certificate.{certificate_of}
use Rattle.scasp_search_walk.proofs.RepeatLemmas.{last-again}
use Rattle.scasp_search_walk.proofs.laws.last_events_come_again.Goals as goal

pub returns : goal.returns
returns c = last-again certificate_of
