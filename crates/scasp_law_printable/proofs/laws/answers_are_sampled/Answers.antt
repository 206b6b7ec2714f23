use Rattle.scasp_law_printable.proofs.Reaching.{sampled-named}
use Rattle.scasp_law_printable.proofs.laws.answers_are_sampled.Goals as goal

pub returns : goal.returns
returns c = sampled-named
