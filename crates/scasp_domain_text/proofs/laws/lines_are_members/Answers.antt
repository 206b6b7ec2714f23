use Rattle.scasp_domain_text.proofs.MeaningLemmas.{are-lines}
use Rattle.scasp_domain_text.proofs.laws.lines_are_members.Goals as goal

pub returns : goal.returns
returns c = are-lines
