use Rattle.scasp_law_printable.proofs.Reaching.{printable}
use Rattle.scasp_law_printable.proofs.laws.answers_are_printable.Goals as goal

pub returns : goal.returns
returns c = printable
