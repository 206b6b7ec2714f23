use Rattle.scasp_lines.proofs.SurroundedLemmas.{lines-surrounded}
use Rattle.scasp_lines.proofs.laws.lines_are_surrounded.Goals as goal

pub returns : goal.returns
returns c = lines-surrounded
