use Rattle.scasp_lines.proofs.FitLemmas.{lines-fit, lines-known}
use Rattle.scasp_lines.proofs.laws.lines_fit.Goals as goal

pub returns : goal.returns
returns c = record { fit = lines-fit; known = lines-known }
