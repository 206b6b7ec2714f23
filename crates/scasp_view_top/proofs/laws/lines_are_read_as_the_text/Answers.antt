use Rattle.scasp_view_top.proofs.ProgramLemmas.BareLemmas.{read-as}
use Rattle.scasp_view_top.proofs.laws.lines_are_read_as_the_text.Goals as goal

pub returns : goal.returns
returns c = read-as
