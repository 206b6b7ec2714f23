use Rattle.scasp_view_top.proofs.ProgramLemmas.BareLemmas.{numbers-added}
use Rattle.scasp_view_top.proofs.laws.numbers_are_added.Goals as goal

pub returns : goal.returns
returns c = numbers-added
