use Rattle.scasp_law_printable.proofs.ReadPrograms.{program-within}
use Rattle.scasp_law_printable.proofs.laws.read_programs_are_within.Goals as goal

pub returns : goal.returns
returns c = program-within
