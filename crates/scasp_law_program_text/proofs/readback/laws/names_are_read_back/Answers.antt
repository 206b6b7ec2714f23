use Rattle.scasp_law_program_text.proofs.ReadbackLemmas.NameReading.{name-read}
use Rattle.scasp_law_program_text.proofs.readback.laws.names_are_read_back.Goals as goal

pub returns : goal.returns
returns c = name-read
