use Rattle.scasp_law_program_text.proofs.ReadbackLemmas.NumberReading.{number-read}
use Rattle.scasp_law_program_text.proofs.readback.laws.numbers_are_read_back.Goals as goal

pub returns : goal.returns
returns c = number-read
