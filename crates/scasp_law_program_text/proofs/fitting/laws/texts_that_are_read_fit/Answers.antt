use Rattle.scasp_law_program_text.proofs.FittingLemmas.Texts.{read-fits}
use Rattle.scasp_law_program_text.proofs.fitting.laws.texts_that_are_read_fit.Goals as goal

pub returns : goal.returns
returns c = record { table = λ names bytes r e table. (read-fits names bytes r e table).0; fit = λ names bytes r e table. (read-fits names bytes r e table).1 }
