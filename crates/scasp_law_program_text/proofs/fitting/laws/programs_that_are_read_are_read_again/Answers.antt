use Rattle.scasp_law_program_text.proofs.FittingLemmas.Texts.{program-read-again}
use Rattle.scasp_law_program_text.proofs.fitting.laws.programs_that_are_read_are_read_again.Goals as goal

pub returns : goal.returns
returns c = program-read-again
