use Rattle.scasp_law_program_text.proofs.ClauseReadbackLemmas.Abducibles.{abducible-read}
use Rattle.scasp_law_program_text.proofs.clause_readback.laws.abducibles_are_read_back.Goals as goal

pub returns : goal.returns
returns c = λ names p s rest table e g. abducible-read names table p e g s rest
