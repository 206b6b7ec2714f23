use Rattle.scasp_law_program_text.proofs.ClauseReadbackLemmas.Clauses.{clause-read}
use Rattle.scasp_law_program_text.proofs.clause_readback.laws.clauses_are_read_back.Goals as goal

pub returns : goal.returns
returns c = λ names c s rest table g. clause-read names table c g s rest
