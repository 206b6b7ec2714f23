use Rattle.scasp_law_program_text.proofs.ClauseReadbackLemmas.Queries.{query-read}
use Rattle.scasp_law_program_text.proofs.clause_readback.laws.queries_are_read_back.Goals as goal

pub returns : goal.returns
returns c = λ names q s rest table g. query-read names table q g s rest
