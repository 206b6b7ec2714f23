use Rattle.scasp_law_program_text.proofs.ClauseReadbackLemmas.Texts.{text-read}
use Rattle.scasp_law_program_text.proofs.clause_readback.laws.texts_are_read_back.Goals as goal

pub returns : goal.returns
returns c = λ names abducibles clauses queries table. text-read names table abducibles clauses queries
