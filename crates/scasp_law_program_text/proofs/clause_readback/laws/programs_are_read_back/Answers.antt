use Rattle.scasp_law_program_text.proofs.ClauseReadbackLemmas.Denials.{written-is}
use Rattle.scasp_law_program_text.proofs.ClauseReadbackLemmas.Texts.{program-read}
use Rattle.scasp_law_program_text.proofs.clause_readback.laws.programs_are_read_back.Goals as goal

pub returns : goal.returns
returns c = record { written = written-is; read = λ names abducibles clauses queries table. program-read names table abducibles clauses queries }
