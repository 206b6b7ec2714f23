use Rattle.scasp_law_answer_text.proofs.AnswerReadbackLemmas.BlockLeads.{the-file}
use Rattle.scasp_law_answer_text.proofs.answer_readback.laws.files_are_read_back.Goals as goal

pub returns : goal.returns
returns c = the-file
