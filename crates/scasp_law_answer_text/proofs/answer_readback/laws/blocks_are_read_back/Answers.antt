use Rattle.scasp_law_answer_text.proofs.AnswerReadbackLemmas.BlockLeads.{the-block}
use Rattle.scasp_law_answer_text.proofs.answer_readback.laws.blocks_are_read_back.Goals as goal

pub returns : goal.returns
returns c = the-block
