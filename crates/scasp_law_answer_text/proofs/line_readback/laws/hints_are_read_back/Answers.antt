use Rattle.scasp_law_answer_text.proofs.LineReadbackLemmas.Hints.{hint-read}
use Rattle.scasp_law_answer_text.proofs.line_readback.laws.hints_are_read_back.Goals as goal

pub returns : goal.returns
returns c = hint-read
