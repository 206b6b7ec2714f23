use Rattle.scasp_law_answer_text.proofs.LineReadbackLemmas.Lines.{writable-read}
use Rattle.scasp_law_answer_text.proofs.line_readback.laws.lines_are_read_back.Goals as goal

pub returns : goal.returns
returns c = writable-read
