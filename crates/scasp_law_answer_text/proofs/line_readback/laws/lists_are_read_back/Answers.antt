use Rattle.scasp_law_answer_text.proofs.LineReadbackLemmas.Lists.{list-read}
use Rattle.scasp_law_answer_text.proofs.line_readback.laws.lists_are_read_back.Goals as goal

pub returns : goal.returns
returns c = λ names ts rest t n f. list-read names t ts rest (n, f)
