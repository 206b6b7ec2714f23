use Rattle.scasp_law_answer_text.proofs.LineReadbackLemmas.Files.{text-read}
use Rattle.scasp_law_answer_text.proofs.line_readback.laws.texts_are_read_back.Goals as goal

pub returns : goal.returns
returns c = λ names pieces t e h. text-read names t (c.blocks_are_lines.ensures names) pieces e h
