use Rattle.std.proofs.Common.{length}
use Rattle.scasp_law_answer_text.proofs.LineReadbackLemmas.Feeds.{words-clean_line, words-begin}
use Rattle.scasp_law_answer_text.proofs.line_readback.laws.texts_are_lines.Goals as goal

pub returns : goal.returns
returns c = record { first = words-begin; one = λ names l w. words-clean_line names (length names) l w.written }
