use Rattle.scasp_answers.specs.Blocks.Files.{file_in}
use Rattle.scasp_law_answer_text.specs.LineReadback.Texts.{file_text}
use Rattle.scasp_law_shared_text.specs.Shared.{shared_file}
use Rattle.scasp_law_shared_text.proofs.Printed.{stands-for}
use Rattle.scasp_law_shared_text.proofs.laws.shared_texts_are_read_back.Goals as goal

pub returns : goal.returns
returns c = λ names pieces t e h.
    c.copies_are_read_written_out.ensures names (shared_file names pieces) (file_text names pieces) _ (stands-for names t (c.blocks_are_lines.ensures names) c.copies_are_written_out.ensures pieces e h)
    (c.texts_are_read_back.ensures names pieces t e h)
