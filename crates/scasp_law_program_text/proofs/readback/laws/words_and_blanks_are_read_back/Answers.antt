use Rattle.scasp_law_program_text.proofs.ReadbackLemmas.SignReading.{not_read, blank_read, line_read}
use Rattle.scasp_law_program_text.proofs.readback.laws.words_and_blanks_are_read_back.Goals as goal

pub returns : goal.returns
returns c =
    record {
      word = not_read;
      blank = blank_read;
      line = line_read;
    }
