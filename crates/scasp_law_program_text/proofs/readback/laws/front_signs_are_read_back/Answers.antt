use Rattle.scasp_law_program_text.proofs.ReadbackLemmas.SignReading.{minus_read, over_read, equal_read, differ_read, equals_read, below_read, at_most_read, other_read, stop_read}
use Rattle.scasp_law_program_text.proofs.readback.laws.front_signs_are_read_back.Goals as goal

pub returns : goal.returns
returns c =
    record {
      minus = minus_read;
      over = over_read;
      equal = equal_read;
      differ = differ_read;
      equals = equals_read;
      below = below_read;
      at_most = at_most_read;
      other = other_read;
      stop = stop_read;
    }
