use Rattle.scasp_law_program_text.proofs.ReadbackLemmas.SignReading.{open_read, close_read, open_list_read, close_list_read, comma_read, bar_read, plus_read, times_read, if_read, query_read}
use Rattle.scasp_law_program_text.proofs.readback.laws.signs_are_read_back.Goals as goal

pub returns : goal.returns
returns c =
    record {
      opening = open_read;
      closing = close_read;
      opening_list = open_list_read;
      closing_list = close_list_read;
      comma = comma_read;
      bar = bar_read;
      plus = plus_read;
      times = times_read;
      rule = if_read;
      query = query_read;
    }
