use Rattle.scasp_print_shared.proofs.WrittenLemmas.{written}
use Rattle.scasp_print_shared.proofs.laws.copies_are_written_out.Goals as goal

pub returns : goal.returns
returns c = written
