use Rattle.scasp_law_copies.proofs.CopyFiles.{read-written}
use Rattle.scasp_law_copies.proofs.laws.copies_are_read_written_out.Goals as goal

pub returns : goal.returns
returns c = λ names shared plain entries o e. read-written names shared plain entries o e
