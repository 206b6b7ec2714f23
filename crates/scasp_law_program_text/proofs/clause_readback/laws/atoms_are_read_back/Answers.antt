use Rattle.scasp_law_program_text.proofs.ClauseReadbackLemmas.Atoms.{atom-read}
use Rattle.scasp_law_program_text.proofs.clause_readback.laws.atoms_are_read_back.Goals as goal

pub returns : goal.returns
returns c = λ w a n m s rest style g k end. atom-read w style a n m g k s rest end
