use Rattle.scasp_law_program_text.proofs.ClauseReadbackLemmas.Bodies.{body-read}
use Rattle.scasp_law_program_text.proofs.clause_readback.laws.bodies_are_read_back.Goals as goal

pub returns : goal.returns
returns c = λ w items n m s rest style g k. body-read w style items n m g k s rest
