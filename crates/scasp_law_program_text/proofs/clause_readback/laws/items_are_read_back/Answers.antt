use Rattle.scasp_law_program_text.proofs.ClauseReadbackLemmas.Items.{item-read}
use Rattle.scasp_law_program_text.proofs.clause_readback.laws.items_are_read_back.Goals as goal

pub returns : goal.returns
returns c = λ w i n m s rest style g k end. item-read w style i n m g k s rest end
