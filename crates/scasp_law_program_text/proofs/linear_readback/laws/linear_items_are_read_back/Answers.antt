use Rattle.scasp_law_program_text.proofs.LinearReadbackLemmas.LinearItems.{linear-is, linear-read}
use Rattle.scasp_law_program_text.proofs.linear_readback.laws.linear_items_are_read_back.Goals as goal

pub returns : goal.returns
returns c = λ w l n m s rest style h count end. linear-read w style l (linear-is w l h) n m count s rest end
