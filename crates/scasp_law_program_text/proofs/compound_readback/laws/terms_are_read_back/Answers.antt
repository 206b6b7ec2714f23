use Rattle.scasp_law_program_text.proofs.CompoundReadbackLemmas.Terms.{term-read}
use Rattle.scasp_law_program_text.proofs.compound_readback.laws.terms_are_read_back.Goals as goal

pub returns : goal.returns
returns c = λ w room n m t s rest style g k end. term-read w style t room n m g k s rest end
