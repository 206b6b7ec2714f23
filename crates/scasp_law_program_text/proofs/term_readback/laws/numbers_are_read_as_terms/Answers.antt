use Rattle.scasp_law_program_text.proofs.TermReadbackLemmas.NumberTerms.{number-term}
use Rattle.scasp_law_program_text.proofs.term_readback.laws.numbers_are_read_as_terms.Goals as goal

pub returns : goal.returns
returns c = number-term
