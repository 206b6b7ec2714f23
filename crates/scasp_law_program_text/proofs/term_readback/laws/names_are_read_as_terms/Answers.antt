use Rattle.scasp_law_program_text.proofs.TermReadbackLemmas.LeafTerms.{name-term}
use Rattle.scasp_law_program_text.proofs.term_readback.laws.names_are_read_as_terms.Goals as goal

pub returns : goal.returns
returns c = name-term
