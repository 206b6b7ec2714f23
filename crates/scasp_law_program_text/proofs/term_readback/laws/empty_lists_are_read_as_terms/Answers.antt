use Rattle.scasp_law_program_text.proofs.TermReadbackLemmas.LeafTerms.{list-term}
use Rattle.scasp_law_program_text.proofs.term_readback.laws.empty_lists_are_read_as_terms.Goals as goal

pub returns : goal.returns
returns c = list-term
