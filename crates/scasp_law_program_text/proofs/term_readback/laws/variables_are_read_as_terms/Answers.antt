use Rattle.scasp_law_program_text.proofs.TermReadbackLemmas.LeafTerms.{known-term, first-term}
use Rattle.scasp_law_program_text.proofs.term_readback.laws.variables_are_read_as_terms.Goals as goal

pub returns : goal.returns
returns c = record { known = known-term; first = first-term }
