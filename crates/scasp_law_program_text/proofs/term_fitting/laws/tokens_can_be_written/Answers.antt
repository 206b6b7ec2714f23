use Rattle.scasp_law_program_text.proofs.TermFittingLemmas.Tokens.{tokens-are, reader-starts}
use Rattle.scasp_law_program_text.proofs.term_fitting.laws.tokens_can_be_written.Goals as goal

pub returns : goal.returns
returns c = record { tokens = tokens-are; reader = reader-starts }
