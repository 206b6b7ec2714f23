use Rattle.scasp_law_program_text.proofs.GrammarLemmas.GivenTexts.{one-meaning}
use Rattle.scasp_law_program_text.proofs.grammar.laws.no_text_has_two_meanings.Goals as goal

pub returns : goal.returns
returns c = one-meaning
