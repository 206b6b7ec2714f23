use Rattle.scasp_law_program_text.proofs.GrammarLemmas.Texts.{read-is-text}
use Rattle.scasp_law_program_text.proofs.GrammarLemmas.GivenTexts.{text-is-read}
use Rattle.scasp_law_program_text.proofs.grammar.laws.reading_is_ok_on_the_grammar_alone.Goals as goal

pub returns : goal.returns
returns c = λ names bytes r. (read-is-text names bytes r, text-is-read names bytes r)
