use Rattle.scasp_law_program_text.proofs.GrammarLemmas.Programs.{program-is, is-program}
use Rattle.scasp_law_program_text.proofs.grammar.laws.programs_are_read_on_the_grammar_alone.Goals as goal

pub returns : goal.returns
returns c = λ names bytes r. (program-is names bytes r, is-program names bytes r)
