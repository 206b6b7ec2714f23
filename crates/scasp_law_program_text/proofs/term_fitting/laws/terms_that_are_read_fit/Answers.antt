use Rattle.scasp_law_program_text.proofs.TermFittingLemmas.Terms.{term_holds}
use Rattle.scasp_law_program_text.proofs.term_fitting.laws.terms_that_are_read_fit.Goals as goal

pub returns : goal.returns
returns c = record {
  fit = λ room s t x w r e fine c. ((term_holds room s r).holds x t e fine).fit w c;
  counted = λ room s t x w r e fine c. ((term_holds room s r).holds x t e fine).counted w c;
  reader = λ room s t x r e. ((term_holds room s r).follows x t e).reader;
}
