use Rattle.scasp_law_program_text.proofs.FittingLemmas.Bodies.{body_holds}
use Rattle.scasp_law_program_text.proofs.fitting.laws.bodies_that_are_read_fit.Goals as goal

pub returns : goal.returns
returns c = record {
  fit = λ s t x w r e fine c. ((body_holds s r).holds x t e fine).fit w c;
  counted = λ s t x w r e fine c. ((body_holds s r).holds x t e fine).counted w c;
  reader = λ s t x r e. ((body_holds s r).follows x t e).reader;
}
