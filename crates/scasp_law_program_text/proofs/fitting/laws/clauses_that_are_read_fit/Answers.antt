use Rattle.scasp_reader.specs.declared.texts.clauses.Part.TheVariants as part
use Rattle.scasp_law_program_text.proofs.FittingLemmas.Texts.{clause_holds}
use Rattle.scasp_law_program_text.proofs.fitting.laws.clauses_that_are_read_fit.Goals as goal

pub returns : goal.returns
returns c = record {
  clause = λ s t x names r e fine keeps. (clause_holds s r).holds (part.Clause x) t e fine names keeps;
  query = λ s t x names r e fine keeps. (clause_holds s r).holds (part.Query x) t e fine names keeps;
  abducible = λ s t x names r e fine keeps. (clause_holds s r).holds (part.Abducible x) t e fine names keeps;
  reader = λ s t x r e. ((clause_holds s r).follows x t e).reader;
}
