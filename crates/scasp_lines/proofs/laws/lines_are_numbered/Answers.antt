use Rattle.scasp_lines.proofs.WalkLemmas.{certificate-runs, line-found, found-number, line-runs}
use Rattle.scasp_lines.proofs.laws.lines_are_numbered.Goals as goal

pub returns : goal.returns
returns c = record {
  counts = λ p c. (certificate-runs p.clauses p.queries c).counts;
  many = λ p c. (certificate-runs p.clauses p.queries c).long;
  found = λ p. line-found p.clauses p.queries;
  number = λ p. found-number p.clauses p.queries;
  below = λ s l. (line-runs s l).counts;
  many_below = λ s l. (line-runs s l).long;
}
