use Rattle.scasp_lines.proofs.SubWalkLemmas.{certificate-whole, line-whole}
use Rattle.scasp_lines.proofs.SuffixLemmas.{instance-above}
use Rattle.scasp_lines.proofs.laws.lines_lie_within.Goals as goal

pub returns : goal.returns
returns c = record {
  whole = λ p c. (certificate-whole p.clauses p.queries c).has;
  within = λ s l. (line-whole s l).has;
  instance = instance-above;
}
