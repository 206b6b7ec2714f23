use Rattle.scasp_lines.proofs.SaidLemmas.{said-at_line, line-said, closed-terms, closed-from, atom-said, said-atom}
use Rattle.scasp_lines.proofs.laws.lines_say_it.Goals as goal

pub returns : goal.returns
returns c = record {
  said = λ p c known free d s. (said-at_line p c known free d s, line-said p c known free d s);
  atoms = atom-said;
  lines = said-atom;
  closed = λ p c known free d. (closed-terms p c known free d, closed-from p c known free d);
}
