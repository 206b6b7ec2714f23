use Rattle.std.proofs.Common.{nat_eq, sym, ap, ◌∙◌}
use Rattle.scasp_cert.specs.View.{trees_of}
use Rattle.scasp_lines.proofs.CountLemmas.{count-listed}
use Rattle.scasp_checker_answer.proofs.rules.has_count_of.Goals as goal

pub returns : goal.returns
returns c = ap (λ n. nat_eq n c.args.wanted) (c.len.ensures ∙ sym (count-listed (trees_of c.args.nodes.now)))
