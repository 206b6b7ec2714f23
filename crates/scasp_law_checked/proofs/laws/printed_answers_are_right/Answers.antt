use Rattle.scasp_law_checked.proofs.Checking.{printed-right}
use Rattle.scasp_law_checked.proofs.laws.printed_answers_are_right.Goals as goal

pub returns : goal.returns
returns c = printed-right c.grown_tables_read.ensures c.read_answers_are_accepted.ensures
