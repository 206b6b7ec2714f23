use Rattle.scasp_law_checked.proofs.Checking.{searched-right}
use Rattle.scasp_law_checked.proofs.laws.searched_answers_are_right.Goals as goal

pub returns : goal.returns
returns c = searched-right c.printed_answers_are_right.ensures c.answers_are_sampled.ensures
