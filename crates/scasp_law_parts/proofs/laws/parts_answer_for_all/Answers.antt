use Rattle.scasp_law_parts.proofs.QuestionLemmas.{part-answers}
use Rattle.scasp_law_parts.proofs.laws.parts_answer_for_all.Goals as goal

pub returns : goal.returns
returns c = part-answers
