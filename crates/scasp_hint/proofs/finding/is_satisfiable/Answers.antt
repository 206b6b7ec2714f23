use Rattle.scasp_hint.proofs.FoundAnswers.{answer-passes}
use Rattle.scasp_hint.proofs.finding.is_satisfiable.Goals as goal

pub returns-clause-value : goal.returns-clause-value
returns-clause-value c = answer-passes c.args.constraints.now c.in_ok-answer.answer c.is_none.result c.read_rows.ensures c.in_ok-answer.ensures.exact c.is_none.ensures
