use Rattle.scasp_written.proofs.written.free.answer.Goals as goal

pub returns : goal.returns
returns c = c.answer_at.ensures c.args.goal.now.checks
