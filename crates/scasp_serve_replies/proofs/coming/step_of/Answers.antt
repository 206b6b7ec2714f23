use Rattle.scasp_serve_replies.proofs.GoingLemmas.{step-of-tree}
use Rattle.scasp_serve_replies.proofs.ReplyLemmas.{ok-more}
use Rattle.scasp_serve_replies.proofs.coming.step_of.Goals as goal

pub returns-in-Answer : goal.returns-in-Answer
returns-in-Answer c =
    ok-more c.tree_step.result (λ step h. step-of-tree c.args.program.now c.args.advance c.in-Answer.tree step c.in-Answer.is h) c.tree_step.ensures
