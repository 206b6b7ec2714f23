use Rattle.std.proofs.Common.{length}
use Rattle.scasp_search_state.specs.Choices.{waiting}
use Rattle.scasp_search_steps.specs.Foresight.{SkipsIf}
use Rattle.scasp_search_steps.proofs.choices.resume_ahead.Given as goal

abbrev pub invariant-loop-choice : goal.invariant-loop-choice
invariant-loop-choice g l = SkipsIf g.M.Foresees.foresees l.program (waiting l.program (g.M.Situation.points l.fn.at)) (waiting l.program (g.M.Situation.points l.at))

abbrev pub decreases-loop-choice : goal.decreases-loop-choice
decreases-loop-choice g l = length (g.M.Situation.points l.at)
