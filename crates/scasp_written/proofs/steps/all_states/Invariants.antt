use Rattle.std.proofs.Common.{◌≡◌, ◌++◌, [], false, length}
use Rattle.scasp_search_state.specs.Choices.{states}
use Rattle.scasp_written.proofs.steps.all_states.Given as goal

abbrev pub invariant-loop-is_left : goal.invariant-loop-is_left
invariant-loop-is_left g l = record {
  states : l.all ++ states l.program l.is_left (g.M.Situation.now l.at) (g.M.Situation.points l.at)
      ≡ states l.program l.fn.is_ahead (g.M.Situation.now l.fn.at) (g.M.Situation.points l.fn.at);
  ended : l.is_left ≡ false → g.M.Situation.points l.at ≡ [];
}

abbrev pub decreases-loop-is_left : goal.decreases-loop-is_left
decreases-loop-is_left g l = length (states l.program l.is_left (g.M.Situation.now l.at) (g.M.Situation.points l.at))
