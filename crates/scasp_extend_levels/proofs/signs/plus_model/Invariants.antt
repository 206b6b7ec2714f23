use Rattle.scasp_extend_levels.specs.Scenes.{Means, Scene, read}
use Rattle.scasp_model.specs.Levelled.{plus_steps}
use Rattle.scasp_worklist.specs.Numbered.{has}
use Rattle.scasp_extend_levels.proofs.signs.plus_model.Given as goal

abbrev pub invariant-loop-step : goal.invariant-loop-step
invariant-loop-step l = (s : Scene l.standings l.rules) → Means s (has l.plus) (plus_steps s.plus (read s) l._step)
