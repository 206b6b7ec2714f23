use Rattle.std.proofs.Common.{◌≡◌, ◌++◌, Some, drop}
use Rattle.scasp_num.specs.Arithmetic.{◌>>=◌}
use Rattle.scasp_project.specs.Projection.{all_kept}
use Rattle.scasp_project.specs.Inside.CodeReading.{reading}
use Rattle.scasp_project.proofs.projecting.all_kept.Given as goal

abbrev pub invariant-loop-choice : goal.invariant-loop-choice
invariant-loop-choice l = (all_kept (reading l.resolver l.keep) (drop l.choice-index l.choices) >>= (λ later. Some (l.lists ++ later))) ≡ all_kept (reading l.resolver l.keep) l.choices
