use Rattle.std.proofs.Common.{◌≡◌, ◌++◌, drop, map}
use Rattle.scasp_hint_steps.specs.Pruned.{pruned}
use Rattle.scasp_hint_steps.proofs.pruning.pruned_lists.Given as goal

abbrev pub invariant-loop-steps : goal.invariant-loop-steps
invariant-loop-steps l = l.made ++ map (pruned l.first) (drop l.steps-index l.lists) ≡ map (pruned l.first) l.lists
