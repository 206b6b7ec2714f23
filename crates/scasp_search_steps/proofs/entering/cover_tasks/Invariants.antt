use Rattle.std.proofs.Common.{◌≡◌, map, take}
use Rattle.scasp_search_rules.specs.declared.states.tasks.Task.TheVariants as task
use Rattle.scasp_search_steps.proofs.entering.cover_tasks.Given as goal

abbrev pub invariant-loop-rule : goal.invariant-loop-rule
invariant-loop-rule l = l.tasks ≡ map (task.Cover l.atom) (take l.rule-index l.rules)
