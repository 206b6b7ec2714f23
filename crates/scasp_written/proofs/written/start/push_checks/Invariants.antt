use Rattle.std.proofs.Common.{◌≡◌, ◌++◌, map, take}
use Rattle.scasp_search_rules.specs.declared.states.tasks.Task.TheVariants as task
use Rattle.scasp_written.proofs.written.start.push_checks.Given as goal

abbrev pub invariant-loop-item : goal.invariant-loop-item
invariant-loop-item l = l.tasks ≡ l.fn.tasks ++ map (λ i. task.Check i.clause i.head) (take l.item-index l.checks)
