use Rattle.std.proofs.Common.{◌≡◌, ◌++◌}
use Rattle.std.specs.Vec.Iter.{into_iter_items}
use Rattle.scasp_search_terms.proofs.regions.joined.Given as goal

abbrev pub invariant-loop-task : goal.invariant-loop-task
invariant-loop-task l = l.all ++ into_iter_items l.task-iterator ≡ l.fn.first ++ l.fn.rest.items
