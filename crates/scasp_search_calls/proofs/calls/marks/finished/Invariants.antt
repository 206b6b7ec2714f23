use Rattle.std.proofs.Common.{◌≡◌, ◌++◌}
use Rattle.std.specs.Vec.Iter.{into_iter_items}
use Rattle.scasp_search_rules.specs.Successors.Calls.{at_number, finished}
use Rattle.scasp_search_calls.proofs.calls.marks.finished.Given as goal

abbrev pub invariant-loop-literal : goal.invariant-loop-literal
invariant-loop-literal l = l.made ++ at_number l.number finished (into_iter_items l.literal-iterator) ≡ at_number l.number finished l.fn.literals
