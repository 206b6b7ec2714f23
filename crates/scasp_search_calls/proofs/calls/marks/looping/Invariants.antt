use Rattle.std.proofs.Common.{◌≡◌, ◌++◌}
use Rattle.std.specs.Vec.Iter.{into_iter_items}
use Rattle.scasp_search_rules.specs.Successors.Calls.{at_number, looping}
use Rattle.scasp_search_calls.proofs.calls.marks.looping.Given as goal

abbrev pub invariant-loop-literal : goal.invariant-loop-literal
invariant-loop-literal l = l.made ++ at_number l.number looping (into_iter_items l.literal-iterator) ≡ at_number l.number looping l.fn.literals
