use Rattle.std.proofs.Common.{◌≡◌, ◌-◌, length}
use Rattle.scasp_syntax.specs.Values.{under}
use Rattle.scasp_syntax.specs.View.{tm_of}
use Rattle.scasp_bound.specs.Inside.Reading.{behind}
use Rattle.scasp_bound.proofs.reading.head_of.Given as goal

abbrev pub invariant-bindings : goal.invariant-bindings
invariant-bindings l = under (behind l.next l.bindings) (tm_of l.reached) ≡ under (behind l.fn.from l.bindings) (tm_of l.fn.term)

abbrev pub decreases-bindings : goal.decreases-bindings
decreases-bindings l = length l.bindings - l.next
