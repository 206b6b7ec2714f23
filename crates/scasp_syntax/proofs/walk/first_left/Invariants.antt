use Rattle.std.proofs.Common.{◌≡◌, length}
use Rattle.scasp_syntax.specs.View.{tms_of}
use Rattle.scasp_syntax.specs.Walks.{onto, waiting}
use Rattle.scasp_syntax.proofs.walk.first_left.Given as goal

abbrev pub invariant-lists : goal.invariant-lists
invariant-lists l = onto (tms_of l.list) (waiting l.later.items) ≡ onto (tms_of l.fn.here) (waiting l.fn.later.items)

abbrev pub decreases-lists : goal.decreases-lists
decreases-lists l = length l.later.items
