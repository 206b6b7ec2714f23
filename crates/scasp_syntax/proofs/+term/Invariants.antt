use Rattle.std.proofs.Common.{◌+◌, ◌≤◌}
use Rattle.scasp_syntax.specs.Tm.{weight, weight_s}
use Rattle.scasp_syntax.specs.View.{tm_of, tms_of}
use Rattle.scasp_syntax.proofs.+term.Given as goal

abbrev pub invariant-term::Terms::drop-loop-hand : goal.invariant-term::Terms::drop-loop-hand
invariant-term::Terms::drop-loop-hand l = weight (tm_of l.hand) + weight_s (tms_of l.rest.items) ≤ weight (tm_of l.initial.hand) + weight_s (tms_of l.initial.rest.items)

abbrev pub decreases-term::Terms::drop-loop-hand : goal.decreases-term::Terms::drop-loop-hand
decreases-term::Terms::drop-loop-hand l = weight (tm_of l.hand)

abbrev pub invariant-term::Terms::drop-loop-term : goal.invariant-term::Terms::drop-loop-term
invariant-term::Terms::drop-loop-term l = weight_s (tms_of l.rest.items) ≤ weight_s l.fn.self

abbrev pub decreases-term::Terms::drop-loop-term : goal.decreases-term::Terms::drop-loop-term
decreases-term::Terms::drop-loop-term l = weight_s (tms_of l.rest.items)
