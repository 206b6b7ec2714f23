use Rattle.std.proofs.Common.{◌≡◌, length}
use Rattle.scasp_search_parts.specs.Times.{times_at}
use Rattle.scasp_search_parts.proofs.timed.Timed.undo.Given as goal

abbrev pub invariant-loop-self : goal.invariant-loop-self
invariant-loop-self g l = times_at l.fn.changes l.self ≡ times_at l.fn.changes l.fn.self

abbrev pub decreases-loop-self : goal.decreases-loop-self
decreases-loop-self g l = length l.self.before
