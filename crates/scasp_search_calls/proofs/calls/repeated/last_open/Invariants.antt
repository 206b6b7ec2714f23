use Rattle.std.proofs.Common.{◌≡◌, ◌≤◌, length}
use Rattle.scasp_search_calls.specs.Calls.Inside.Open.{open_among}
use Rattle.scasp_search_calls.proofs.calls.repeated.last_open.Given as goal

abbrev pub invariant-loop-last : goal.invariant-loop-last
invariant-loop-last l = (open_among l.rest ≡ open_among l.fn.literals) × (length l.rest ≤ length l.fn.literals)

abbrev pub decreases-loop-last : goal.decreases-loop-last
decreases-loop-last l = length l.rest
