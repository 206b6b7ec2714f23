use Rattle.std.proofs.Common.{◌≡◌, false, length}
use Rattle.scasp_search_calls.specs.Calls.Inside.Open.{open_among}
use Rattle.scasp_search_rules.specs.Successors.Calls.{ancestors, nearest}
use Rattle.scasp_search_calls.proofs.calls.repeated.nearest.Given as goal

abbrev pub invariant-loop-last : goal.invariant-loop-last
invariant-loop-last l = nearest l.state l.lit l.passed (open_among l.rest) ≡ nearest l.state l.lit false (ancestors l.state)

abbrev pub decreases-loop-last : goal.decreases-loop-last
decreases-loop-last l = length l.rest
