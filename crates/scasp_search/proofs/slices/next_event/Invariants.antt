use Rattle.std.specs.Prelude.{None}
use Rattle.std.proofs.Common.{◌≡◌, ◌-◌}
use Rattle.scasp_search.proofs.EventLemmas.{GoesOn}
use Rattle.scasp_search.specs.Rests.{rest_of, stopped}
use Rattle.scasp_written.specs.Written.Rests.{IsSameRun}
use Rattle.scasp_search.proofs.slices.next_event.Given as goal

abbrev pub invariant-loop-cert : goal.invariant-loop-cert
invariant-loop-cert l = record {
  same : IsSameRun (rest_of l.fn.search) (rest_of l.search);
  stops : stopped l.search ≡ stopped l.fn.search;
  reached : stopped l.fn.search ≡ None → GoesOn (rest_of l.fn.search) (rest_of l.search);
}

abbrev pub decreases-loop-cert : goal.decreases-loop-cert
decreases-loop-cert l = l.search.walk.budget - l.search.walk.calls
