use Rattle.std.proofs.Common.{◌≤◌, ◌-◌}
use Rattle.scasp_search_walk.specs.Walks.{Reached}
use Rattle.scasp_written.specs.Written.Inside.Stacks.{states_of}
use Rattle.scasp_written.specs.Written.Rests.{machine, problem_in}
use Rattle.scasp_written.proofs.written.walk.first_event.Given as goal

abbrev pub invariant-loop-cert : goal.invariant-loop-cert
invariant-loop-cert l = record {
  within : l.calls ≤ l.budget;
  reached : Reached (machine (problem_in l.goal) l.goal.queried) l.budget (states_of l.fn.stack.items) l.fn.calls (states_of l.stack.items) l.calls;
}

abbrev pub decreases-loop-cert : goal.decreases-loop-cert
decreases-loop-cert l = l.budget - l.calls
