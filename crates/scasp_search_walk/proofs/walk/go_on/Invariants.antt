use Rattle.std.proofs.Common.{◌≡◌, ◌+◌, ◌≤◌, ◌-◌}
use Rattle.scasp_search_walk.specs.Walks.{Reached}
use Rattle.scasp_search_walk.proofs.walk.go_on.Given as goal

abbrev pub invariant-loop-answer : goal.invariant-loop-answer
invariant-loop-answer g l = record {
  within : l.calls ≤ l.budget;
  few : l.spent ≤ l.slice;
  spent : l.calls ≡ l.fn.calls + l.spent;
  same : g.F.Frontier.problem l.front ≡ g.F.Frontier.problem l.fn.front;
  reached : Reached (g.F.Frontier.machine (g.F.Frontier.problem l.fn.front)) l.budget (g.F.Frontier.states l.fn.front) l.fn.calls (g.F.Frontier.states l.front) l.calls;
}

abbrev pub decreases-loop-answer : goal.decreases-loop-answer
decreases-loop-answer g l = l.budget - l.calls
