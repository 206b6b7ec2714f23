use Rattle.std.proofs.Common.{◌≡◌, ℕ, ◌^◌, ◌-◌, ◌<◌}
use Rattle.scasp_search_walk.specs.Walks.{Reached}
use Rattle.scasp_search_walk.proofs.ahead.arrive.Given as goal

abbrev pub invariant-loop-ahead : goal.invariant-loop-ahead
invariant-loop-ahead g l = record {
  steps : l.steps < 2 ^ 64;
  same : g.F.Frontier.problem l.front ≡ g.F.Frontier.problem l.fn.front;
  reached : (budget calls : ℕ) → Reached (g.F.Frontier.machine (g.F.Frontier.problem l.fn.front)) budget (g.F.Frontier.states l.fn.front) calls (g.F.Frontier.states l.front) calls;
}

abbrev pub decreases-loop-ahead : goal.decreases-loop-ahead
decreases-loop-ahead g l = 2 ^ 64 - l.steps
