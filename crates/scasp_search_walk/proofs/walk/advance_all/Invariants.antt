use Rattle.std.specs.Prelude.{None, IsSome}
use Rattle.std.proofs.Common.{◌≡◌, ℕ, ◌++◌, List, take, length}
use Rattle.scasp_search_walk.specs.Slices.{Comes}
use Rattle.scasp_search_walk.specs.declared.events.Advance.{Advance}
use Rattle.scasp_search_walk.proofs.walk.advance_all.Given as goal

abbrev pub invariant-loop-slice : goal.invariant-loop-slice
invariant-loop-slice g l = record {
  same : g.F.Frontier.problem l.walk.front ≡ g.F.Frontier.problem l.fn.walk.front;
  budget : l.walk.budget ≡ l.fn.walk.budget;
  count : length l.answers.items ≡ l.slice-index;
  goes : l.fn.walk.stopped ≡ None → l.walk.stopped ≡ None
      → Comes g.F.Frontier.value_of (g.F.Frontier.machine (g.F.Frontier.problem l.fn.walk.front)) l.fn.walk.budget (g.F.Frontier.states l.fn.walk.front) l.fn.walk.calls 0
      (take l.slice-index l.slices) l.answers.items (g.F.Frontier.states l.walk.front) l.walk.calls;
  ends : l.fn.walk.stopped ≡ None → IsSome l.walk.stopped → (ms : List ℕ) (fs : List (Advance g.row.A.Denot)) (new : List (g.F.Frontier.State)) (after : ℕ)
      → Comes g.F.Frontier.value_of (g.F.Frontier.machine (g.F.Frontier.problem l.fn.walk.front)) l.fn.walk.budget (g.F.Frontier.states l.fn.walk.front) l.fn.walk.calls 0
      (take l.slice-index l.slices ++ ms) (l.answers.items ++ fs) new after;
}
