use Rattle.std.proofs.Common.{ℕ}
use Rattle.scasp_written.specs.Written.Inside.Heights.{total}
use Rattle.scasp_search_walk.specs.Walks.{Reached}
use Rattle.scasp_written.specs.Written.Inside.Stacks.{states_of}
use Rattle.scasp_written.specs.Written.Rests.{machine, problem_in}
use Rattle.scasp_written.proofs.written.free.advance.Given as goal

abbrev pub invariant-loop-waiting : goal.invariant-loop-waiting
invariant-loop-waiting l =
    (budget calls : ℕ)
    → Reached (machine (problem_in l.goal) l.goal.queried) budget (states_of l.fn.stack.items) calls (states_of l.stack.items) calls

abbrev pub decreases-loop-waiting : goal.decreases-loop-waiting
decreases-loop-waiting l = total l.stack.items
