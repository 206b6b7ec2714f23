use Rattle.std.proofs.Common.{◌≡◌, ◌≤◌, ◌+◌, ◌*◌, ◌^◌, ◌++◌, ℕ, length, vec_len}
use Rattle.scasp_written.specs.Written.Inside.Heights.{IsBelow, total, tower}
use Rattle.scasp_written.specs.Written.Inside.Stacks.{states_of}
use Rattle.scasp_search_rules.specs.Successors.Falls.{EachState}
use Rattle.scasp_written.proofs.written.stack.push_all.Given as goal

abbrev pub invariant-loop-state : goal.invariant-loop-state
invariant-loop-state l = record {
  states : l.rest.items ++ states_of l.stack.items ≡ l.fn.states ++ states_of l.fn.stack.items;
  height : (p : ℕ) → EachState (IsBelow l.before l.made p) l.fn.states
      → EachState (IsBelow l.before l.made p) l.rest.items
      × (2 ^ 64 * total l.stack.items + length l.rest.items * tower p ≤ 2 ^ 64 * total l.fn.stack.items + length l.fn.states * tower p);
}

abbrev pub decreases-loop-state : goal.decreases-loop-state
decreases-loop-state l = vec_len l.rest
