use Rattle.std.proofs.Common.{◌≡◌, drop, map}
use Rattle.scasp_worklist.specs.Inside.Closing.{state_of, entry_of, all_placed, woken}
use Rattle.scasp_worklist.proofs.worklist.Closing.wake.Given as goal

abbrev pub invariant-loop-rule : goal.invariant-loop-rule
invariant-loop-rule l =
    all_placed (state_of l.self) (map entry_of (drop l.rule-index l.rule-items)) ≡ woken (state_of l.fn.self) l.number
