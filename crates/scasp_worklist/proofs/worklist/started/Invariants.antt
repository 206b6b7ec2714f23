use Rattle.std.proofs.Common.{◌≡◌, drop, map}
use Rattle.scasp_worklist.specs.Inside.Closing.{state_of, rule_entry, begun, all_placed}
use Rattle.scasp_worklist.proofs.worklist.started.Given as goal

abbrev pub invariant-loop-rule : goal.invariant-loop-rule
invariant-loop-rule l =
    all_placed (state_of l.closing) (map rule_entry (drop l.rule-index l.rule-items)) ≡ all_placed (begun l.count) (map rule_entry l.rules)
