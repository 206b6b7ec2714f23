use Rattle.std.proofs.Common.{◌≡◌, drop, filter}
use Rattle.scasp_search_rules.specs.Successors.Calls.{can_be_seen}
use Rattle.scasp_search_calls.proofs.calls.earlier.seen.Given as goal

abbrev pub invariant-loop-literal : goal.invariant-loop-literal
invariant-loop-literal l =
    filter (can_be_seen l.state l.lit) (drop l.literal-index l.literal-items) ≡ filter (can_be_seen l.state l.lit) l.state.literals
