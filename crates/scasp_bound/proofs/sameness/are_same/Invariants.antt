use Rattle.std.proofs.Common.{◌≡◌}
use Rattle.scasp_bound.specs.Inside.Pairs.{is_same, work}
use Rattle.scasp_bound.proofs.sameness.are_same.Given as goal

abbrev pub invariant-firsts : goal.invariant-firsts
invariant-firsts l = is_same l.bindings l.next ≡ is_same l.bindings l.pair

abbrev pub decreases-firsts : goal.decreases-firsts
decreases-firsts l = work l.bindings l.next
