use Rattle.std.proofs.Common.{◌≡◌, [], drop}
use Rattle.scasp_loops.specs.Inside.Asked.{standing}
use Rattle.scasp_search_rules.specs.Successors.Variables.{has_universal}
use Rattle.scasp_loops.proofs.opposing.has_universal.Given as goal

abbrev pub invariant-loop-x : goal.invariant-loop-x
invariant-loop-x l = has_universal (standing l.variables.now [] []) (drop l.x-index l.xs) ≡ has_universal (standing l.variables.now [] []) l.xs
