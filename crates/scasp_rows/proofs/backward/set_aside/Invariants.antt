use Rattle.std.proofs.Common.{◌≡◌, drop, ◌++◌, Ok}
use Rattle.scasp_rows.specs.Elimination.{and_then}
use Rattle.scasp_rows.specs.Inside.Asides.{asides_from}
use Rattle.scasp_rows.proofs.backward.set_aside.Given as goal

abbrev pub invariant-loop-x : goal.invariant-loop-x
invariant-loop-x l = and_then (asides_from (drop l.x-index l.variables) l.state) (λ later. Ok (l.asides ++ later)) ≡ asides_from l.variables l.initial.state
