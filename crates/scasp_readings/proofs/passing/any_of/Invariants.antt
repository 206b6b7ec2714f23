use Rattle.std.proofs.Common.{◌≡◌, drop}
use Rattle.std.specs.List.{list_any}
use Rattle.scasp_readings.proofs.passing.any_of.Given as goal

abbrev pub invariant-loop-constraint : goal.invariant-loop-constraint
invariant-loop-constraint g l =
    list_any (g.T.ConTest.holds l.test) (drop l.constraint-index l.constraints) ≡ list_any (g.T.ConTest.holds l.test) l.constraints
