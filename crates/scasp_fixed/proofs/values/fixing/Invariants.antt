use Rattle.std.proofs.Common.{◌≡◌, ◌++◌, drop, filter}
use Rattle.scasp_fixed.specs.Fixed.{is_fixing}
use Rattle.scasp_fixed.proofs.values.fixing.Given as goal

abbrev pub invariant-loop-constraint : goal.invariant-loop-constraint
invariant-loop-constraint l = l.made ++ filter (is_fixing l.numbers) (drop l.constraint-index l.list) ≡ filter (is_fixing l.numbers) l.list
