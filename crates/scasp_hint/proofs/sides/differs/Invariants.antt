use Rattle.std.proofs.Common.{◌≡◌, ◌++◌, drop}
use Rattle.scasp_hint.specs.Sides.{differs, differs_in}
use Rattle.scasp_hint.proofs.sides.differs.Given as goal

abbrev pub invariant-loop-constraint : goal.invariant-loop-constraint
invariant-loop-constraint l = l.all.items ++ differs_in l.constraints (drop l.constraint-index l.constraints) ≡ differs l.constraints
