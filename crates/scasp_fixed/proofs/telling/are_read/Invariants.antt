use Rattle.std.proofs.Common.{◌≡◌, drop}
use Rattle.scasp_fixed.specs.Fixed.{are_read}
use Rattle.scasp_unify.specs.Solving.{sub_of}
use Rattle.scasp_fixed.proofs.telling.are_read.Given as goal

abbrev pub invariant-loop-constraint : goal.invariant-loop-constraint
invariant-loop-constraint l = are_read (sub_of l.values) (drop l.constraint-index l.list) ≡ are_read (sub_of l.values) l.list
