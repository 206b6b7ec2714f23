use Rattle.std.proofs.Common.{◌≡◌, ◌++◌, drop, map}
use Rattle.scasp_fixed.specs.Fixed.{fixing}
use Rattle.scasp_fixed.proofs.values.fixing_of_each.Given as goal

abbrev pub invariant-loop-list : goal.invariant-loop-list
invariant-loop-list l = l.made ++ map (fixing l.numbers) (drop l.list-index l.lists) ≡ map (fixing l.numbers) l.lists
