use Rattle.std.proofs.Common.{◌≡◌, ◌++◌}
use Rattle.std.specs.Vec.Iter.{into_iter_items}
use Rattle.scasp_forall.specs.Inside.Listed.{listed}
use Rattle.scasp_forall.proofs.regions.push_region.Given as goal

abbrev pub invariant-loop-constraint : goal.invariant-loop-constraint
invariant-loop-constraint l = l.list ++ into_iter_items l.constraint-iterator ≡ l.fn.list ++ listed l.region
