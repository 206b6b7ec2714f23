use Rattle.std.proofs.Common.{◌-◌, length}
use Rattle.scasp_store.specs.Inside.Fixing.{AreFixed}
use Rattle.scasp_store.proofs.fixing.fix_all.Given as goal

abbrev pub invariant-loop-at : goal.invariant-loop-at
invariant-loop-at l = AreFixed l.list l.fixed.now

abbrev pub decreases-loop-at : goal.decreases-loop-at
decreases-loop-at l = length l.list - l.at
