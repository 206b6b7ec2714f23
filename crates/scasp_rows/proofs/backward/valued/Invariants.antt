use Rattle.std.proofs.Common.{◌≡◌, [], length}
use Rattle.scasp_rows.specs.Inside.Asides.{valued}
use Rattle.scasp_rows.proofs.backward.valued.Given as goal

abbrev pub invariant-loop-aside : goal.invariant-loop-aside
invariant-loop-aside l = valued l.rest.items l.point ≡ valued l.fn.asides []

abbrev pub decreases-loop-aside : goal.decreases-loop-aside
decreases-loop-aside l = length l.rest.items
