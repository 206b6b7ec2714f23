use Rattle.std.proofs.Common.{◌≡◌, drop}
use Rattle.scasp_shorten.specs.Shortest.{in_order}
use Rattle.scasp_shorten.proofs.ordering.in_order.Given as goal

abbrev pub invariant-loop-place : goal.invariant-loop-place
invariant-loop-place l = l.made ≡ in_order (drop l.place l.list)
