use Rattle.std.proofs.Common.{◌≡◌, ◌++◌, drop}
use Rattle.scasp_shorten.specs.Shortest.{left_open}
use Rattle.scasp_shorten.proofs.alternatives.left_open.Given as goal

abbrev pub invariant-loop-constraint : goal.invariant-loop-constraint
invariant-loop-constraint l = l.made ++ left_open l.list (drop l.constraint-index l.other) ≡ left_open l.list l.other
