use Rattle.std.proofs.Common.{◌≡◌, ◌++◌, drop, map}
use Rattle.scasp_shorten.specs.Shortest.{left_open}
use Rattle.scasp_shorten.proofs.alternatives.push_open.Given as goal

abbrev pub invariant-loop-other : goal.invariant-loop-other
invariant-loop-other l = l.opens ++ map (left_open l.list) (drop l.other-index l.others) ≡ l.fn.opens ++ map (left_open l.list) l.others
