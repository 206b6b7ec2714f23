use Rattle.std.proofs.Common.{◌≡◌, ◌++◌, drop, map}
use Rattle.scasp_rows.specs.Inside.Outlooks.{factors_of}
use Rattle.scasp_rows.proofs.falsity.all_factors.Given as goal

abbrev pub invariant-loop-r : goal.invariant-loop-r
invariant-loop-r l = l.all.items ++ map (factors_of l.x l.y) (drop l.r-index l.rows) ≡ map (factors_of l.x l.y) l.rows
