use Rattle.std.proofs.Common.{◌≡◌, take}
use Rattle.scasp_list.specs.Each.{Each}
use Rattle.scasp_num.specs.Linear.{IsNormal}
use Rattle.scasp_rows.proofs.samples.copies.Given as goal

abbrev pub invariant-loop-r : goal.invariant-loop-r
invariant-loop-r l = (l.all ≡ take l.r-index l.rows) × Each IsNormal (take l.r-index l.rows)
