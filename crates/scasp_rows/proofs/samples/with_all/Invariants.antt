use Rattle.std.proofs.Common.{◌≡◌, drop}
use Rattle.scasp_list.specs.Each.{Each}
use Rattle.scasp_num.specs.Linear.{IsNormal}
use Rattle.scasp_rows.specs.Samples.{with_all}
use Rattle.scasp_rows.proofs.samples.with_all.Given as goal

abbrev pub invariant-loop-parts : goal.invariant-loop-parts
invariant-loop-parts l = (with_all l.all (drop l.parts-index l.differ) ≡ with_all l.rows l.differ) × Each IsNormal l.rows
