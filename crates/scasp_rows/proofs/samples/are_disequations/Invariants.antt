use Rattle.std.proofs.Common.{take}
use Rattle.scasp_list.specs.Each.{Each}
use Rattle.scasp_rows.specs.Samples.{OnlyDisequations}
use Rattle.scasp_rows.proofs.samples.are_disequations.Given as goal

abbrev pub invariant-loop-parts : goal.invariant-loop-parts
invariant-loop-parts l = Each OnlyDisequations (take l.parts-index l.differ)
