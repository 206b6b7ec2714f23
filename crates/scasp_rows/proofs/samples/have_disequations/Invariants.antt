use Rattle.std.proofs.Common.{take}
use Rattle.scasp_rows.specs.Samples.{OnlyDisequations}
use Rattle.scasp_rows.proofs.samples.have_disequations.Given as goal

abbrev pub invariant-loop-row : goal.invariant-loop-row
invariant-loop-row l = OnlyDisequations (take l.row-index l.parts)
