use Rattle.std.proofs.Common.{sym}
use Rattle.scasp_cells.proofs.Filling.{seen_len}
use Rattle.scasp_cells.proofs.cells.Cells.len.Goals as goal

pub returns-clause-len : goal.returns-clause-len
returns-clause-len g c = sym (seen_len _ _ c.self.invariant _ c.self.view_is)
