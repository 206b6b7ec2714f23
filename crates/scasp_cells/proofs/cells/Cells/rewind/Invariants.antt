use Rattle.std.proofs.Common.{◌≡◌, ◌+◌, ◌≤◌, ◌++◌, List, length}
use Rattle.scasp_cells.proofs.cells.Cells.rewind.Given as goal

abbrev pub invariant-loop-self : goal.invariant-loop-self
invariant-loop-self g l = record {
  dropped : (rest : List g.row.T.Denot) × (l.initial.self.items ≡ l.self.items ++ rest);
  above : l.len ≤ length l.self.items;
  spare : l.self.spare + length l.self.items ≡ l.initial.self.spare + length l.initial.self.items;
}

abbrev pub decreases-loop-self : goal.decreases-loop-self
decreases-loop-self g l = length l.self.items
