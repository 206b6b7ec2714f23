use Rattle.std.proofs.Common.{◌≡◌, ◌+◌, ◌^◌, ◌≤◌, length}
use Rattle.scasp_cells.proofs.cells.Cells.shrink.Given as goal

abbrev pub invariant-loop-self : goal.invariant-loop-self
invariant-loop-self g l = record {
  items : l.self.items ≡ l.initial.self.items;
  above : 2 ^ l.count ≤ length l.self.items + l.self.spare + 1;
}

abbrev pub decreases-loop-self : goal.decreases-loop-self
decreases-loop-self g l = l.self.spare
