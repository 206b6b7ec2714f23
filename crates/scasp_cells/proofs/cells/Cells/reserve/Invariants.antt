use Rattle.std.proofs.Common.{◌≡◌, ◌-◌, ◌≤◌}
use Rattle.scasp_cells.proofs.cells.Cells.reserve.Given as goal

abbrev pub invariant-loop-self : goal.invariant-loop-self
invariant-loop-self g l = record {
  items : l.self.items ≡ l.initial.self.items;
  kept : l.initial.self.spare ≤ l.self.spare;
  enough : l.n ≤ l.initial.self.spare → l.self.spare ≡ l.initial.self.spare;
}

abbrev pub decreases-loop-self : goal.decreases-loop-self
decreases-loop-self g l = l.n - l.self.spare
