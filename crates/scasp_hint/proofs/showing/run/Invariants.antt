use Rattle.std.proofs.Common.{◌≡◌, false, drop, length, take}
use Rattle.scasp_hint.specs.Showing.{run}
use Rattle.scasp_hint.proofs.showing.run.Given as goal

abbrev pub invariant-loop-added : goal.invariant-loop-added
invariant-loop-added l = record {
  same : run l.rows.items (drop l.added-index l.steps) l.is_reached ≡ run l.fn.rows.items l.steps false;
  kept : take (length l.fn.rows.items) l.rows.items ≡ l.fn.rows.items;
}
