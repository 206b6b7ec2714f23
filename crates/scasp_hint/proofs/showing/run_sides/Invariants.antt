use Rattle.std.proofs.Common.{◌≡◌, drop}
use Rattle.scasp_hint.specs.Showing.{run_sides}
use Rattle.scasp_hint.proofs.showing.run_sides.Given as goal

abbrev pub invariant-loop-place : goal.invariant-loop-place
invariant-loop-place l = record {
  same : run_sides l.fn.rows.items (drop l.place l.sides) (drop l.place l.lists) ≡ run_sides l.fn.rows.items l.sides l.lists;
  kept : l.rows.items ≡ l.fn.rows.items;
}
