use Rattle.std.proofs.Common.{◌≡◌, ◌≤◌, length, ◌-◌}
use Rattle.scasp_system.specs.Standing.{StandsAt}
use Rattle.scasp_system.proofs.files.skip.Given as goal

abbrev pub invariant-loop-left : goal.invariant-loop-left
invariant-loop-left g l = record {
  room : length l.bytes ≡ 4096;
  within : l.left ≤ l.count;
  stands : StandsAt (g.R.Read.remaining l.fn.file) (l.count - l.left) (g.R.Read.remaining l.file);
}

abbrev pub decreases-loop-left : goal.decreases-loop-left
decreases-loop-left g l = l.left
