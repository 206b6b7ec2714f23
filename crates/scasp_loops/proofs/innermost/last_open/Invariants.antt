use Rattle.std.proofs.Common.{◌≤◌}
use Rattle.scasp_loops.specs.Inside.Hinted.{Within, is_done}
use Rattle.scasp_loops.specs.Inside.Zipped.{literals_from}
use Rattle.scasp_loops.proofs.innermost.last_open.Given as goal

abbrev pub invariant-literals : goal.invariant-literals
invariant-literals l = record {
  done : Within is_done l.left l.count (literals_from 0 l.entries l.marks);
  within : l.left ≤ l.count;
}

abbrev pub decreases-literals : goal.decreases-literals
decreases-literals l = l.left
