use Rattle.std.proofs.Common.{◌≤◌, length}
use Rattle.scasp_loops.specs.Inside.Hinted.{Within, is_past}
use Rattle.scasp_loops.specs.Inside.Zipped.{literals_from}
use Rattle.scasp_loops.proofs.lists.open_same.Given as goal

abbrev pub invariant-literals : goal.invariant-literals
invariant-literals l = record {
  past : Within (is_past l.key) l.left (length l.lists.marks.now) (literals_from 0 l.lists.entries.now l.lists.marks.now);
  within : l.left ≤ length l.lists.marks.now;
}

abbrev pub decreases-literals : goal.decreases-literals
decreases-literals l = l.left
