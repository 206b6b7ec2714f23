use Rattle.std.proofs.Common.{◌≤◌, length}
use Rattle.scasp_loops.specs.Inside.Asked.{is_not, is_repeated}
use Rattle.scasp_loops.specs.Inside.Hinted.{Within}
use Rattle.scasp_loops.specs.Inside.Zipped.{literals_from}
use Rattle.scasp_readings.specs.Readings.{reading}
use Rattle.scasp_loops.proofs.asking.last_repeated.Given as goal

abbrev pub invariant-above : goal.invariant-above
invariant-above l = record {
  behind : Within (is_not (is_repeated (reading l.bound.now) l.lit)) l.left (length l.lists.marks.now) (literals_from 0 l.lists.entries.now l.lists.marks.now);
  within : l.left ≤ length l.lists.marks.now;
}

abbrev pub decreases-above : goal.decreases-above
decreases-above l = l.left
