use Rattle.std.proofs.Common.{◌≡◌, ◌≤◌, ◌-◌, length, take}
use Rattle.scasp_loops.specs.Inside.Zipped.{literals_from}
use Rattle.scasp_loops.proofs.loops.copies.Given as goal

abbrev pub invariant-literals : goal.invariant-literals
invariant-literals l = record {
  now : l.made ≡ take l.at (literals_from 0 l.entries l.marks);
  within : l.at ≤ length l.marks;
}

abbrev pub decreases-literals : goal.decreases-literals
decreases-literals l = length l.marks - l.at
