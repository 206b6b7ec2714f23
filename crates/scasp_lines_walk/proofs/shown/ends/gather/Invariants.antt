use Rattle.std.proofs.Common.{◌≡◌, drop, reverse}
use Rattle.scasp_lines_walk.specs.Shown.Inside.Ends.{gathered}
use Rattle.scasp_lines_walk.proofs.shown.ends.gather.Given as goal

abbrev pub invariant-loop-left : goal.invariant-loop-left
invariant-loop-left l = record {
  gathered : gathered l.below l.left (reverse l.ended.items) ≡ gathered l.fn.start l.count (reverse l.fn.ended.items);
  others : drop l.left (reverse l.ended.items) ≡ drop l.count (reverse l.fn.ended.items);
}

abbrev pub decreases-loop-left : goal.decreases-loop-left
decreases-loop-left l = l.left
