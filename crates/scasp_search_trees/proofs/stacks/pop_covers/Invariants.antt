use Rattle.std.proofs.Common.{◌≡◌, ◌++◌, drop, take}
use Rattle.scasp_cert.specs.View.{covers_of}
use Rattle.scasp_search_trees.specs.Stacked.{covers_in}
use Rattle.scasp_search_trees.proofs.stacks.pop_covers.Given as goal

abbrev pub invariant-loop-more : goal.invariant-loop-more
invariant-loop-more l =
    (covers_of l.made ++ take l.more (covers_in l.stack.items) ≡ take l.count (covers_in l.fn.stack.items))
    × (drop l.more (covers_in l.stack.items) ≡ drop l.count (covers_in l.fn.stack.items))

abbrev pub decreases-loop-more : goal.decreases-loop-more
decreases-loop-more l = l.more
