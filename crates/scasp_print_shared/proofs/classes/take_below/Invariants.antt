use Rattle.std.proofs.Common.{◌≡◌, ◌+◌, ◌++◌, reverse, vec_len}
use Rattle.scasp_print_shared.specs.Inside.Classes.{below, beside, classes_of, count_of}
use Rattle.scasp_print_shared.proofs.classes.take_below.Given as goal

abbrev pub invariant-loop-root : goal.invariant-loop-root
invariant-loop-root l = record {
  classes : l.classes.items ++ classes_of (below l.depth (reverse l.roots.items)) ≡ l.fn.classes.items ++ classes_of (below l.depth (reverse l.fn.roots.items));
  roots : beside l.depth (reverse l.roots.items) ≡ beside l.depth (reverse l.fn.roots.items);
  count : l.count + count_of (below l.depth (reverse l.roots.items)) ≡ count_of (below l.depth (reverse l.fn.roots.items));
}

abbrev pub decreases-loop-root : goal.decreases-loop-root
decreases-loop-root l = vec_len l.roots
