use Rattle.std.proofs.Common.{◌≡◌, ◌++◌, take}
use Rattle.scasp_search_ends.proofs.finished.universals.push_copies.Given as goal

abbrev pub invariant-loop-x : goal.invariant-loop-x
invariant-loop-x l = l.found ≡ l.fn.found ++ take l.x-index l.xs
