use Rattle.std.proofs.Common.{◌≡◌, ◌++◌, take}
use Rattle.scasp_search_trail.proofs.splits.with_vars.Given as goal

abbrev pub invariant-loop-x : goal.invariant-loop-x
invariant-loop-x l = l.all ≡ l.fn.vars ++ take l.x-index l.more
