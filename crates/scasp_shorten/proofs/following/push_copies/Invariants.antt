use Rattle.std.proofs.Common.{◌≡◌, ◌++◌, drop}
use Rattle.scasp_shorten.proofs.following.push_copies.Given as goal

abbrev pub invariant-loop-constraint : goal.invariant-loop-constraint
invariant-loop-constraint l = l.made ++ drop l.constraint-index l.list ≡ l.fn.made ++ l.list
