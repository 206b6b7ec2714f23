use Rattle.std.proofs.Common.{◌≡◌, ◌++◌, drop}
use Rattle.scasp_checker.proofs.walk.counts.with_linear.Given as goal

abbrev pub invariant-loop-x : goal.invariant-loop-x
invariant-loop-x l = l.seen ++ drop l.x-index l.linear.vars ≡ l.fn.seen ++ l.linear.vars
