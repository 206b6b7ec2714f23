use Rattle.std.proofs.Common.{◌≡◌, ◌+◌, length, drop}
use Rattle.scasp_syntax.specs.Flat.{unseen}
use Rattle.scasp_checker.proofs.walk.counts.with_unseen.Given as goal

abbrev pub invariant-loop-x : goal.invariant-loop-x
invariant-loop-x l = l.made + length (unseen l.seen (drop l.x-index l.vars)) ≡ l.fn.count + length (unseen l.seen l.vars)
