use Rattle.std.proofs.Common.{◌≡◌, ◌++◌, map, drop}
use Rattle.scasp_syntax.specs.Flat.{number_test, unseen}
use Rattle.scasp_syntax.proofs.flat_bodies.push_number_tests.Given as goal

abbrev pub invariant-loop-x : goal.invariant-loop-x
invariant-loop-x l =
    l.items ++ map number_test (unseen l.seen (drop l.x-index l.vars)) ≡ l.fn.items ++ map number_test (unseen l.seen l.vars)
