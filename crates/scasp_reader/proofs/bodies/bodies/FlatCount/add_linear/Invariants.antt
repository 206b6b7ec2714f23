use Rattle.std.proofs.Common.{◌≡◌, ◌+◌, ◌++◌, length, drop}
use Rattle.scasp_syntax.specs.Flat.{unseen}
use Rattle.scasp_reader.proofs.bodies.bodies.FlatCount.add_linear.Given as goal

abbrev pub invariant-loop-x : goal.invariant-loop-x
invariant-loop-x l =
    (l.self.seen ++ drop l.x-index l.vars ≡ l.fn.self.seen ++ l.vars) × (l.self.number ≡ l.fn.self.number + (length (unseen l.fn.self.seen l.vars) + 1))
