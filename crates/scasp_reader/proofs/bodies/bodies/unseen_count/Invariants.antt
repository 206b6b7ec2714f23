use Rattle.std.proofs.Common.{◌≡◌, ◌≤◌, ◌+◌, length, drop}
use Rattle.scasp_syntax.specs.Flat.{unseen}
use Rattle.scasp_reader.proofs.bodies.bodies.unseen_count.Given as goal

abbrev pub invariant-loop-x : goal.invariant-loop-x
invariant-loop-x l = (l.count + length (unseen l.seen (drop l.x-index l.vars)) ≡ length (unseen l.seen l.vars)) × (l.count ≤ l.x-index)
