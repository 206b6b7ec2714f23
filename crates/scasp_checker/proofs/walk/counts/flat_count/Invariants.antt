use Rattle.std.proofs.Common.{◌≡◌, ◌+◌, length, drop}
use Rattle.scasp_syntax.specs.Flat.{flat_after, flat_body}
use Rattle.scasp_checker.proofs.walk.counts.flat_count.Given as goal

abbrev pub invariant-loop-item : goal.invariant-loop-item
invariant-loop-item l = l.count + length (flat_after l.seen (drop l.item-index l.body)) ≡ length (flat_body l.body)
