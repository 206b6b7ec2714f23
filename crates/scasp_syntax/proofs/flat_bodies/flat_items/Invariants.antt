use Rattle.std.proofs.Common.{◌≡◌, ◌++◌, drop}
use Rattle.scasp_syntax.specs.Flat.{flat_body, flat_after}
use Rattle.scasp_syntax.proofs.flat_bodies.flat_items.Given as goal

abbrev pub invariant-loop-item : goal.invariant-loop-item
invariant-loop-item l = l.items ++ flat_after l.seen (drop l.item-index l.body) ≡ flat_body l.body
