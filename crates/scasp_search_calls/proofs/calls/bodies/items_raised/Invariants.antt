use Rattle.std.proofs.Common.{◌≡◌, map, take}
use Rattle.scasp_search_rules.specs.Successors.Items.{item_raised}
use Rattle.scasp_search_calls.proofs.calls.bodies.items_raised.Given as goal

abbrev pub invariant-loop-item : goal.invariant-loop-item
invariant-loop-item l = l.made ≡ map (item_raised l.by) (take l.item-index l.items)
