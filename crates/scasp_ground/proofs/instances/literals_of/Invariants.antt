use Rattle.std.proofs.Common.{◌≡◌, ◌++◌, drop}
use Rattle.std.specs.List.{flat_map}
use Rattle.scasp_model.specs.Grounding.{literal_under}
use Rattle.scasp_syntax.specs.Tm.{items}
use Rattle.scasp_syntax.specs.Values.{giving}
use Rattle.scasp_ground.proofs.instances.literals_of.Given as goal

abbrev pub invariant-loop-item : goal.invariant-loop-item
invariant-loop-item l =
    l.made ++ flat_map (literal_under (giving (items l.values))) (drop l.item-index l.item-items) ≡ flat_map (literal_under (giving (items l.values))) l.body
