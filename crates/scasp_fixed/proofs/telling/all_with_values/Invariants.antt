use Rattle.std.proofs.Common.{◌≡◌, ◌++◌, drop, map}
use Rattle.scasp_search_rules.specs.Successors.Reading.{con_under}
use Rattle.scasp_unify.specs.Solving.{sub_of}
use Rattle.scasp_fixed.proofs.telling.all_with_values.Given as goal

abbrev pub invariant-loop-list : goal.invariant-loop-list
invariant-loop-list l = l.made ++ map (map (con_under (sub_of l.values))) (drop l.list-index l.lists) ≡ map (map (con_under (sub_of l.values))) l.lists
