use Rattle.std.proofs.Common.{◌≡◌, ◌++◌, drop, map}
use Rattle.scasp_shorten.specs.Shortest.{shortest_list}
use Rattle.scasp_shorten.proofs.alternatives.shortest_lists.Given as goal

abbrev pub invariant-loop-list : goal.invariant-loop-list
invariant-loop-list l = l.made ++ map shortest_list (drop l.list-index l.lists) ≡ map shortest_list l.lists
