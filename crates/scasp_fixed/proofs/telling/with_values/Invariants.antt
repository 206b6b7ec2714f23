use Rattle.std.proofs.Common.{◌≡◌, ◌++◌, drop, map}
use Rattle.scasp_search_rules.specs.Successors.Reading.{con_under}
use Rattle.scasp_unify.specs.Solving.{sub_of}
use Rattle.scasp_fixed.proofs.telling.with_values.Given as goal

abbrev pub invariant-loop-constraint : goal.invariant-loop-constraint
invariant-loop-constraint l = l.made ++ map (con_under (sub_of l.values)) (drop l.constraint-index l.list) ≡ map (con_under (sub_of l.values)) l.list
