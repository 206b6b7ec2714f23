use Rattle.std.proofs.Common.{◌≡◌, ◌++◌, map, take}
use Rattle.scasp_checker_rules.specs.PairLists.{con_raised}
use Rattle.scasp_disjoint.proofs.raising.push_raised.Given as goal

abbrev pub invariant-loop-constraint : goal.invariant-loop-constraint
invariant-loop-constraint l = l.list ≡ l.fn.list ++ map (con_raised l.raising.free l.raising.by) (take l.constraint-index l.constraints)
