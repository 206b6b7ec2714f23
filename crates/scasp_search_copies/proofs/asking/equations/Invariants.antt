use Rattle.std.proofs.Common.{◌≡◌, map, take}
use Rattle.scasp_search_rules.specs.Successors.Regions.{equation}
use Rattle.scasp_search_copies.proofs.asking.equations.Given as goal

abbrev pub invariant-loop-binding : goal.invariant-loop-binding
invariant-loop-binding l = l.made ≡ map equation (take l.binding-index l.bindings)
