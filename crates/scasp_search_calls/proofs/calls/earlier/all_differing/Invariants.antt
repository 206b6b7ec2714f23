use Rattle.std.proofs.Common.{◌≡◌, ◌++◌, drop, filter, map}
use Rattle.scasp_search_rules.specs.Successors.Calls.{differing, is_opposite}
use Rattle.scasp_search_calls.proofs.calls.earlier.all_differing.Given as goal

abbrev pub invariant-loop-literal : goal.invariant-loop-literal
invariant-loop-literal l =
    l.made ++ map (differing l.lit) (filter (is_opposite l.state l.lit) (drop l.literal-index l.literals))
    ≡ map (differing l.lit) (filter (is_opposite l.state l.lit) l.literals)
