use Rattle.std.proofs.Common.{◌≡◌, map, take}
use Rattle.scasp_search_rules.specs.Successors.Cases.{kept_literal}
use Rattle.scasp_search_calls.proofs.cases.kept.kept_literals.Given as goal

abbrev pub invariant-loop-literal : goal.invariant-loop-literal
invariant-loop-literal l = l.made ≡ map (kept_literal l.state l.universals) (take l.literal-index l.state.literals)
