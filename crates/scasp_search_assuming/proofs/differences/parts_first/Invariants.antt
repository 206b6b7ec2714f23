use Rattle.std.proofs.Common.{◌≡◌, ◌++◌, length}
use Rattle.std.specs.Vec.Iter.{into_iter_items}
use Rattle.scasp_search_rules.specs.Successors.Pairs.{pairs}
use Rattle.scasp_search_rules.specs.Successors.Variables.{next_variable}
use Rattle.scasp_syntax.specs.Tm.{items}
use Rattle.scasp_unify.specs.Negations.{new_parts}
use Rattle.scasp_search_assuming.proofs.differences.parts_first.Given as goal

abbrev pub invariant-loop-pair : goal.invariant-loop-pair
invariant-loop-pair g l =
    l.all ++ into_iter_items l.pair-iterator ≡ pairs (new_parts (next_variable (g.M.Situation.now l.at)) (length (items l.args))) l.args ++ l.fn.rest
