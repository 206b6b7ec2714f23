use Rattle.std.proofs.Common.{◌≡◌, ◌∷◌, ◌++◌}
use Rattle.std.specs.Vec.Iter.{into_iter_items}
use Rattle.scasp_search_calls.proofs.cases.lists.with_first.Given as goal

abbrev pub invariant-loop-later : goal.invariant-loop-later
invariant-loop-later g l = l.made ++ into_iter_items l.later-iterator ≡ l.fn.item ∷ l.fn.list
