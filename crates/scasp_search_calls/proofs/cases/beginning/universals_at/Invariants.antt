use Rattle.std.proofs.Common.{◌≡◌, drop}
use Rattle.scasp_search_rules.specs.Successors.Cases.{universals_at}
use Rattle.scasp_search_calls.proofs.cases.beginning.universals_at.Given as goal

abbrev pub invariant-loop-x : goal.invariant-loop-x
invariant-loop-x l = universals_at l.depth (drop l.x-index l.xs) l.made.items ≡ universals_at l.depth l.xs l.fn.made
