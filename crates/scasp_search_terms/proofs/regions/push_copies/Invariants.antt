use Rattle.std.proofs.Common.{◌≡◌, ◌++◌, drop}
use Rattle.scasp_search_terms.proofs.regions.push_copies.Given as goal

abbrev pub invariant-loop-constraint : goal.invariant-loop-constraint
invariant-loop-constraint l = l.list ++ drop l.constraint-index l.constraints ≡ l.fn.list ++ l.constraints
