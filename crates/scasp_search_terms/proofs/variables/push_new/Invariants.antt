use Rattle.std.proofs.Common.{◌≡◌, ◌++◌, replicate}
use Rattle.scasp_search_terms.proofs.variables.push_new.Given as goal

abbrev pub invariant-loop : goal.invariant-loop
invariant-loop l = l.made ≡ l.fn.made ++ replicate l.counter (record { kind = l.kind; depth = l.depth })
