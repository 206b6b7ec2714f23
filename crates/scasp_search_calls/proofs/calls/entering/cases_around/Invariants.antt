use Rattle.std.proofs.Common.{◌≡◌, ◌++◌, drop, filter, map, not}
use Rattle.scasp_search_calls.proofs.calls.entering.cases_around.Given as goal

abbrev pub invariant-loop-cover : goal.invariant-loop-cover
invariant-loop-cover l =
    l.made ++ map (λ c. c.case) (filter (λ c. not c.plain) (drop l.cover-index l.covers))
    ≡ map (λ c. c.case) (filter (λ c. not c.plain) l.covers)
