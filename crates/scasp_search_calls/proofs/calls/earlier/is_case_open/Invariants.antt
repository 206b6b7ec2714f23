use Rattle.std.proofs.Common.{◌≡◌, drop, map}
use Rattle.scasp_search_rules.specs.Successors.Reading.{among}
use Rattle.scasp_search_calls.proofs.calls.earlier.is_case_open.Given as goal

abbrev pub invariant-loop-cover : goal.invariant-loop-cover
invariant-loop-cover l = among l.case (map (λ c. c.case) (drop l.cover-index l.covers)) ≡ among l.case (map (λ c. c.case) l.covers)
