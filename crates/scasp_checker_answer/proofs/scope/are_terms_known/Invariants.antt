use Rattle.std.proofs.Common.{◌≡◌, drop}
use Rattle.std.specs.List.{list_all}
use Rattle.scasp_checker_answer.proofs.scope.are_terms_known.Given as goal

abbrev pub invariant-loop-k : goal.invariant-loop-k
invariant-loop-k g l =
    list_all (λ j. g.S.Scope.known l.scope j.x) (drop l.k-index l.coeffs) ≡ list_all (λ j. g.S.Scope.known l.scope j.x) l.coeffs
