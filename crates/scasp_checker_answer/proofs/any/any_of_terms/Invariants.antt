use Rattle.std.proofs.Common.{◌≡◌, drop}
use Rattle.std.specs.List.{list_any}
use Rattle.scasp_checker_answer.proofs.any.any_of_terms.Given as goal

abbrev pub invariant-loop-k : goal.invariant-loop-k
invariant-loop-k g l = list_any (λ k. g.S.Scope.known l.scope k.x) (drop l.k-index l.coeffs) ≡ list_any (λ k. g.S.Scope.known l.scope k.x) l.coeffs
