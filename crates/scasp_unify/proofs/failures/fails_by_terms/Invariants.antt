use Rattle.std.proofs.Common.{◌≡◌, drop}
use Rattle.std.specs.List.{list_any}
use Rattle.scasp_unify.specs.TermFailures.{is_refuted}
use Rattle.scasp_unify.proofs.failures.fails_by_terms.Given as goal

abbrev pub invariant-loop-constraint : goal.invariant-loop-constraint
invariant-loop-constraint l = list_any (is_refuted l.constraints) l.constraints ≡ list_any (is_refuted l.constraints) (drop l.constraint-index l.constraints)
