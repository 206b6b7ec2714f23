use Rattle.std.proofs.Common.{◌≡◌, ◌++◌, filter, drop}
use Rattle.scasp_print_program.proofs.programs.negated_predicates.Given as goal

abbrev pub invariant-loop-pred : goal.invariant-loop-pred
invariant-loop-pred l =
    l.negated ++ filter (λ p. p.minus) (drop l.pred-index l.pred-items) ≡ filter (λ p. p.minus) l.pred-items
