use Rattle.std.proofs.Common.{◌≡◌, ◌++◌, drop}
use Rattle.std.specs.List.{flat_map}
use Rattle.scasp_unify.specs.Solving.{sub_of}
use Rattle.scasp_unify.specs.Unification.{term_vars}
use Rattle.scasp_readings.proofs.constraints.push_row_vars.Given as goal

abbrev pub invariant-loop-coeff : goal.invariant-loop-coeff
invariant-loop-coeff l =
    l.found ++ flat_map (λ k. term_vars (sub_of l.bound.now k.x)) (drop l.coeff-index l.coeffs)
    ≡ l.fn.found ++ flat_map (λ k. term_vars (sub_of l.bound.now k.x)) l.coeffs
