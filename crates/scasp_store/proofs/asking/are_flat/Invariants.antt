use Rattle.std.proofs.Common.{◌≡◌, drop, not}
use Rattle.std.specs.List.{list_all}
use Rattle.scasp_unify.specs.Solving.{sub_of}
use Rattle.scasp_unify.specs.TermFailures.{is_compound}
use Rattle.scasp_store.proofs.asking.are_flat.Given as goal

abbrev pub invariant-loop-coeff : goal.invariant-loop-coeff
invariant-loop-coeff l = list_all (λ k. not (is_compound (sub_of l.bound.now k.x))) (drop l.coeff-index l.coeffs) ≡ list_all (λ k. not (is_compound (sub_of l.bound.now k.x))) l.coeffs
