use Rattle.std.proofs.Common.{◌≡◌, drop}
use Rattle.std.specs.List.{list_all}
use Rattle.scasp_unify.specs.Solving.{sub_of}
use Rattle.scasp_store.specs.Inside.Asking.{is_told}
use Rattle.scasp_store.proofs.asking.are_told.Given as goal

abbrev pub invariant-loop-coeff : goal.invariant-loop-coeff
invariant-loop-coeff l = list_all (λ k. is_told l.told (sub_of l.bound.now k.x)) (drop l.coeff-index l.coeffs) ≡ list_all (λ k. is_told l.told (sub_of l.bound.now k.x)) l.coeffs
