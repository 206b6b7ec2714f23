use Rattle.std.proofs.Common.{◌≡◌, drop, nat_lt}
use Rattle.std.specs.List.{list_all}
use Rattle.scasp_constraint_store.proofs.knowing.knows_row.Given as goal

abbrev pub invariant-loop-coeff : goal.invariant-loop-coeff
invariant-loop-coeff l = list_all (λ k. nat_lt k.x l.count) (drop l.coeff-index l.coeffs) ≡ list_all (λ k. nat_lt k.x l.count) l.coeffs
