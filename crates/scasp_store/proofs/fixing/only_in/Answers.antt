use Rattle.std.proofs.Common.{◌≢◌, ◌-ℤ◌, pos, of_z, sym, subst, to_z}
use Rattle.std.specs.Int.{w128}
use Rattle.scasp_list.specs.Each.{Each}
use Rattle.scasp_num.specs.Number.{InRange, IsFraction}
use Rattle.scasp_num.specs.declared.linear.Coeff.{Coeff}
use Rattle.scasp_num.proofs.Numbers.{negated, stored}
use Rattle.scasp_store.proofs.FixLemmas.{only_one}
use Rattle.scasp_store.proofs.fixing.only_in.Goals as goal

pub returns-in-Ok : goal.returns-in-Ok
returns-in-Ok c =
    let only = c.in_ok-coeff.ensures in
    let normal = c.constant.ensures.normal in
    let k = c.in_ok-coeff.coeff in
    let above = (subst (λ ks. Each (λ (k : Coeff). k.c ≢ pos 0) ks) only.coeffs normal.nonzero).0 in
    let small = (subst (λ ks. Each (λ (k : Coeff). InRange k.c) ks) only.coeffs normal.range).0 in
    let top = negated c.constant.result c.args.row.now.constant c.constant.ensures.value (subst InRange (sym c.constant.ensures.value) normal.constant_range) in
    let bottom = stored k.c small in
    let found = subst (λ b. IsFraction c.in-Ok.value (to_z w128 (of_z w128 (pos 0 -ℤ to_z w128 (of_z w128 c.constant.result)))) b) bottom c.in-Ok.ensures.exact in
    only_one c.args.row.now k c.in-Ok.value only above (subst (λ a. IsFraction c.in-Ok.value a k.c) top found)
