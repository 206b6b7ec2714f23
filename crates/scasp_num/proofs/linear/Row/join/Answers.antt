use Rattle.std.proofs.Common.{rules, ◌≡◌, ℤ, pos, List, Some, to_z, of_z, sym, subst, ◌∙◌, arith}
use Rattle.std.specs.Int.{w128}
use Rattle.scasp_num.specs.declared.linear.Coeff.{Coeff}
use Rattle.scasp_num.specs.Number.{InRange}
use Rattle.scasp_list.specs.Each.{Each}
use Rattle.scasp_num.specs.Linear.{Ascends, coefficient, others_times, merged, join_of}
use Rattle.scasp_num.proofs.Numbers.{stored, plain}
use Rattle.scasp_num.proofs.Puts.{others_times-range, others_times-Ascends}
use Rattle.scasp_num.proofs.Joins.{join_of-meets, merged-range, merged-Ascends, coefficient-range}
use Rattle.scasp_num.proofs.Valuations.{join_of-holds}
use Rattle.scasp_num.proofs.linear.Row.join.Goals as goal

pub normal_form-requires : goal.normal_form-requires
normal_form-requires c =
    let r = c.args.self.now in
    let x = c.args.x in
    let y = c.args.y in
    let normal = c.coeffs.ensures.normal in
    let terms : c.as_slice-terms.result.now ≡ r.coeffs = c.as_slice-terms.ensures ∙ c.coeffs.ensures.value in
    let others : Some c.in_ok-others.others ≡ others_times (pos 1) x r.coeffs = c.in_ok-others.ensures ∙ (λ i. others_times (pos 1) x (terms i)) in
    let was : c.coefficient.result ≡ coefficient x r.coeffs = c.coefficient.ensures ∙ (λ i. coefficient x (terms i)) in
    let range : InRange (coefficient x r.coeffs) = coefficient-range x r.coeffs normal.range in
    let plain : to_z w128 (of_z w128 c.coefficient.result) ≡ coefficient x r.coeffs = stored c.coefficient.result (subst (λ (z : ℤ). InRange z) (sym was) range) ∙ was in
    let slice : c.as_slice.result.now ≡ c.in_ok-others.others = c.as_slice.ensures in
    let out : Some c.in_ok-coeffs.coeffs ≡ merged y (coefficient x r.coeffs) c.in_ok-others.others = c.in_ok-coeffs.ensures ∙ (λ i. merged y (plain i) (slice i)) in
    let same : c.as_slice-2.result.now ≡ c.in_ok-coeffs.coeffs = c.as_slice-2.ensures in
    record {
      ascending = subst (λ (ks : List Coeff). Ascends ks) (sym same) (merged-Ascends y (coefficient x r.coeffs) range c.in_ok-others.others c.in_ok-coeffs.coeffs out (others_times-Ascends (pos 1) x r.coeffs c.in_ok-others.others others normal.ascending));
      constant_range = search rules;
      range = subst (λ (ks : List Coeff). Each (λ k. InRange k.c) ks) (sym same) (merged-range y (coefficient x r.coeffs) range c.in_ok-others.others c.in_ok-coeffs.coeffs out (others_times-range (pos 1) x r.coeffs c.in_ok-others.others others normal.range));
    }

pub returns-clause-exact : goal.returns-clause-exact
unfolding join_of
returns-clause-exact c = grind (arith, plain)

pub returns-clause-meets : goal.returns-clause-meets
returns-clause-meets c = join_of-meets c.args.self.now c.in_ok-row.row c.args.x c.args.y c.coeffs.ensures.normal.ascending (returns-clause-exact c)

pub returns-clause-holds : goal.returns-clause-holds
returns-clause-holds c = join_of-holds c.args.self.now c.in_ok-row.row c.args.x c.args.y c.coeffs.ensures.normal.ascending (returns-clause-exact c)
