use Rattle.std.proofs.Common.{rules, ◌≡◌, List, Some, to_z, of_z, sym, subst, ◌∙◌, arith}
use Rattle.std.specs.Int.{w128}
use Rattle.scasp_num.specs.declared.linear.Coeff.{Coeff}
use Rattle.scasp_num.specs.Number.{InRange}
use Rattle.scasp_list.specs.Each.{Each}
use Rattle.scasp_num.specs.Linear.{Ascends, others_times, put_of}
use Rattle.scasp_num.proofs.Numbers.{stored, plain}
use Rattle.scasp_num.proofs.Puts.{put_of-meets, others_times-range, others_times-Ascends}
use Rattle.scasp_num.proofs.Valuations.{put_of-holds}
use Rattle.scasp_num.proofs.linear.Row.put.Goals as goal

pub normal_form-requires : goal.normal_form-requires
normal_form-requires c =
    let r = c.args.self.now in
    let q = c.args.value.now in
    let terms : c.as_slice-terms.result.now ≡ r.coeffs = c.as_slice-terms.ensures ∙ c.coeffs.ensures.value in
    let den : to_z w128 (of_z w128 c.den.result) ≡ q.den = stored c.den.result c.den.ensures.range ∙ c.den.ensures.value in
    let others : Some c.in_ok-others.others ≡ others_times q.den c.args.x r.coeffs = c.in_ok-others.ensures ∙ (λ i. others_times (den i) c.args.x (terms i)) in
    let same : c.as_slice.result.now ≡ c.in_ok-others.others = c.as_slice.ensures in
    record {
      ascending = subst (λ (ks : List Coeff). Ascends ks) (sym same) (others_times-Ascends q.den c.args.x r.coeffs c.in_ok-others.others others c.coeffs.ensures.normal.ascending);
      constant_range = search rules;
      range = subst (λ (ks : List Coeff). Each (λ k. InRange k.c) ks) (sym same) (others_times-range q.den c.args.x r.coeffs c.in_ok-others.others others c.coeffs.ensures.normal.range);
    }

pub returns-clause-exact : goal.returns-clause-exact
unfolding put_of
returns-clause-exact c = grind (arith, plain)

pub returns-clause-meets : goal.returns-clause-meets
returns-clause-meets c = put_of-meets c.args.self.now c.in_ok-row.row c.args.x c.args.value.now c.coeffs.ensures.normal.ascending (returns-clause-exact c)

pub returns-clause-holds : goal.returns-clause-holds
returns-clause-holds c = put_of-holds c.args.self.now c.in_ok-row.row c.args.x c.args.value.now c.coeffs.ensures.normal.ascending (returns-clause-exact c)
