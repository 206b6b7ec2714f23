use Rattle.std.proofs.Common.{rules, ◌≡◌, List, [], Some, to_z, of_z, sym, subst, ◌∙◌, arith}
use Rattle.std.specs.Int.{w128}
use Rattle.scasp_num.specs.declared.linear.Coeff.{Coeff}
use Rattle.scasp_num.specs.Number.{InRange}
use Rattle.scasp_list.specs.Each.{Each}
use Rattle.scasp_num.specs.Linear.{Ascends}
use Rattle.scasp_num.specs.Sums.{summed, whole, normal_of}
use Rattle.scasp_num.proofs.Numbers.{stored, plain}
use Rattle.scasp_num.proofs.Wholes.{summed-Rises, whole-Ascends, whole-range, normal_of-meets}
use Rattle.scasp_num.proofs.PairSums.{normal_of-holds}
use Rattle.scasp_num.proofs.linear.Row.normal.Goals as goal

pub normal_form-requires : goal.normal_form-requires
normal_form-requires c =
    let q = c.args.constant.now in
    let pairs = c.args.pairs.now in
    let sums : Some c.in_ok-sums.sums ≡ summed [] pairs = c.in_ok-sums.ensures ∙ (λ i. summed [] (c.as_slice.ensures i)) in
    let l : to_z w128 (of_z w128 c.in_ok-l.l) ≡ c.in_ok-l.l = stored c.in_ok-l.l c.in_ok-l.ensures.range in
    let coeffs : Some c.in_ok-coeffs.coeffs ≡ whole c.in_ok-l.l c.in_ok-sums.sums = c.in_ok-coeffs.ensures ∙ (λ i. whole (l i) (c.as_slice-3.ensures i)) in
    let same : c.as_slice-4.result.now ≡ c.in_ok-coeffs.coeffs = c.as_slice-4.ensures in
    record {
      ascending = subst (λ (ks : List Coeff). Ascends ks) (sym same) (whole-Ascends c.in_ok-l.l c.in_ok-sums.sums c.in_ok-coeffs.coeffs coeffs (summed-Rises [] pairs c.in_ok-sums.sums sums tt));
      constant_range = search rules;
      range = subst (λ (ks : List Coeff). Each (λ k. InRange k.c) ks) (sym same) (whole-range c.in_ok-l.l c.in_ok-sums.sums c.in_ok-coeffs.coeffs coeffs);
    }

pub returns-clause-exact : goal.returns-clause-exact
unfolding normal_of
returns-clause-exact c = grind (arith, plain)

pub returns-clause-meets : goal.returns-clause-meets
returns-clause-meets c = normal_of-meets c.args.pairs.now c.args.constant.now c.args.op c.in_ok-row.row (returns-clause-exact c)

pub returns-clause-holds : goal.returns-clause-holds
returns-clause-holds c = normal_of-holds c.args.pairs.now c.args.constant.now c.args.op c.in_ok-row.row (returns-clause-exact c)
