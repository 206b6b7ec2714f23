use Rattle.std.proofs.Common.{rules, ◌≡◌, ℤ, not, to_z, of_z, sym, ap, subst, ◌∙◌}
use Rattle.std.specs.Int.{w128}
use Rattle.scasp_num.specs.Number.{InRange}
use Rattle.scasp_num.specs.Linear.{Linear, IsNormal, is_symmetric, negated, negated_if, negation, opposite}
use Rattle.scasp_num.proofs.Numbers.{stored}
use Rattle.scasp_num.proofs.NormalForms.{negation-IsNormal}
use Rattle.scasp_num.proofs.Meaning.{negation-meets}
use Rattle.scasp_num.proofs.Valuations.{negation-holds}
use Rattle.scasp_num.proofs.linear.Row.negate.Goals as goal

pub from_normal-requires : goal.from_normal-requires
from_normal-requires c =
    let r = c.args.self.now in
    let s : c.is_symmetric-negate.result ≡ is_symmetric r.op = c.is_symmetric-negate.ensures ∙ ap is_symmetric c.op-op.ensures.value in
    let terms : c.as_slice-terms.result.now ≡ r.coeffs = c.as_slice-terms.ensures ∙ c.coeffs.ensures.value in
    let plain : to_z w128 (of_z w128 c.constant.result) ≡ r.constant =
    stored c.constant.result (subst (λ (x : ℤ). InRange x) (sym c.constant.ensures.value) c.constant.ensures.normal.constant_range) ∙ c.constant.ensures.value in
    let last : to_z w128 (of_z w128 c.negated_if-constant.result) ≡ negated_if (not (is_symmetric r.op)) r.constant =
    stored c.negated_if-constant.result c.negated_if-constant.ensures.range ∙ c.negated_if-constant.ensures.value ∙ (λ i. negated_if (not (s i)) (plain i)) in
    let coeffs : c.in_ok-coeffs.coeffs ≡ negated (not (is_symmetric r.op)) r.coeffs = c.in_ok-coeffs.ensures ∙ (λ i. negated (not (s i)) (terms i)) in
    let op : c.opposite.result ≡ opposite r.op = c.opposite.ensures ∙ ap opposite c.op-op.ensures.value in
    let all : ◌≡◌ {A = Linear} (record { coeffs = c.in_ok-coeffs.coeffs; constant = to_z w128 (of_z w128 c.negated_if-constant.result); op = c.opposite.result }) (negation r) =
    λ i. record { coeffs = coeffs i; constant = last i; op = op i } in
    subst (λ (x : Linear). IsNormal x) (sym all) (negation-IsNormal r c.op-op.ensures.normal)

pub returns-clause-value : goal.returns-clause-value
returns-clause-value c = search rules

pub returns-clause-meets : goal.returns-clause-meets
returns-clause-meets c = negation-meets c.args.self.now c.from_normal.result (returns-clause-value c)

pub returns-clause-holds : goal.returns-clause-holds
returns-clause-holds c = negation-holds c.args.self.now c.from_normal.result (returns-clause-value c)
