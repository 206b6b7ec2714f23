use Rattle.std.proofs.Common.{◌≡◌, max, to_z, of_z, sym, ap, subst, ◌∙◌}
use Rattle.std.specs.Int.{w128}
use Rattle.std.proofs.lemmas.Int.{to_z-of_z}
use Rattle.scasp_num.specs.Linear.{Linear, IsNormal, normal_form, is_negated, divisor, shares}
use Rattle.scasp_num.proofs.Numbers.{stored}
use Rattle.scasp_num.proofs.NormalForms.{share, normal_form-IsNormal, normal_form-parts}
use Rattle.scasp_num.proofs.Meaning.{normal_form-meets_of}
use Rattle.scasp_num.proofs.normal.normal_form.Goals as goal

pub from_normal-requires : goal.from_normal-requires
from_normal-requires c =
    let r : Linear = record { coeffs = c.args.coeffs.now; constant = c.args.constant; op = c.args.op } in
    let plain : to_z w128 (of_z w128 c.args.constant) ≡ c.args.constant = to_z-of_z w128 c.args.constant c.ranges.constant in
    let n : c.is_negated-negate.result ≡ is_negated r = c.is_negated-negate.ensures ∙ (λ i. is_negated (record r { constant = plain i })) in
    let g : c.max-g.result ≡ divisor r = c.max-g.ensures ∙ ap (λ x. max x 1) c.common_divisor.ensures ∙ (λ i. divisor (record r { constant = plain i })) in
    let kept : c.in_ok-kept.kept ≡ shares (is_negated r) (divisor r) r.coeffs = c.in_ok-kept.ensures ∙ (λ i. shares (n i) (g i) r.coeffs) in
    let last : to_z w128 (of_z w128 c.share.result) ≡ share (is_negated r) (divisor r) r.constant =
    stored c.share.result c.share.ensures.range ∙ c.share.ensures.value ∙ (λ i. share (n i) (g i) (plain i)) in
    let all : ◌≡◌ {A = Linear} (record { coeffs = c.in_ok-kept.kept; constant = to_z w128 (of_z w128 c.share.result); op = c.args.op }) (normal_form r) = normal_form-parts r _ _ kept last in
    subst (λ (x : Linear). IsNormal x) (sym all) (normal_form-IsNormal r c.requires.ascending c.requires.constant_range c.requires.range)

pub returns-clause-value : goal.returns-clause-value
returns-clause-value c =
    let r : Linear = record { coeffs = c.args.coeffs.now; constant = c.args.constant; op = c.args.op } in
    let plain : to_z w128 (of_z w128 c.args.constant) ≡ c.args.constant = to_z-of_z w128 c.args.constant c.ranges.constant in
    let n : c.is_negated-negate.result ≡ is_negated r = c.is_negated-negate.ensures ∙ (λ i. is_negated (record r { constant = plain i })) in
    let g : c.max-g.result ≡ divisor r = c.max-g.ensures ∙ ap (λ x. max x 1) c.common_divisor.ensures ∙ (λ i. divisor (record r { constant = plain i })) in
    let kept : c.in_ok-kept.kept ≡ shares (is_negated r) (divisor r) r.coeffs = c.in_ok-kept.ensures ∙ (λ i. shares (n i) (g i) r.coeffs) in
    let last : to_z w128 (of_z w128 c.share.result) ≡ share (is_negated r) (divisor r) r.constant =
    stored c.share.result c.share.ensures.range ∙ c.share.ensures.value ∙ (λ i. share (n i) (g i) (plain i)) in
    let all : ◌≡◌ {A = Linear} (record { coeffs = c.in_ok-kept.kept; constant = to_z w128 (of_z w128 c.share.result); op = c.args.op }) (normal_form r) = normal_form-parts r _ _ kept last in
    c.from_normal.ensures ∙ all

pub returns-clause-meets : goal.returns-clause-meets
returns-clause-meets c =
    let r : Linear = record { coeffs = c.args.coeffs.now; constant = c.args.constant; op = c.args.op } in
    let plain : to_z w128 (of_z w128 c.args.constant) ≡ c.args.constant = to_z-of_z w128 c.args.constant c.ranges.constant in
    let n : c.is_negated-negate.result ≡ is_negated r = c.is_negated-negate.ensures ∙ (λ i. is_negated (record r { constant = plain i })) in
    let g : c.max-g.result ≡ divisor r = c.max-g.ensures ∙ ap (λ x. max x 1) c.common_divisor.ensures ∙ (λ i. divisor (record r { constant = plain i })) in
    let kept : c.in_ok-kept.kept ≡ shares (is_negated r) (divisor r) r.coeffs = c.in_ok-kept.ensures ∙ (λ i. shares (n i) (g i) r.coeffs) in
    let last : to_z w128 (of_z w128 c.share.result) ≡ share (is_negated r) (divisor r) r.constant =
    stored c.share.result c.share.ensures.range ∙ c.share.ensures.value ∙ (λ i. share (n i) (g i) (plain i)) in
    let all : ◌≡◌ {A = Linear} (record { coeffs = c.in_ok-kept.kept; constant = to_z w128 (of_z w128 c.share.result); op = c.args.op }) (normal_form r) = normal_form-parts r _ _ kept last in
    normal_form-meets_of r c.from_normal.result (c.from_normal.ensures ∙ all)
