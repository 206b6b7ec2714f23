use Rattle.std.proofs.Common.{◌≡◌, ap, ◌∙◌, unsigned_abs}
use Rattle.std.specs.Int.{w128}
use Rattle.std.proofs.lemmas.Int.{to_z-of_z}
use Rattle.scasp_num.specs.Arithmetic.{signs_differ}
use Rattle.scasp_num.proofs.Gcds.{gcd_pos}
use Rattle.scasp_num.proofs.Numbers.{unsigned_abs-pos, signs_differ-test, IsReduced-plain, IsLowest, IsLowest-from, IsLowest-IsReduced, IsLowest-InRange, IsLowest-number}
use Rattle.scasp_num.proofs.rational.Rat.in_lowest_terms.Goals as goal

pub nonzero_div-size : goal.nonzero_div-size
nonzero_div-size c =
    let d = to_z-of_z w128 c.args.d c.ranges.d in
    let parts : c.unsigned_abs-parts.result ≡ unsigned_abs c.args.d = c.unsigned_abs-parts.ensures.value ∙ ap unsigned_abs d in
    gcd_pos c.unsigned_abs-size.result c.unsigned_abs-parts.result c.gcd-g.result c.gcd-g.ensures.value (unsigned_abs-pos c.args.d c.requires) parts

pub nonzero_div-parts : goal.nonzero_div-parts
nonzero_div-parts c =
    let d = to_z-of_z w128 c.args.d c.ranges.d in
    let parts : c.unsigned_abs-parts.result ≡ unsigned_abs c.args.d = c.unsigned_abs-parts.ensures.value ∙ ap unsigned_abs d in
    gcd_pos c.unsigned_abs-size.result c.unsigned_abs-parts.result c.gcd-g.result c.gcd-g.ensures.value (unsigned_abs-pos c.args.d c.requires) parts

pub from_parts-requires-clause-reduced : goal.from_parts-requires-clause-reduced
from_parts-requires-clause-reduced c =
    let n = to_z-of_z w128 c.args.n c.ranges.n in
    let d = to_z-of_z w128 c.args.d c.ranges.d in
    let l : IsLowest c.args.n c.args.d c.in_ok-num.num c.in_ok-den.den = IsLowest-from _ _ _ _ _ _ _ _ (signs_differ-test _ _ ∙ (λ i. signs_differ (n i) (d i))) (c.unsigned_abs-size.ensures.value ∙ ap unsigned_abs n) (c.unsigned_abs-parts.ensures.value ∙ ap unsigned_abs d) c.gcd-g.ensures.value c.in_ok-num.ensures.value c.in_ok-den.ensures.value in
    let r = IsLowest-InRange _ _ _ _ l in
    IsReduced-plain _ _ r.0 r.1 (IsLowest-IsReduced _ _ _ _ c.requires l)

pub returns : goal.returns
returns c =
    let n = to_z-of_z w128 c.args.n c.ranges.n in
    let d = to_z-of_z w128 c.args.d c.ranges.d in
    let l : IsLowest c.args.n c.args.d c.in_ok-num.num c.in_ok-den.den = IsLowest-from _ _ _ _ _ _ _ _ (signs_differ-test _ _ ∙ (λ i. signs_differ (n i) (d i))) (c.unsigned_abs-size.ensures.value ∙ ap unsigned_abs n) (c.unsigned_abs-parts.ensures.value ∙ ap unsigned_abs d) c.gcd-g.ensures.value c.in_ok-num.ensures.value c.in_ok-den.ensures.value in
    (IsLowest-number _ _ _ _ _ l c.from_parts.ensures).0
