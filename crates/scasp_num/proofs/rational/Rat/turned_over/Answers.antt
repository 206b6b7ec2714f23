use Rattle.std.proofs.Common.{subst, ℤ, ◌∙◌, ◌≡◌, to_z, of_z}
use Rattle.std.specs.Int.{w128}
use Rattle.scasp_num.specs.Arithmetic.{lowest}
use Rattle.scasp_num.specs.Number.{InRange}
use Rattle.scasp_num.proofs.Numbers.{stored}
use Rattle.scasp_num.proofs.Exact.{turned-some}
use Rattle.scasp_num.proofs.rational.Rat.turned_over.Goals as goal

pub unreachable-requires : goal.unreachable-requires
unreachable-requires c =
    let q = c.args.self.now in
    let den : to_z w128 (of_z w128 c.den.result) ≡ q.den = stored c.den.result c.den.ensures.range ∙ c.den.ensures.value in
    let num : to_z w128 (of_z w128 c.num.result) ≡ q.num = stored c.num.result c.num.ensures.range ∙ c.num.ensures.value in
    turned-some q (subst (λ (x : ℤ). InRange x) c.num.ensures.value c.num.ensures.range) (subst (λ (x : ℤ). InRange x) c.den.ensures.value c.den.ensures.range) c.requires (c.in-Err.ensures ∙ (λ i. lowest (den i) (num i)))
