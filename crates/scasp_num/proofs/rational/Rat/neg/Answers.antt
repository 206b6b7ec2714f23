use Rattle.std.proofs.Common.{◌∙◌}
use Rattle.scasp_num.proofs.Numbers.{stored, negated, negation_of-parts}
use Rattle.scasp_num.proofs.rational.Rat.neg.Goals as goal

pub returns : goal.returns
returns c =
    negation_of-parts c.args.self.now c.from_parts.result _ _ (negated c.num.result c.args.self.now.num c.num.ensures.value c.num.ensures.range) (stored c.den.result c.den.ensures.range ∙ c.den.ensures.value) c.from_parts.ensures
