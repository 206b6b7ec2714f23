use Rattle.std.specs.Int.{w128}
use Rattle.std.proofs.lemmas.Int.{to_z-of_z}
use Rattle.scasp_num.proofs.Numbers.{number-at}
use Rattle.scasp_num.proofs.rational.Rat.from_parts.Goals as goal

pub returns : goal.returns
returns c = number-at _ _ _ (to_z-of_z w128 c.args.num c.ranges.num) (to_z-of_z w128 c.args.den c.ranges.den)
