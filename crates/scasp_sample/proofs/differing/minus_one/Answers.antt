use Rattle.std.proofs.Common.{pos, negsuc, refl}
use Rattle.scasp_num.proofs.SameNumber.{same_number}
use Rattle.scasp_hint.specs.Sides.{minus_one}
use Rattle.scasp_sample.proofs.differing.minus_one.Goals as goal

pub returns : goal.returns
returns c = same_number c.in-Ok.minus_one minus_one (negsuc 0) (pos 1) (λ e. cc) c.in-Ok.ensures.exact refl
