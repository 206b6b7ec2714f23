use Rattle.std.proofs.Common.{pos, refl}
use Rattle.scasp_num.proofs.SameNumber.{same_number}
use Rattle.scasp_hint.specs.Sides.{one}
use Rattle.scasp_sample.proofs.differing.one.Goals as goal

pub returns : goal.returns
returns c = same_number c.in-Ok.one one (pos 1) (pos 1) (λ e. cc) c.in-Ok.ensures.exact refl
