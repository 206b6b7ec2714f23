use Rattle.std.proofs.Common.{pos, refl}
use Rattle.scasp_num.specs.Number.{zero_number}
use Rattle.scasp_num.proofs.SameNumber.{same_number}
use Rattle.scasp_sample.proofs.differing.zero.Goals as goal

pub returns : goal.returns
returns c = same_number c.in-Ok.zero zero_number (pos 0) (pos 1) (λ e. cc) c.in-Ok.ensures.exact refl
