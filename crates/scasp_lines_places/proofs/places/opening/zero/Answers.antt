use Rattle.std.proofs.Common.{pos, refl}
use Rattle.scasp_num.proofs.SameNumber.{same_number}
use Rattle.scasp_lines.specs.Openings.{number_zero}
use Rattle.scasp_lines_places.proofs.places.opening.zero.Goals as goal

pub returns : goal.returns
returns c = same_number c.in-Ok.zero number_zero (pos 0) (pos 1) (λ e. cc) c.in-Ok.ensures.exact refl
