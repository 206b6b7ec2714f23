use Rattle.scasp_rows.proofs.Pointing.{point_met}
use Rattle.scasp_rows.proofs.laws.point_met.Goals as goal

pub returns : goal.returns
returns c = point_met
