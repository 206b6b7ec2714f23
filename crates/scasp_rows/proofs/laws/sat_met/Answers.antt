use Rattle.scasp_rows.proofs.Completeness.{sat_met}
use Rattle.scasp_rows.proofs.laws.sat_met.Goals as goal

pub returns : goal.returns
returns c = sat_met
