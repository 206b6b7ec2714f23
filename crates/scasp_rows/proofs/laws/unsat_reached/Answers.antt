use Rattle.scasp_rows.proofs.Soundness.{unsat_reached}
use Rattle.scasp_rows.proofs.laws.unsat_reached.Goals as goal

pub returns : goal.returns
returns c = unsat_reached
