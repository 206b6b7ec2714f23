use Rattle.scasp_rows.proofs.Fitting.{alternatives_made}
use Rattle.scasp_rows.proofs.laws.alternatives_made.Goals as goal

pub returns : goal.returns
returns c = alternatives_made
