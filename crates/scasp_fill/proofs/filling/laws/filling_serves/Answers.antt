use Rattle.scasp_fill.proofs.FillingLemmas.FillLemmas.{filled-accepted}
use Rattle.scasp_fill.proofs.filling.laws.filling_serves.Goals as goal

pub returns : goal.returns
returns c = filled-accepted
