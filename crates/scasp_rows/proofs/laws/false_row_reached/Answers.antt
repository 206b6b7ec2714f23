use Rattle.scasp_rows.proofs.Reaching.{false_reached}
use Rattle.scasp_rows.proofs.laws.false_row_reached.Goals as goal

pub returns : goal.returns
returns c = false_reached
