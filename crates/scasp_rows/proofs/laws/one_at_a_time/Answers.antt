use Rattle.scasp_rows.proofs.Independence.{one_at_a_time}
use Rattle.scasp_rows.proofs.laws.one_at_a_time.Goals as goal

pub returns : goal.returns
returns c = one_at_a_time
