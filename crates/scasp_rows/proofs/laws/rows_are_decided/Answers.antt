use Rattle.scasp_rows.proofs.PlainLemmas.{rows-decided}
use Rattle.scasp_rows.proofs.laws.rows_are_decided.Goals as goal

pub returns : goal.returns
returns c = rows-decided
