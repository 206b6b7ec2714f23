use Rattle.scasp_lines.proofs.BelowLemmas.{has-below, has-query}
use Rattle.scasp_lines.proofs.laws.lines_have_lines_below.Goals as goal

pub returns : goal.returns
returns c = record { below = has-below; query = has-query }
