use Rattle.scasp_law_parts.proofs.BoundLemmas.{bound-read}
use Rattle.scasp_law_parts.proofs.laws.bindings_leave_the_list.Goals as goal

pub returns : goal.returns
returns c = bound-read
