use Rattle.scasp_law_sorted.specs.Examples.{meets_loose}
use Rattle.scasp_law_sorted.proofs.laws.a_loose_list_is_asked.Goals as goal

pub returns : goal.returns
returns c = meets_loose
