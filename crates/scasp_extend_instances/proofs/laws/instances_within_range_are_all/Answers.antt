use Rattle.scasp_extend_instances.proofs.WithinLemmas.{within-all}
use Rattle.scasp_extend_instances.proofs.laws.instances_within_range_are_all.Goals as goal

pub returns : goal.returns
returns c = within-all
