use Rattle.scasp_law_instances.proofs.InstanceLemmas.{has-instance}
use Rattle.scasp_law_instances.proofs.laws.accepted_has_an_instance.Goals as goal

pub returns : goal.returns
returns c = has-instance
