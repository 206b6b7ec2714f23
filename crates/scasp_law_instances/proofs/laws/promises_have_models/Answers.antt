use Rattle.scasp_law_instances.proofs.ModelLemmas.{has-model}
use Rattle.scasp_law_instances.proofs.laws.promises_have_models.Goals as goal

pub returns : goal.returns
returns c = has-model
