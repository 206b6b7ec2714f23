use Rattle.scasp_hint_steps.proofs.PrunedLemmas.{pruned-used}
use Rattle.scasp_hint_steps.proofs.laws.pruned_steps_are_used.Goals as goal

pub returns : goal.returns
returns c = pruned-used
