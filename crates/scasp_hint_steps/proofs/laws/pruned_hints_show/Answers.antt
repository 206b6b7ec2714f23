use Rattle.scasp_hint_steps.proofs.FoundLemmas.{pruned-in_range, pruned-shows, pruned-unshown}
use Rattle.scasp_hint_steps.proofs.laws.pruned_hints_show.Goals as goal

pub returns-clause-hint : goal.returns-clause-hint
returns-clause-hint c = pruned-shows

pub returns-clause-multipliers : goal.returns-clause-multipliers
returns-clause-multipliers c = pruned-in_range

pub returns-clause-unshown : goal.returns-clause-unshown
returns-clause-unshown c = pruned-unshown
