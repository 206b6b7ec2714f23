use Rattle.scasp_law_untouched.proofs.UntouchedLemmas.{untouched}
use Rattle.scasp_law_untouched.proofs.laws.untouched_keeps_its_faults.Goals as goal

pub returns : goal.returns
returns c = untouched
