use Rattle.scasp_checker_rules.proofs.OlderLemmas.{older}
use Rattle.scasp_checker_rules.proofs.laws.negatives_alone_are_accepted.Goals as goal

pub returns : goal.returns
returns c = older
