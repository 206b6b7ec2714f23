use Rattle.scasp_checker_rules.proofs.ScopeLemmas.{scoped}
use Rattle.scasp_checker_rules.proofs.laws.accepted_lines_are_scoped.Goals as goal

pub returns : goal.returns
returns c = scoped
