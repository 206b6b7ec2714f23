use Rattle.scasp_nmr.proofs.CheckLemmas.{denials-checked, rules-checked}
use Rattle.scasp_nmr.proofs.laws.checks_are_denials_and_odd_rules.Goals as goal

pub returns-clause-denials : goal.returns-clause-denials
returns-clause-denials c = denials-checked

pub returns-clause-rules : goal.returns-clause-rules
returns-clause-rules c = rules-checked
