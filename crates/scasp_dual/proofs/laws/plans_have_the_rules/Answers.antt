use Rattle.scasp_dual.proofs.PlanLemmas.{plans-predicates, plan_of-rules}
use Rattle.scasp_dual.proofs.laws.plans_have_the_rules.Goals as goal

pub returns-clause-predicates : goal.returns-clause-predicates
returns-clause-predicates c = plans-predicates

pub returns-clause-rules : goal.returns-clause-rules
returns-clause-rules c = plan_of-rules
