use Rattle.scasp_unify.proofs.SimpleLemmas.{simple-holds, viewed}
use Rattle.scasp_unify.proofs.laws.simple_forms_hold.Goals as goal

pub returns-clause-holds : goal.returns-clause-holds
returns-clause-holds c = simple-holds

pub returns-clause-once : goal.returns-clause-once
returns-clause-once c = viewed
