use Rattle.scasp_unify.proofs.ResolverLemmas.{complete-list, idempotent, resolver-equal}
use Rattle.scasp_unify.proofs.laws.lists_are_unified.Goals as goal

pub returns-clause-solves : goal.returns-clause-solves
returns-clause-solves c = resolver-equal

pub returns-clause-complete : goal.returns-clause-complete
returns-clause-complete c = complete-list

pub returns-clause-idempotent : goal.returns-clause-idempotent
returns-clause-idempotent c = idempotent
