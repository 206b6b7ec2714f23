use Rattle.scasp_unify.proofs.UnificationLemmas.{unifier-solves, unifier-general}
use Rattle.scasp_unify.proofs.laws.unification_is_most_general.Goals as goal

pub returns-clause-solves : goal.returns-clause-solves
returns-clause-solves c = unifier-solves

pub returns-clause-general : goal.returns-clause-general
returns-clause-general c = unifier-general
