use Rattle.scasp_unify.proofs.ValuationLemmas.{sorted-met, meets-point}
use Rattle.scasp_unify.proofs.laws.lists_are_decided.Goals as goal

pub returns-clause-met : goal.returns-clause-met
returns-clause-met c = sorted-met

pub returns-clause-point : goal.returns-clause-point
returns-clause-point c = meets-point
