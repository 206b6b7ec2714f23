use Rattle.scasp_unify.proofs.FailureLemmas.{counting}
use Rattle.scasp_unify.proofs.SortedLemmas.{one-more, without-valuation, entailed-counts, negation-sorted}
use Rattle.scasp_unify.proofs.laws.lists_stay_sorted.Goals as goal

pub returns-clause-kept : goal.returns-clause-kept
returns-clause-kept c = one-more

pub returns-clause-negated : goal.returns-clause-negated
returns-clause-negated c = negation-sorted

pub returns-clause-without : goal.returns-clause-without
returns-clause-without c = without-valuation

pub returns-clause-counting : goal.returns-clause-counting
returns-clause-counting c = counting

pub returns-clause-counts : goal.returns-clause-counts
returns-clause-counts c = entailed-counts
