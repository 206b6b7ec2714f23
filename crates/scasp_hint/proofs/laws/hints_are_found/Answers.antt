use Rattle.scasp_hint.proofs.FoundLemmas.{found-hint, found-nothing, found-large, found-terms, test-shown, found-unshown, found-sorted}
use Rattle.scasp_hint.proofs.laws.hints_are_found.Goals as goal

pub returns-clause-hint : goal.returns-clause-hint
returns-clause-hint c = found-hint

pub returns-clause-nothing : goal.returns-clause-nothing
returns-clause-nothing c = found-nothing

pub returns-clause-unshown : goal.returns-clause-unshown
returns-clause-unshown c = found-unshown

pub returns-clause-sorted : goal.returns-clause-sorted
returns-clause-sorted c = found-sorted

pub returns-clause-overflow : goal.returns-clause-overflow
returns-clause-overflow c = found-large

pub returns-clause-terms : goal.returns-clause-terms
returns-clause-terms c = found-terms

pub returns-clause-test : goal.returns-clause-test
returns-clause-test c = test-shown
