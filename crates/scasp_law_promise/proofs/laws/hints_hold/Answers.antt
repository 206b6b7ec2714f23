use Rattle.scasp_law_promise.proofs.InstanceLemmas.{test-true, void-never}
use Rattle.scasp_law_promise.proofs.laws.hints_hold.Goals as goal

pub returns-clause-test : goal.returns-clause-test
returns-clause-test c = test-true

pub returns-clause-void : goal.returns-clause-void
returns-clause-void c = void-never
