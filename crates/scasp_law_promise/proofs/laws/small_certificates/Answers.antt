use Rattle.scasp_law_promise.proofs.ExampleLemmas.{alone-bad, looped-bad, denied-bad, fact-right, even-right, loop-stable, odd-good, odd-not_right}
use Rattle.scasp_law_promise.proofs.laws.small_certificates.Goals as goal

pub returns-clause-alone : goal.returns-clause-alone
returns-clause-alone c = alone-bad

pub returns-clause-looped : goal.returns-clause-looped
returns-clause-looped c = looped-bad

pub returns-clause-fact : goal.returns-clause-fact
returns-clause-fact c = fact-right

pub returns-clause-even : goal.returns-clause-even
returns-clause-even c = even-right

pub returns-clause-model : goal.returns-clause-model
returns-clause-model c = λ v d. loop-stable

pub returns-clause-denied : goal.returns-clause-denied
returns-clause-denied c = denied-bad

pub returns-clause-odd : goal.returns-clause-odd
returns-clause-odd c = (odd-good, odd-not_right)
